-- The sizes of a script's cluster are read within their limits, and no later line changes them.
use Rattle.std.proofs.Common.{◌≡◌, ℕ, ◌+◌, ◌≤◌, Bool, true, false, List, [], ◌∷◌, refl, subst, arith}
use Rattle.std.specs.List.{slice_split}
use Rattle.std.specs.Prelude.{◌&&◌, ◌==◌, nat_le, nat_lt, length, Option, Some, None, option_map, option_and_then, Result, Ok, Err, IfSome, IfOk, if◌then◌else◌, codes, bytes_eq}
use Rattle.std.proofs.lemmas.Bool.Decides.{nat_tests}
use Rattle.ax_types.specs.declared.limits.TheConstants.{MAX_TIMEOUT}
use Rattle.ax_types.specs.declared.scripts.Script.{Script}
use Rattle.ax_types.specs.declared.statuses.Why.{Why}
use Rattle.ax_types.specs.declared.statuses.Why.TheVariants as why
use Rattle.spec_text.specs.Words as words
use Rattle.spec_script.specs.Scripts as scripts
use Rattle.law_script.specs.ScriptsWithin as laws

-- ---- what holds of what may be there

if_so : {A : Type 0} (P : A → Type 0) (b : Bool) (x : A) → (b ≡ true → P x) → IfSome (if b then Some x else None) P
if_so P true x h = h refl
if_so P false x h = tt

if_else_none : {A : Type 0} (P : A → Type 0) (b : Bool) (o : Option A) → IfSome o P → IfSome (if b then o else None) P
if_else_none P true o h = h
if_else_none P false o h = tt

if_none : {A : Type 0} (P : A → Type 0) (b : Bool) (o : Option A) → IfSome o P → IfSome (if b then None else o) P
if_none P true o h = tt
if_none P false o h = h

if_either : {A : Type 0} (P : A → Type 0) (b : Bool) (o p : Option A) → IfSome o P → IfSome p P → IfSome (if b then o else p) P
if_either P true o p h g = h
if_either P false o p h g = g

mapped : {A B : Type 0} (P : A → Type 0) (Q : B → Type 0) (f : A → B) (o : Option A) → IfSome o P → ((x : A) → P x → Q (f x)) → IfSome (option_map f o) Q
mapped P Q f None h k = tt
mapped P Q f (Some x) h k = k x h

mapped_any : {A B : Type 0} (Q : B → Type 0) (f : A → B) (o : Option A) → ((x : A) → Q (f x)) → IfSome (option_map f o) Q
mapped_any Q f None k = tt
mapped_any Q f (Some x) k = k x

then_some : {A B : Type 0} (P : A → Type 0) (Q : B → Type 0) (f : A → Option B) (o : Option A) → IfSome o P → ((x : A) → P x → IfSome (f x) Q) → IfSome (option_and_then f o) Q
then_some P Q f None h k = tt
then_some P Q f (Some x) h k = k x h

then_any : {A B : Type 0} (Q : B → Type 0) (f : A → Option B) (o : Option A) → ((x : A) → IfSome (f x) Q) → IfSome (option_and_then f o) Q
then_any Q f None k = tt
then_any Q f (Some x) k = k x

both_some : {A B C : Type 0} (P : A → Type 0) (Q : B → Type 0) (R : C → Type 0) (f : A → B → C) (x : Option A) (y : Option B)
    → IfSome x P → IfSome y Q → ((a : A) (b : B) → P a → Q b → R (f a b)) → IfSome (words.both f x y) R
both_some P Q R f None y h g k = tt
both_some P Q R f (Some a) None h g k = tt
both_some P Q R f (Some a) (Some b) h g k = k a b h g

both_any : {A B C : Type 0} (R : C → Type 0) (f : A → B → C) (x : Option A) (y : Option B) → ((a : A) (b : B) → R (f a b)) → IfSome (words.both f x y) R
both_any R f None y k = tt
both_any R f (Some a) None k = tt
both_any R f (Some a) (Some b) k = k a b

-- ---- numbers and the cluster line

abbrev pub IsFrom : ℕ → ℕ → ℕ → Type 0
IsFrom low high n = (low ≤ n) × (n ≤ high)

both_true : (a b : Bool) → (a && b) ≡ true → (a ≡ true) × (b ≡ true)
both_true true b e = (refl, e)
both_true false b e = cc

at_most : (m n : ℕ) → nat_le m n ≡ true → m ≤ n
at_most m n e = grind (arith, nat_tests)

within_is : (low high n : ℕ) → IfSome (words.within low high n) (IsFrom low high)
within_is low high n = if_so (IsFrom low high) (nat_le low n && nat_le n high) n (λ e.
    let p = both_true (nat_le low n) (nat_le n high) e in (at_most low n p.0, at_most n high p.1))

number_is : (low high : ℕ) (w : List ℕ) → IfSome (words.number_within low high w) (IsFrom low high)
number_is low high w = then_any (IsFrom low high) (words.within low high) (words.number_of w) (within_is low high)

abbrev pub IsDraftWithin : scripts.Draft → Type 0
IsDraftWithin d = laws.IsScriptWithin d.script

sized_is : (n m t : words.Word) → IfSome (scripts.sized_draft n m t) IsDraftWithin
sized_is n m t =
    then_some (IsFrom 1 9) IsDraftWithin (λ nodes. words.both (scripts.new_draft nodes) (words.client_of 16 m) (words.timeout_of t)) (words.node_of 9 n) (number_is 1 9 n) (λ nodes h.
    both_some (IsFrom 1 16) (IsFrom 1 MAX_TIMEOUT) IsDraftWithin (scripts.new_draft nodes) (words.client_of 16 m) (words.timeout_of t) (number_is 1 16 m) (number_is 1 MAX_TIMEOUT t)
    (λ clients timeout c g. record { some = h.0; nodes = h.1; clients = c.1; low = g.0; high = g.1 }))

cluster_is : (ws : List words.Word) → IfSome (scripts.cluster_draft ws) IsDraftWithin
cluster_is [] = tt
cluster_is (a ∷ []) = tt
cluster_is (a ∷ n ∷ []) = tt
cluster_is (a ∷ n ∷ b ∷ []) = tt
cluster_is (a ∷ n ∷ b ∷ m ∷ []) = tt
cluster_is (a ∷ n ∷ b ∷ m ∷ c ∷ []) = tt
cluster_is (a ∷ n ∷ b ∷ m ∷ c ∷ t ∷ []) = if_else_none IsDraftWithin (scripts.is_cluster_line a b c) (scripts.sized_draft n m t) (sized_is n m t)
cluster_is (a ∷ n ∷ b ∷ m ∷ c ∷ t ∷ u ∷ ws) = tt

-- ---- later lines

-- a script of the same cluster
same_sizes : (s t : Script) → s.nodes ≡ t.nodes → s.clients ≡ t.clients → s.timeout ≡ t.timeout → laws.IsScriptWithin s → laws.IsScriptWithin t
same_sizes s t n c e h = record {
  some = subst (λ k. 1 ≤ k) n h.some;
  nodes = subst (λ k. k ≤ 9) n h.nodes;
  clients = subst (λ k. k ≤ 16) c h.clients;
  low = subst (λ k. 1 ≤ k) e h.low;
  high = subst (λ k. k ≤ MAX_TIMEOUT) e h.high;
}

set_up_is : (number : ℕ) (ws : List words.Word) (d : scripts.Draft) → IsDraftWithin d → IfSome (scripts.after_set_up_line number ws d) IsDraftWithin
set_up_is number ws d h =
    if_none IsDraftWithin (scripts.is_set_up d.script) (option_map (scripts.with_line number d) (scripts.line_of d.script.nodes d.script.clients ws))
    (mapped_any IsDraftWithin (scripts.with_line number d) (scripts.line_of d.script.nodes d.script.clients ws) (λ l. same_sizes d.script (scripts.with_line number d l).script refl refl refl h))

caller_is : (number : ℕ) (ws : List words.Word) (d : scripts.Draft) → IsDraftWithin d → IfSome (scripts.after_caller number ws d) IsDraftWithin
caller_is number [] d h = tt
caller_is number (i ∷ []) d h = tt
caller_is number (i ∷ n ∷ ws) d h =
    then_any IsDraftWithin _ (scripts.caller_of d i) (λ caller.
    both_any IsDraftWithin (scripts.with_caller number d caller) _ _ (λ count call. same_sizes d.script (scripts.with_caller number d caller count call).script refl refl refl h))

plan_is : (ws : List words.Word) (d : scripts.Draft) → IsDraftWithin d → IfSome (scripts.after_plan ws d) IsDraftWithin
plan_is [] d h = tt
plan_is (r ∷ ws) d h = both_any IsDraftWithin (scripts.with_plan d) _ _ (λ round s. same_sizes d.script (scripts.with_plan d round s).script refl refl refl h)

feed_is : (ws : List words.Word) (d : scripts.Draft) → IsDraftWithin d → IfSome (scripts.after_feed ws d) IsDraftWithin
feed_is ws d h = if_else_none IsDraftWithin (nat_lt (length d.script.feeds) 16) _ (mapped_any IsDraftWithin (scripts.with_feed d) _ (λ feed. same_sizes d.script (scripts.with_feed d feed).script refl refl refl h))

race_is : (number : ℕ) (ws : List words.Word) (d : scripts.Draft) → IsDraftWithin d → IfSome (scripts.after_race_line number ws d) IsDraftWithin
race_is number [] d h = tt
race_is number (w ∷ ws) d h =
    if_either IsDraftWithin (bytes_eq w (codes "caller")) _ _ (caller_is number ws d h)
    (if_either IsDraftWithin (bytes_eq w (codes "at")) _ _ (plan_is ws d h)
    (if_either IsDraftWithin (bytes_eq w (codes "feed")) _ _ (feed_is ws d h) (set_up_is number (w ∷ ws) d h)))

at_line_is : (number : ℕ) (d : scripts.Draft) → IsDraftWithin d → IsDraftWithin (scripts.at_line number d)
at_line_is number d h = same_sizes d.script (scripts.at_line number d).script refl refl refl h

words_is : (race : Bool) (number : ℕ) (ws : List words.Word) (d : scripts.Draft) → IsDraftWithin d → IfSome (scripts.after_words race number ws d) IsDraftWithin
words_is race number ws d h =
    mapped IsDraftWithin IsDraftWithin (scripts.at_line number) _ (if_either IsDraftWithin race _ _ (race_is number ws d h) (set_up_is number ws d h)) (λ e g. at_line_is number e g)

skipped_is : (number : ℕ) (b : Bool) (d : scripts.Draft) → IsDraftWithin d → IsDraftWithin (if b then d else scripts.at_line number d)
skipped_is number true d h = h
skipped_is number false d h = at_line_is number d h

-- ---- all lines

abbrev pub MayBeWithin : Option scripts.Draft → Type 0
MayBeWithin o = IfSome o IsDraftWithin

unless_is : {A : Type 0} (P : A → Type 0) (o : Option Why) (r : Result A Why) → IfOk r P → IfOk (scripts.unless_refused o r) P
unless_is P None r h = h
unless_is P (Some reason) r h = tt

ok_either : {A E : Type 0} (P : A → Type 0) (b : Bool) (r s : Result A E) → IfOk r P → IfOk s P → IfOk (if b then r else s) P
ok_either P true r s h g = h
ok_either P false r s h g = g

or_is : (o : Option scripts.Draft) → MayBeWithin o → IfOk (scripts.or_refused why.Grammar (option_map (λ (e : scripts.Draft). Some e) o)) MayBeWithin
or_is None h = tt
or_is (Some d) h = h

cluster_line_is : (p : scripts.LinePosition) (l : List ℕ) (o : Option scripts.Draft) → MayBeWithin o → IfOk (scripts.after_cluster p l o) MayBeWithin
cluster_line_is p l None h = tt
cluster_line_is p l (Some d) h = unless_is MayBeWithin (scripts.in_limits p.is_past l) (Ok (Some (scripts.at_line p.number d))) (at_line_is p.number d h)

first_is : (p : scripts.LinePosition) (l : List ℕ) → IfOk (scripts.after_first p l) MayBeWithin
first_is p l =
    ok_either MayBeWithin (scripts.is_skipped l) _ _
    (ok_either MayBeWithin p.is_last (Err why.Cluster) _ tt (unless_is MayBeWithin (scripts.in_limits p.is_past l) (Ok None) tt))
    (cluster_line_is p l (scripts.cluster_draft (words.words_of l)) (cluster_is (words.words_of l)))

later_is : (p : scripts.LinePosition) (l : List ℕ) (d : scripts.Draft) → IsDraftWithin d → IfOk (scripts.after_later p l d) MayBeWithin
later_is p l d h =
    unless_is MayBeWithin (scripts.in_limits p.is_past l) _
    (ok_either MayBeWithin (scripts.is_skipped l) (Ok (Some (scripts.after_skipped p.number l d))) _ (skipped_is p.number (scripts.is_empty l) d h)
    (or_is (scripts.after_words p.race p.number (words.words_of l) d) (words_is p.race p.number (words.words_of l) d h)))

line_is : (p : scripts.LinePosition) (l : List ℕ) (o : Option scripts.Draft) → MayBeWithin o → IfOk (scripts.after_line p l o) MayBeWithin
line_is p l None h = first_is p l
line_is p l (Some d) h = later_is p l d h

script_is : (number : ℕ) (o : Option scripts.Draft) → MayBeWithin o → IfOk (scripts.script_of number o) laws.IsScriptWithin
script_is number None h = tt
script_is number (Some d) h = h

goes_on : (number : ℕ) (r : Result (Option scripts.Draft) Why) (next : Option scripts.Draft → Result Script scripts.Refusal)
    → IfOk r MayBeWithin → ((o : Option scripts.Draft) → MayBeWithin o → IfOk (next o) laws.IsScriptWithin) → IfOk (scripts.go_on number r next) laws.IsScriptWithin
goes_on number (Err reason) next h k = tt
goes_on number (Ok o) next h k = k o h

lines_are : (race is_long : Bool) (ls : List (List ℕ)) (number : ℕ) (o : Option scripts.Draft) → MayBeWithin o → IfOk (scripts.read_lines race is_long ls number o) laws.IsScriptWithin
lines_are race is_long [] number o h = script_is number o h
lines_are race is_long (l ∷ more) number o h =
    goes_on number (scripts.after_line (scripts.position_of race is_long number more) l o) (scripts.read_lines race is_long more (number + 1))
    (line_is (scripts.position_of race is_long number more) l o h) (λ p g. lines_are race is_long more (number + 1) p g)

pub scripts_within : laws.ScriptsAreWithin
scripts_within race bytes s e = subst (λ (r : Result Script scripts.Refusal). IfOk r laws.IsScriptWithin) e (lines_are race (scripts.is_too_long bytes) (slice_split (λ b. b == 10) (scripts.judged_bytes bytes)) 1 None tt)
