-- The acts that are left describe the commands that are called above.
use Rattle.std.proofs.Common.{◌≡◌, ℕ, zero, suc, max, ◌+◌, ◌≤◌, ◌<◌, Bool, true, false, cond, not, ◌&&◌, nat_eq, nat_lt, nat_le, List, [], ◌∷◌, ◌++◌, length, map, count_by, refl, sym, ap, ap₂, ◌∙◌, subst, arith, append_assoc}
use Rattle.std.specs.Prelude.{if◌then◌else◌}
use Rattle.std.specs.List.{AllByRecursion}
use Rattle.std.proofs.lemmas.Bool.Decides.{nat_tests}
use Rattle.std.proofs.lemmas.List.{length-append}
use Rattle.std.proofs.lemmas.List.Sums.{sum_by-cons}
use Rattle.std.proofs.lemmas.List.Concat.{flat_map-cons}
use Rattle.ax_types.specs.declared.entries.Act.{Act}
use Rattle.ax_types.specs.declared.entries.Act.TheVariants as act
use Rattle.ax_types.specs.declared.ops.Op.{Op}
use Rattle.ax_types.specs.declared.ops.WindowCall.{WindowCall}
use Rattle.ax_types.specs.declared.ops.WindowCall.TheVariants as call
use Rattle.ax_types.specs.declared.items.Item.{Item}
use Rattle.ax_types.specs.declared.items.Item.TheVariants as item
use Rattle.law_told.proofs.Lists.{by_test, all_since}
use Rattle.spec_book.specs.History as histories
use Rattle.spec_claims.specs.Transcript as transcripts
use Rattle.spec_claims.specs.Once as once
use Rattle.spec_audit.specs.SameValues as same_values
use Rattle.spec_audit.specs.ItemConditions as item_conditions
use Rattle.spec_audit.specs.SessionConditions as session_conditions
use Rattle.law_audit_tables.specs.OnceWalk as once_walk
use Rattle.law_audit_tables.specs.TablesFound as laws

-- ---- the places of a session's acts ascend

abbrev AllBeyond : ℕ → once_walk.Dos → Type 0
AllBeyond n ds = AllByRecursion (λ d. n < d.0) ds

abbrev Ascend : once_walk.Dos → Type 0
Ascend [] = Unit {0}
Ascend (d ∷ ds) = AllBeyond d.0 ds × Ascend ds

abbrev AscendBeyond : ℕ → once_walk.Dos → Type 0
AscendBeyond n ds = AllBeyond n ds × Ascend ds

beyond_less : (m n : ℕ) (ds : once_walk.Dos) → m ≤ n → AllBeyond n ds → AllBeyond m ds
beyond_less m n ds l a = all_since (λ d. n < d.0) (λ d. m < d.0) (λ d k. omega (arith, l, k)) ds a

one_more : (s done time : ℕ) (h : histories.History) (x : Act) → AscendBeyond (done + 1) (histories.dos_after s (done + 1) h) → AscendBeyond done (histories.dos_after s done ((time, x) ∷ h))
one_more s done time h x next = go x
  where
    later : AscendBeyond done (histories.dos_after s (done + 1) h)
    later = (beyond_less done (done + 1) (histories.dos_after s (done + 1) h) (omega arith) next.0, next.1)

    go : (y : Act) → AscendBeyond done (histories.dos_after s done ((time, y) ∷ h))
    go (act.Do t name o) =
        by_test (AscendBeyond done) (nat_eq s t) ((done + 1, (name, o)) ∷ histories.dos_after s (done + 1) h) (histories.dos_after s (done + 1) h) (λ e. ((omega arith, later.0), next)) (λ e. later)
    go (act.Open c o) = later
    go (act.Keep t) = later
    go (act.Close t) = later
    go (act.Expire t) = later
    go act.Nothing = later

dos_ascend : (s done : ℕ) (h : histories.History) → AscendBeyond done (histories.dos_after s done h)
dos_ascend s done [] = (tt, tt)
dos_ascend s done (a ∷ h) = one_more s done a.0 h a.1 (dos_ascend s (done + 1) h)

-- ---- counts

abbrev is_upto : ℕ → ℕ × (List ℕ × Op) → Bool
is_upto p d = nat_le d.0 p

abbrev count_upto : ℕ → once_walk.Dos → ℕ
count_upto p ds = count_by (is_upto p) ds

count_cons : (p : ℕ) (d : ℕ × (List ℕ × Op)) (ds : once_walk.Dos) → count_upto p (d ∷ ds) ≡ cond (is_upto p d) 1 0 + count_upto p ds
count_cons p d ds = sum_by-cons (λ x. cond (is_upto p x) 1 0) d ds

at_most_one : (b : Bool) → cond b 1 0 ≤ 1
at_most_one true = omega arith
at_most_one false = omega arith

count_bounded : (p : ℕ) (ds : once_walk.Dos) → count_upto p ds ≤ length ds
count_bounded p [] = omega arith
count_bounded p (d ∷ ds) =
    let c = count_cons p d ds in
    let b = count_bounded p ds in
    let o = at_most_one (is_upto p d) in
    omega (arith, c, b, o)

count_none : (p : ℕ) (ds : once_walk.Dos) → AllBeyond p ds → count_upto p ds ≡ 0
count_none p [] a = refl
count_none p (d ∷ ds) a =
    let k : p < d.0 = a.0 in
    let f : is_upto p d ≡ false = grind (arith, nat_tests) in
    let c = count_cons p d ds ∙ ap (λ b. cond b 1 0 + count_upto p ds) f in
    let z = count_none p ds a.1 in
    omega (arith, c, z)

count_split : (p : ℕ) (ds es : once_walk.Dos) → count_upto p (ds ++ es) ≡ count_upto p ds + count_upto p es
count_split p [] es = omega arith
count_split p (d ∷ ds) es =
    let c = count_cons p d (ds ++ es) in
    let b = count_cons p d ds in
    let i = count_split p ds es in
    omega (arith, c, b, i)

-- what stands before an act is told up to its place
count_before : (p : ℕ) (ds : once_walk.Dos) (d : ℕ × (List ℕ × Op)) (es : once_walk.Dos) → Ascend (ds ++ d ∷ es) → d.0 ≤ p → count_upto p ds ≡ length ds
count_before p [] d es a l = refl
count_before p (x ∷ ds) d es a l =
    let k : x.0 < d.0 = first_beyond x.0 ds d es a.0 in
    let f : is_upto p x ≡ true = (let m : x.0 ≤ p = omega (arith, k, l) in grind (arith, nat_tests)) in
    let c = count_cons p x ds ∙ ap (λ b. cond b 1 0 + count_upto p ds) f in
    let i = count_before p ds d es a.1 l in
    omega (arith, c, i)
  where
    first_beyond : (n : ℕ) (xs : once_walk.Dos) (y : ℕ × (List ℕ × Op)) (ys : once_walk.Dos) → AllBeyond n (xs ++ y ∷ ys) → n < y.0
    first_beyond n [] y ys b = b.0
    first_beyond n (x ∷ xs) y ys b = first_beyond n xs y ys b.1

-- ---- what an item is to the walk

abbrev called_commands : ℕ → List Item → ℕ
called_commands s above = count_by (λ c. transcripts.is_command c.1) (transcripts.calls s above)

calls_next : (s : ℕ) (x : Item) (above : List Item) (cs : List (ℕ × WindowCall)) → transcripts.called_by s x ≡ cs → transcripts.calls s (x ∷ above) ≡ cs ++ transcripts.calls s above
calls_next s x above cs e = flat_map-cons (transcripts.called_by s) x above ∙ ap (λ ds. ds ++ transcripts.calls s above) e

commands_next : (s : ℕ) (x : Item) (items : List Item) (cs : List (ℕ × WindowCall)) → transcripts.called_by s x ≡ cs
    → once.commands s (x ∷ items) ≡ Rattle.std.specs.Prelude.flat_map once.command_of (cs ++ transcripts.calls s items)
commands_next s x items cs e = ap (λ ds. Rattle.std.specs.Prelude.flat_map once.command_of ds) (calls_next s x items cs e)

-- an item that is no command of the session and no commit
record IsNothing (h : histories.History) (s : ℕ) (x : Item) : Type 0 where
  walk : (commit : ℕ) (rest : once_walk.Dos) (items : List Item) → once_walk.take_effect s commit rest (x ∷ items) ≡ once_walk.take_effect s commit rest items
  commands : (items : List Item) → once.commands s (x ∷ items) ≡ once.commands s items
  count : (above : List Item) → called_commands s (x ∷ above) ≡ called_commands s above
  test : (above : List Item) → session_conditions.is_called_before h s above x ≡ true

record IsCommand (h : histories.History) (s : ℕ) (x : Item) (name : List ℕ) (op : Op) : Type 0 where
  walk : (commit : ℕ) (rest : once_walk.Dos) (items : List Item)
      → once_walk.take_effect s commit rest (x ∷ items) ≡ (once_walk.may_call commit rest name op && once_walk.take_effect s commit (once_walk.behind_first rest) items)
  commands : (items : List Item) → once.commands s (x ∷ items) ≡ (name, op) ∷ once.commands s items
  count : (above : List Item) → called_commands s (x ∷ above) ≡ suc (called_commands s above)
  test : (above : List Item) → session_conditions.is_called_before h s above x ≡ true

data Shows (h : histories.History) (s : ℕ) (x : Item) : Type 0 where
  shows_commit : (p : ℕ) → x ≡ item.Commit p → Shows h s x
  shows_command : (name : List ℕ) (op : Op) → IsCommand h s x name op → Shows h s x
  shows_nothing : IsNothing h s x → Shows h s x

hushed : (h : histories.History) (s : ℕ) (x : Item) → ((commit : ℕ) (rest : once_walk.Dos) (items : List Item) → once_walk.take_effect s commit rest (x ∷ items) ≡ once_walk.take_effect s commit rest items)
    → transcripts.called_by s x ≡ [] → ((above : List Item) → session_conditions.is_called_before h s above x ≡ true) → Shows h s x
hushed h s x walk e test = shows_nothing (record {
  walk = walk;
  commands = λ items. commands_next s x items [] e;
  count = λ above. ap (count_by (λ c. transcripts.is_command c.1)) (calls_next s x above [] e);
  test = test;
})

count_more : (b : Bool) (c : ℕ × WindowCall) (cs : List (ℕ × WindowCall)) → transcripts.is_command c.1 ≡ b
    → count_by (λ d. transcripts.is_command d.1) (c ∷ cs) ≡ cond b 1 0 + count_by (λ d. transcripts.is_command d.1) cs
count_more b c cs e = sum_by-cons (λ d. cond (transcripts.is_command d.1) 1 0) c cs ∙ ap (λ f. cond f 1 0 + count_by (λ d. transcripts.is_command d.1) cs) e

shows_call : (h : histories.History) (s t n : ℕ) (c : WindowCall) → Shows h s (item.Called t n c)
shows_call h s t n (call.Command name op) = go (nat_eq s t) refl
  where
    x : Item
    x = item.Called t n (call.Command name op)

    go : (b : Bool) → nat_eq s t ≡ b → Shows h s x
    go true e =
        let cs : transcripts.called_by s x ≡ (n, call.Command name op) ∷ [] = ap (λ b. if b then (n, call.Command name op) ∷ [] else []) e in
        shows_command name op (record {
          walk = λ commit rest items. ap (λ b. if b then once_walk.may_call commit rest name op && once_walk.take_effect s commit (once_walk.behind_first rest) items else once_walk.take_effect s commit rest items) e;
          commands = λ items. commands_next s x items ((n, call.Command name op) ∷ []) cs ∙ flat_map-cons once.command_of (n, call.Command name op) (transcripts.calls s items);
          count = λ above. ap (count_by (λ c. transcripts.is_command c.1)) (calls_next s x above ((n, call.Command name op) ∷ []) cs)
              ∙ (let k = count_more true (n, call.Command name op) (transcripts.calls s above) refl in omega (arith, k));
          test = λ above. refl;
        })
    go false e = hushed h s x (λ commit rest items. ap (λ b. if b then once_walk.may_call commit rest name op && once_walk.take_effect s commit (once_walk.behind_first rest) items else once_walk.take_effect s commit rest items) e)
        (ap (λ b. if b then (n, call.Command name op) ∷ [] else []) e) (λ above. refl)
shows_call h s t n (call.Query level name query) = go (nat_eq s t) refl
  where
    x : Item
    x = item.Called t n (call.Query level name query)

    go : (b : Bool) → nat_eq s t ≡ b → Shows h s x
    go true e =
        let cs : transcripts.called_by s x ≡ (n, call.Query level name query) ∷ [] = ap (λ b. if b then (n, call.Query level name query) ∷ [] else []) e in
        shows_nothing (record {
          walk = λ commit rest items. refl;
          commands = λ items. commands_next s x items ((n, call.Query level name query) ∷ []) cs ∙ flat_map-cons once.command_of (n, call.Query level name query) (transcripts.calls s items);
          count = λ above. ap (count_by (λ c. transcripts.is_command c.1)) (calls_next s x above ((n, call.Query level name query) ∷ []) cs)
              ∙ (let k = count_more false (n, call.Query level name query) (transcripts.calls s above) refl in omega (arith, k));
          test = λ above. refl;
        })
    go false e = hushed h s x (λ commit rest items. refl) (ap (λ b. if b then (n, call.Query level name query) ∷ [] else []) e) (λ above. refl)

shows : (h : histories.History) (s : ℕ) (x : Item) → Shows h s x
shows h s (item.Commit p) = shows_commit p refl
shows h s (item.Called t n c) = shows_call h s t n c
shows h s (item.Leader j t) = hushed h s (item.Leader j t) (λ c r i. refl) refl (λ above. refl)
shows h s (item.Reach j t a r m) = hushed h s (item.Reach j t a r m) (λ c r i. refl) refl (λ above. refl)
shows h s (item.Halted j) = hushed h s (item.Halted j) (λ c r i. refl) refl (λ above. refl)
shows h s (item.Opened r c) = hushed h s (item.Opened r c) (λ c r i. refl) refl (λ above. refl)
shows h s (item.Event r p prev es) = hushed h s (item.Event r p prev es) (λ c r i. refl) refl (λ above. refl)
shows h s (item.Watched c kind r p v) = hushed h s (item.Watched c kind r p v) (λ c r i. refl) refl (λ above. refl)
shows h s (item.Reply r m p q) = hushed h s (item.Reply r m p q) (λ c r i. refl) refl (λ above. refl)
shows h s (item.Read r m l p reach q) = hushed h s (item.Read r m l p reach q) (λ c r i. refl) refl (λ above. refl)
shows h s (item.Ended r p way) = hushed h s (item.Ended r p way) (λ c r i. refl) refl (λ above. refl)
shows h s (item.Doubt r m) = hushed h s (item.Doubt r m) (λ c r i. refl) refl (λ above. refl)
shows h s (item.Lost r m) = hushed h s (item.Lost r m) (λ c r i. refl) refl (λ above. refl)
shows h s (item.Unsent r m) = hushed h s (item.Unsent r m) (λ c r i. refl) refl (λ above. refl)
shows h s (item.Unanswered r m) = hushed h s (item.Unanswered r m) (λ c r i. refl) refl (λ above. refl)
shows h s (item.Listed count) = hushed h s (item.Listed count) (λ c r i. refl) refl (λ above. refl)
shows h s (item.Pending m from to kind) = hushed h s (item.Pending m from to kind) (λ c r i. refl) refl (λ above. refl)
shows h s (item.Skip reason) = hushed h s (item.Skip reason) (λ c r i. refl) refl (λ above. refl)

-- ---- a commit that covers an act that was not called

and_false : (b : Bool) → (b && false) ≡ false
and_false true = refl
and_false false = refl

reached_more : (commit p : ℕ) (rest : once_walk.Dos) → once_walk.is_before commit rest ≡ false → once_walk.is_before (max commit p) rest ≡ false
reached_more commit p [] e = e
reached_more commit p (d ∷ rest) e = grind (arith, nat_tests)

not_called : (commit : ℕ) (rest : once_walk.Dos) (name : List ℕ) (op : Op) → once_walk.is_before commit rest ≡ false → once_walk.may_call commit rest name op ≡ false
not_called commit [] name op e = absurd (cc)
not_called commit (d ∷ rest) name op e = ap (λ b. same_values.is_same_command d.1 (name, op) && b) e ∙ and_false (same_values.is_same_command d.1 (name, op))

some_left : (commit : ℕ) (rest : once_walk.Dos) → once_walk.is_before commit rest ≡ false → once_walk.are_no_dos rest ≡ false
some_left commit [] e = absurd (cc)
some_left commit (d ∷ rest) e = refl

late : (h : histories.History) (s commit : ℕ) (rest : once_walk.Dos) (x : Item) (items : List Item) → once_walk.is_before commit rest ≡ false
    → ((m : ℕ) → once_walk.is_before m rest ≡ false → once_walk.take_effect s m rest items ≡ false) → Shows h s x → once_walk.take_effect s commit rest (x ∷ items) ≡ false
late h s commit rest x items e below (shows_commit p is) = ap (λ y. once_walk.take_effect s commit rest (y ∷ items)) is ∙ below (max commit p) (reached_more commit p rest e)
late h s commit rest x items e below (shows_command name op c) =
    c.walk commit rest items ∙ ap (λ b. b && once_walk.take_effect s commit (once_walk.behind_first rest) items) (not_called commit rest name op e)
late h s commit rest x items e below (shows_nothing n) = n.walk commit rest items ∙ below commit e

too_late : (h : histories.History) (s commit : ℕ) (rest : once_walk.Dos) (items : List Item) → once_walk.is_before commit rest ≡ false → once_walk.take_effect s commit rest items ≡ false
too_late h s commit rest [] e = some_left commit rest e
too_late h s commit rest (x ∷ items) e = late h s commit rest x items e (λ m f. too_late h s m rest items f) (shows h s x)

-- ---- all items

-- the acts before were called above, and those that are left were not, if any is left
record Stands (h : histories.History) (s : ℕ) (above : List Item) (done rest : once_walk.Dos) : Type 0 where
  split : histories.dos h s ≡ done ++ rest
  enough : length done ≤ called_commands s above
  exact : once_walk.are_no_dos rest ≡ false → length done ≡ called_commands s above

committed : (h : histories.History) (s p : ℕ) (above : List Item) (done rest : once_walk.Dos) → Stands h s above done rest
    → nat_le (once.dos_upto h s p) (called_commands s above) ≡ once_walk.is_before p rest
committed h s p above done [] k =
    let c = ap (count_upto p) k.split ∙ count_split p done [] in
    let b = count_bounded p done in
    let n = k.enough in
    let z : count_upto p [] ≡ 0 = refl in
    let l : once.dos_upto h s p ≤ called_commands s above = omega (arith, c, b, n, z) in
    grind (arith, nat_tests)
committed h s p above done (d ∷ rest) k = go (nat_lt p d.0) refl
  where
    ascends : Ascend (done ++ d ∷ rest)
    ascends = subst Ascend k.split (dos_ascend s 0 h).1

    counted : once.dos_upto h s p ≡ count_upto p done + count_upto p (d ∷ rest)
    counted = ap (count_upto p) k.split ∙ count_split p done (d ∷ rest)

    tail : (xs : once_walk.Dos) → Ascend (xs ++ d ∷ rest) → AllBeyond d.0 rest
    tail [] a = a.0
    tail (x ∷ xs) a = tail xs a.1

    go : (b : Bool) → nat_lt p d.0 ≡ b → nat_le (once.dos_upto h s p) (called_commands s above) ≡ b
    go true e =
        let l : p < d.0 = grind (arith, nat_tests) in
        let z = count_none p (d ∷ rest) (l, beyond_less p d.0 rest (omega (arith, l)) (tail done ascends)) in
        let b = count_bounded p done in
        let n = k.enough in
        let c = counted in
        let m : once.dos_upto h s p ≤ called_commands s above = omega (arith, c, z, b, n) in
        grind (arith, nat_tests)
    go false e =
        let l : d.0 ≤ p = grind (arith, nat_tests) in
        let f = count_before p done d rest ascends l in
        let i : is_upto p d ≡ true = grind (arith, nat_tests) in
        let o = count_cons p d rest ∙ ap (λ b. cond b 1 0 + count_upto p rest) i in
        let n = k.exact refl in
        let c = counted in
        let m : called_commands s above < once.dos_upto h s p = omega (arith, c, f, o, n) in
        grind (arith, nat_tests)

-- one commit more
before_both : (commit p : ℕ) (rest : once_walk.Dos) → once_walk.is_before commit rest ≡ true → once_walk.is_before (max commit p) rest ≡ once_walk.is_before p rest
before_both commit p [] e = refl
before_both commit p (d ∷ rest) e = go (nat_lt p d.0) refl
  where
    go : (b : Bool) → nat_lt p d.0 ≡ b → nat_lt (max commit p) d.0 ≡ b
    go true f = grind (arith, nat_tests)
    go false f = grind (arith, nat_tests)

abbrev Effect : histories.History → ℕ → ℕ → List Item → once_walk.Dos → List Item → Type 0
Effect h s commit above rest items =
    once_walk.take_effect s commit rest items
    ≡ (same_values.begins same_values.is_same_command (map (λ d. d.1) rest) (once.commands s items) && item_conditions.each_below (session_conditions.is_called_before h s) above items)

no_more : (rest : once_walk.Dos) → once_walk.are_no_dos rest ≡ (same_values.begins same_values.is_same_command (map (λ d. d.1) rest) [] && true)
no_more [] = refl
no_more (d ∷ rest) = refl

-- the first act is before the next one
before_next : (commit : ℕ) (done : once_walk.Dos) (d : ℕ × (List ℕ × Op)) (rest : once_walk.Dos) → Ascend (done ++ d ∷ rest) → nat_lt commit d.0 ≡ true → once_walk.is_before commit rest ≡ true
before_next commit [] d [] a e = refl
before_next commit [] d (f ∷ rest) a e = let l : d.0 < f.0 = a.0.0 in grind (arith, nat_tests)
before_next commit (x ∷ done) d rest a e = before_next commit done d rest a.1 e

-- the tests of a command that takes effect
regroup : (a b e : Bool) → ((a && true) && (b && e)) ≡ ((a && b) && e)
regroup true true e = refl
regroup true false e = refl
regroup false b e = refl

-- what holds of the items below
abbrev Below : histories.History → ℕ → List Item → Type 0
Below h s items = (m : ℕ) (up : List Item) (done rest : once_walk.Dos) → Stands h s up done rest → once_walk.is_before m rest ≡ true → Effect h s m up rest items

at_commit : (h : histories.History) (s commit p : ℕ) (above : List Item) (done rest : once_walk.Dos) (items : List Item) → Stands h s above done rest → once_walk.is_before commit rest ≡ true
    → Below h s items → Effect h s commit above rest (item.Commit p ∷ items)
at_commit h s commit p above done rest items k e next = go (once_walk.is_before p rest) refl
  where
    begins : Bool
    begins = same_values.begins same_values.is_same_command (map (λ d. d.1) rest) (once.commands s items)

    below : Bool
    below = item_conditions.each_below (session_conditions.is_called_before h s) (item.Commit p ∷ above) items

    kept : Stands h s (item.Commit p ∷ above) done rest
    kept = record { split = k.split; enough = k.enough; exact = k.exact }

    test : nat_le (once.dos_upto h s p) (called_commands s above) ≡ once_walk.is_before p rest
    test = committed h s p above done rest k

    go : (b : Bool) → once_walk.is_before p rest ≡ b → Effect h s commit above rest (item.Commit p ∷ items)
    go true f = next (max commit p) (item.Commit p ∷ above) done rest kept (before_both commit p rest e ∙ f) ∙ ap (λ b. begins && (b && below)) (sym (test ∙ f))
    go false f = too_late h s (max commit p) rest items (before_both commit p rest e ∙ f) ∙ sym (ap (λ b. begins && (b && below)) (test ∙ f) ∙ and_false begins)

at_command : (h : histories.History) (s commit : ℕ) (above : List Item) (done rest : once_walk.Dos) (x : Item) (name : List ℕ) (op : Op) (items : List Item) → Stands h s above done rest
    → once_walk.is_before commit rest ≡ true → IsCommand h s x name op → Below h s items → Effect h s commit above rest (x ∷ items)
at_command h s commit above done [] x name op items k e c next =
    let below : Bool = item_conditions.each_below (session_conditions.is_called_before h s) (x ∷ above) items in
    let n = c.count above in
    let m = k.enough in
    let kept : Stands h s (x ∷ above) done [] = record { split = k.split; enough = omega (arith, n, m); exact = λ f. absurd (cc) } in
    c.walk commit [] items ∙ next commit (x ∷ above) done [] kept refl
    ∙ sym (ap₂ (λ (cs : List (List ℕ × Op)) (b : Bool). same_values.begins same_values.is_same_command [] cs && (b && below)) (c.commands items) (c.test above))
at_command h s commit above done (d ∷ rest) x name op items k e c next =
    let below : Bool = item_conditions.each_below (session_conditions.is_called_before h s) (x ∷ above) items in
    let n = c.count above in
    let m = k.exact refl in
    let l = length-append done (d ∷ []) in
    let split : histories.dos h s ≡ (done ++ d ∷ []) ++ rest = k.split ∙ sym (append_assoc done (d ∷ []) rest) in
    let kept : Stands h s (x ∷ above) (done ++ d ∷ []) rest = record { split = split; enough = omega (arith, l, m, n); exact = λ f. omega (arith, l, m, n) } in
    let more = next commit (x ∷ above) (done ++ d ∷ []) rest kept (before_next commit done d rest (subst Ascend k.split (dos_ascend s 0 h).1) e) in
    c.walk commit (d ∷ rest) items
    ∙ ap₂ (λ (b f : Bool). (same_values.is_same_command d.1 (name, op) && b) && f) e more
    ∙ regroup (same_values.is_same_command d.1 (name, op)) (same_values.begins same_values.is_same_command (map (λ y. y.1) rest) (once.commands s items)) below
    ∙ sym (ap₂ (λ (cs : List (List ℕ × Op)) (b : Bool). same_values.begins same_values.is_same_command (d.1 ∷ map (λ y. y.1) rest) cs && (b && below)) (c.commands items) (c.test above))

at_item : (h : histories.History) (s commit : ℕ) (above : List Item) (done rest : once_walk.Dos) (x : Item) (items : List Item) → Stands h s above done rest → once_walk.is_before commit rest ≡ true
    → Below h s items → Shows h s x → Effect h s commit above rest (x ∷ items)
at_item h s commit above done rest x items k e next (shows_commit p is) = subst (λ y. Effect h s commit above rest (y ∷ items)) (sym is) (at_commit h s commit p above done rest items k e next)
at_item h s commit above done rest x items k e next (shows_command name op c) = at_command h s commit above done rest x name op items k e c next
at_item h s commit above done rest x items k e next (shows_nothing n) =
    let kept : Stands h s (x ∷ above) done rest = record {
      split = k.split;
      enough = let m = n.count above in let l = k.enough in omega (arith, m, l);
      exact = λ f. k.exact f ∙ sym (n.count above);
    } in
    n.walk commit rest items ∙ next commit (x ∷ above) done rest kept e
    ∙ sym (ap₂ (λ (cs : List (List ℕ × Op)) (b : Bool). same_values.begins same_values.is_same_command (map (λ d. d.1) rest) cs
    && (b && item_conditions.each_below (session_conditions.is_called_before h s) (x ∷ above) items)) (n.commands items) (n.test above))

effects : (h : histories.History) (s commit : ℕ) (above : List Item) (done rest : once_walk.Dos) (items : List Item) → Stands h s above done rest
    → once_walk.is_before commit rest ≡ true → Effect h s commit above rest items
effects h s commit above done rest [] k e = no_more rest
effects h s commit above done rest (x ∷ items) k e = at_item h s commit above done rest x items k e (λ m up d r kept f. effects h s m up d r items kept f) (shows h s x)

pub once_is_walked : laws.OnceIsWalked
once_is_walked h s items = effects h s 0 [] [] (histories.dos h s) items
    (record { split = refl; enough = omega arith; exact = λ f. refl }) (none_yet (histories.dos h s) (dos_ascend s 0 h).0)
  where
    none_yet : (ds : once_walk.Dos) → AllBeyond 0 ds → once_walk.is_before 0 ds ≡ true
    none_yet [] a = refl
    none_yet (d ∷ ds) a = let l : 0 < d.0 = a.0 in grind (arith, nat_tests)
