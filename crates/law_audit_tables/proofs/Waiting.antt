-- The calls that the audit finds waiting are those that a report tells.
use Rattle.std.proofs.Common.{◌≡◌, ℕ, Bool, true, false, cond, not, ◌&&◌, ◌||◌, nat_eq, List, [], ◌∷◌, ◌++◌, Option, Some, None, filter, refl, sym, ap, ap₂, ◌∙◌}
use Rattle.std.specs.Prelude.{if◌then◌else◌}
use Rattle.std.specs.List.{list_any, filter_map}
use Rattle.std.proofs.lemmas.List.Concat.{flat_map-cons}
use Rattle.ax_types.specs.declared.items.Item.{Item}
use Rattle.ax_types.specs.declared.items.Item.TheVariants as item
use Rattle.spec_report.specs.Items as report_items
use Rattle.spec_claims.specs.Transcript as transcripts
use Rattle.spec_audit.specs.Audit as audits
use Rattle.law_audit_tables.specs.TablesFound as laws

abbrev passes : ℕ → ℕ → Option (ℕ × ℕ) → Bool
passes s n None = false
passes s n (Some a) = report_items.is_call (s, n) a

found_by : (s t n m : ℕ) (b : Bool) → nat_eq s t ≡ b → transcripts.is_outcome s n (item.Doubt t m) ≡ (b && nat_eq n m)
found_by s t n m true e = ap (λ b. numbered (if b then Some m else None)) e
  where
    numbered : Option ℕ → Bool
    numbered None = false
    numbered (Some k) = nat_eq n k
found_by s t n m false e = ap (λ b. numbered (if b then Some m else None)) e
  where
    numbered : Option ℕ → Bool
    numbered None = false
    numbered (Some k) = nat_eq n k

is_found : (s n : ℕ) (x : Item) → transcripts.is_outcome s n x ≡ passes s n (report_items.outcome_key x)
is_found s n (item.Reply t m p r) = found_by s t n m (nat_eq s t) refl
is_found s n (item.Read t m l p reach r) = found_by s t n m (nat_eq s t) refl
is_found s n (item.Doubt t m) = found_by s t n m (nat_eq s t) refl
is_found s n (item.Lost t m) = found_by s t n m (nat_eq s t) refl
is_found s n (item.Unsent t m) = found_by s t n m (nat_eq s t) refl
is_found s n (item.Unanswered t m) = found_by s t n m (nat_eq s t) refl
is_found s n x = refl

any_next : (s n : ℕ) (o : Option (ℕ × ℕ)) (more : List (ℕ × ℕ))
    → list_any (report_items.is_call (s, n)) (Rattle.std.specs.List.cons_option o more) ≡ (passes s n o || list_any (report_items.is_call (s, n)) more)
any_next s n None more = refl
any_next s n (Some a) more = refl

has_outcome : (s n : ℕ) (items : List Item) → audits.has_outcome items s n ≡ list_any (report_items.is_call (s, n)) (filter_map report_items.outcome_key items)
has_outcome s n [] = refl
has_outcome s n (x ∷ items) =
    ap₂ (λ a b. a || b) (is_found s n x) (has_outcome s n items) ∙ sym (any_next s n (report_items.outcome_key x) (filter_map report_items.outcome_key items))

abbrev waits : List Item → ℕ × ℕ → Bool
waits items a = not (list_any (report_items.is_call a) (filter_map report_items.outcome_key items))

one_call : (items : List Item) (s n : ℕ) (more : List (ℕ × ℕ))
    → (if audits.has_outcome items s n then [] else (s, n) ∷ []) ++ filter (waits items) more ≡ filter (waits items) ((s, n) ∷ more)
one_call items s n more = go (list_any (report_items.is_call (s, n)) (filter_map report_items.outcome_key items)) (has_outcome s n items) refl
  where
    go : (b : Bool) → audits.has_outcome items s n ≡ list_any (report_items.is_call (s, n)) (filter_map report_items.outcome_key items)
        → list_any (report_items.is_call (s, n)) (filter_map report_items.outcome_key items) ≡ b
        → (if audits.has_outcome items s n then [] else (s, n) ∷ []) ++ filter (waits items) more ≡ filter (waits items) ((s, n) ∷ more)
    go true e f =
        ap (λ b. (if b then [] else (s, n) ∷ []) ++ filter (waits items) more) (e ∙ f) ∙ sym (ap (λ b. cond (not b) ((s, n) ∷ filter (waits items) more) (filter (waits items) more)) f)
    go false e f =
        ap (λ b. (if b then [] else (s, n) ∷ []) ++ filter (waits items) more) (e ∙ f) ∙ sym (ap (λ b. cond (not b) ((s, n) ∷ filter (waits items) more) (filter (waits items) more)) f)

one_item : (items : List Item) (x : Item) (more : List (ℕ × ℕ))
    → audits.waiting_in items x ++ filter (waits items) more ≡ filter (waits items) (Rattle.std.specs.List.cons_option (report_items.called_of x) more)
one_item items (item.Called s n c) more = one_call items s n more
one_item items x more = refl

waiting_from : (items ys : List Item) → Rattle.std.specs.Prelude.flat_map (audits.waiting_in items) ys ≡ filter (waits items) (filter_map report_items.called_of ys)
waiting_from items [] = refl
waiting_from items (y ∷ ys) =
    flat_map-cons (audits.waiting_in items) y ys ∙ ap (λ cs. audits.waiting_in items y ++ cs) (waiting_from items ys) ∙ one_item items y (filter_map report_items.called_of ys)

pub waiting_is_told : laws.WaitingIsTold
waiting_is_told items = waiting_from items items
