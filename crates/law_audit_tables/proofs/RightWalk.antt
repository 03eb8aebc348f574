-- What the items say is right where it is right for each session, by a walk with the calls above.
use Rattle.std.proofs.Common.{◌≡◌, ℕ, zero, suc, max, ◌+◌, ◌≤◌, ◌<◌, Bool, true, false, not, ◌&&◌, ◌||◌, nat_eq, nat_le, List, [], ◌∷◌, ◌++◌, length, Option, Some, None, option_map, refl, sym, ap, ap₂, ◌∙◌, arith}
use Rattle.std.specs.Prelude.{if◌then◌else◌}
use Rattle.std.specs.List.{list_any, list_all}
use Rattle.std.proofs.lemmas.Bool.Decides.{nat_tests}
use Rattle.std.proofs.lemmas.List.Concat.{flat_map-cons}
use Rattle.ax_types.specs.Places as lists
use Rattle.ax_types.specs.declared.items.Item.{Item}
use Rattle.ax_types.specs.declared.items.Item.TheVariants as item
use Rattle.spec_book.specs.History as histories
use Rattle.spec_claims.specs.Transcript as transcripts
use Rattle.spec_claims.specs.Right as right
use Rattle.spec_audit.specs.ItemConditions as item_conditions
use Rattle.law_audit_tables.specs.Digest as digests
use Rattle.law_audit_tables.specs.RightWalk as right_walk
use Rattle.law_audit_tables.specs.BySession as by_session
use Rattle.law_audit_tables.proofs.Digest.{same_number, Walks, walk_digest}
use Rattle.law_audit_tables.proofs.EachSession.{own_test, each_session}

calls_next : (s : ℕ) (x : Item) (above : List Item) → transcripts.calls s (x ∷ above) ≡ transcripts.called_by s x ++ transcripts.calls s above
calls_next s x above = flat_map-cons (transcripts.called_by s) x above

no_call : (s : ℕ) (x : Item) → digests.is_of s x ≡ false → transcripts.called_by s x ≡ []
no_call s (item.Called t n c) f = ap (λ b. if b then (n, c) ∷ [] else []) f
no_call s x f = refl

no_opening : (s : ℕ) (x : Item) → digests.is_of s x ≡ false → right.is_opened s x ≡ false
no_opening s (item.Opened t c) f = f
no_opening s x f = refl

says_same : (h : histories.History) (s : ℕ) (all above : List Item) (x : Item) → digests.is_of s x ≡ true
    → item_conditions.is_right all h above x ≡ right_walk.may_say h s (transcripts.calls s all) (transcripts.calls s above) (list_any (right.is_opened s) above) x
says_same h s all above (item.Opened t c) f =
    ap (λ r. item_conditions.is_opening_by c (lists.at_place h r) && not (list_any (right.is_opened r) above)) (sym (same_number s t f))
says_same h s all above (item.Reply t n p r) f =
    ap (λ q. list_any (item_conditions.is_command_numbered n) (transcripts.calls q above) && not (item_conditions.is_called_twice all q n)
    && item_conditions.is_some_place p (option_map (λ d. d.0) (lists.at_place (histories.dos h q) (transcripts.commands_upto q n above)))
    && item_conditions.is_some_reply r (histories.history_reply h p)) (sym (same_number s t f))
says_same h s all above (item.Read t n l p reach r) f =
    ap (λ q. list_any (item_conditions.is_query_answered h n p l r) (transcripts.calls q above) && not (item_conditions.is_called_twice all q n)
    && histories.is_live h p q && nat_le p (length h)) (sym (same_number s t f))
says_same h s all above x f = refl

abbrev RightFrom : histories.History → ℕ → List Item → List Item → List Item → Type 0
RightFrom h s all items above = item_conditions.each_below (own_test s (item_conditions.is_right all h)) above items
    ≡ right_walk.says_right h s (transcripts.calls s all) (transcripts.calls s above) (list_any (right.is_opened s) above) items

right_step : (h : histories.History) (s : ℕ) (all above : List Item) (x : Item) (items : List Item) → RightFrom h s all items (x ∷ above) → RightFrom h s all (x ∷ items) above
right_step h s all above x items later = go (digests.is_of s x) refl
  where
    opened : Bool
    opened = list_any (right.is_opened s) above

    says : right_walk.Calls → Bool → Bool
    says cs o = right_walk.says_right h s (transcripts.calls s all) cs o items

    rest : Bool
    rest = item_conditions.each_below (own_test s (item_conditions.is_right all h)) (x ∷ above) items

    next : rest ≡ says (transcripts.called_by s x ++ transcripts.calls s above) (right.is_opened s x || opened)
    next = later ∙ ap (λ cs. says cs (right.is_opened s x || opened)) (calls_next s x above)

    may : Bool
    may = right_walk.may_say h s (transcripts.calls s all) (transcripts.calls s above) opened x

    at : Bool → Bool
    at b = if b then may && says (transcripts.called_by s x ++ transcripts.calls s above) (right.is_opened s x || opened) else says (transcripts.calls s above) opened

    shown : Bool → Bool
    shown b = if b then item_conditions.is_right all h above x else true

    go : (b : Bool) → digests.is_of s x ≡ b → (shown (digests.is_of s x) && rest) ≡ at (digests.is_of s x)
    go true f = ap₂ (λ a b. a && b) (ap shown f ∙ says_same h s all above x f) next ∙ sym (ap at f)
    go false f =
        ap (λ b. shown b && rest) f
        ∙ next
        ∙ ap₂ (λ cs o. says (cs ++ transcripts.calls s above) (o || opened)) (no_call s x f) (no_opening s x f)
        ∙ sym (ap at f)

right_from : (h : histories.History) (s : ℕ) (all above items : List Item) → RightFrom h s all items above
right_from h s all above [] = refl
right_from h s all above (x ∷ items) = right_step h s all above x items (right_from h s all (x ∷ above) items)

right_walks : (h : histories.History) (s : ℕ) (all : right_walk.Calls) → Walks s (right_walk.Calls × Bool) (λ c st items. right_walk.says_right h s all st.0 st.1 items)
right_walks h s all = record {
  done = λ c d st. refl;
  skip = λ c st x items f.
      ap (λ b. if b then right_walk.may_say h s all st.0 st.1 x && right_walk.says_right h s all (transcripts.called_by s x ++ st.0) (right.is_opened s x || st.1) items
      else right_walk.says_right h s all st.0 st.1 items) f;
  same = λ c st x xs ys f g.
      ap₂ (λ a b. if digests.is_of s x then right_walk.may_say h s all st.0 st.1 x && a else b) (g (transcripts.called_by s x ++ st.0, right.is_opened s x || st.1)) (g (st.0, st.1));
}

right_one : (h : histories.History) (s : ℕ) (items : List Item)
    → item_conditions.each_shown (own_test s (item_conditions.is_right items h)) items
    ≡ right_walk.says_right h s (transcripts.calls s items) [] false (digests.digest s 0 false items)
right_one h s items =
    right_from h s items [] items
    ∙ sym (walk_digest s (right_walk.Calls × Bool) _ (right_walks h s (transcripts.calls s items)) 0 0 false ([], false) items (λ e. refl) (omega arith))

not_shown : (h : histories.History) (all above : List Item) (x : Item) → digests.session_of x ≡ None → item_conditions.is_right all h above x ≡ true
not_shown h all above (item.Opened t c) e = absurd (cc)
not_shown h all above (item.Reply t n p r) e = absurd (cc)
not_shown h all above (item.Read t n l p reach r) e = absurd (cc)
not_shown h all above x e = refl

pub right_by_session : by_session.RightBySession
right_by_session h ss items named =
    each_session (item_conditions.is_right items h) (not_shown h items) ss [] items named
    ∙ all_same ss
  where
    all_same : (ts : List ℕ)
        → list_all (λ s. item_conditions.each_shown (own_test s (item_conditions.is_right items h)) items) ts
        ≡ list_all (λ s. right_walk.says_right h s (transcripts.calls s items) [] false (digests.digest s 0 false items)) ts
    all_same [] = refl
    all_same (t ∷ ts) = ap₂ (λ a b. a && b) (right_one h t items) (all_same ts)
