-- A command that was called is the one of its rank among the commands of its session.
use Rattle.std.proofs.Common.{◌≡◌, ℕ, zero, suc, ◌+◌, ◌≤◌, cond, List, [], ◌∷◌, ◌++◌, reverse, length, refl, ap, sym, ◌∙◌, subst, inl, inr, ⊎_elim, arith, count_by, flat_map, slice_get}
use Rattle.std.specs.Prelude.{◌⊎◌, nat_eq, Some, if◌then◌else◌}
use Rattle.std.proofs.lemmas.List.{length-append}
use Rattle.std.proofs.lemmas.Grind.{flat_map-append}
use Rattle.ax_types.specs.Places.{at_place}
use Rattle.ax_types.specs.declared.items.Item.{Item}
use Rattle.ax_types.specs.declared.items.Item.TheVariants as item
use Rattle.ax_types.specs.declared.ops.Op.{Op}
use Rattle.ax_types.specs.declared.ops.WindowCall.{WindowCall}
use Rattle.ax_types.specs.declared.ops.WindowCall.TheVariants as call
use Rattle.spec_claims.specs.Transcript as transcripts
use Rattle.spec_claims.specs.Once as claims_once
use Rattle.law_release.proofs.Tests.{on_or_off, equal, is_equal}
use Rattle.law_client.specs.Standing as standing
use Rattle.law_client.proofs.Lists.{count_more, flat_more}
use Rattle.law_client.proofs.Shown.{called_first}
use Rattle.law_client.proofs.Own.{SameRanks, calls_none, called_ranks, new_rank, all_low}
use Rattle.law_client.proofs.Responses.{stands_called, among_low}

-- an item calls nothing, or is a call of the session
pub record IsCall (s : ℕ) (x : Item) : Type 0 where
  pub number : ℕ
  pub call : WindowCall
  pub is : x ≡ item.Called s number call

called_or_not : (s : ℕ) (x : Item) → (transcripts.called_by s x ≡ []) ⊎ IsCall s x
called_or_not s (item.Called t n w) =
    ⊎_elim (λ e. inr (record { number = n; call = w; is = ap (λ u. item.Called u n w) (sym (equal s t e)) })) (λ e. inl (ap (λ b. if b then (n, w) ∷ [] else []) e)) (on_or_off (nat_eq s t))
called_or_not s x = inl refl

called_alone : (s n : ℕ) (w : WindowCall) → transcripts.called_by s (item.Called s n w) ≡ (n, w) ∷ []
called_alone s n w = ap (λ b. if b then (n, w) ∷ [] else []) (is_equal s s refl)

commands_more : (s : ℕ) (x : Item) (xs : List Item) → claims_once.commands s (reverse (x ∷ xs)) ≡ claims_once.commands s (reverse xs) ++ flat_map claims_once.command_of (transcripts.called_by s x)
commands_more s x xs =
    ap (λ cs. flat_map claims_once.command_of cs) (flat_more (transcripts.called_by s) x xs) ∙ flat_map-append claims_once.command_of (transcripts.calls s (reverse xs)) (transcripts.called_by s x)

one_command : (n : ℕ) (w : WindowCall) → length (flat_map claims_once.command_of ((n, w) ∷ [])) ≡ cond (transcripts.is_command w) 1 0
one_command n (call.Command name o) = refl
one_command n (call.Query l name q) = refl

-- how many commands there are
commands_long : (s : ℕ) (xs : List Item) → length (claims_once.commands s (reverse xs)) ≡ count_by (λ w. transcripts.is_command w.1) (transcripts.calls s xs)
commands_long s [] = refl
commands_long s (x ∷ xs) =
    let rest : length (claims_once.commands s (reverse xs)) ≡ count_by (λ w. transcripts.is_command w.1) (transcripts.calls s xs) = commands_long s xs in
    ap (λ cs. length cs) (commands_more s x xs) ∙ length-append (claims_once.commands s (reverse xs)) (flat_map claims_once.command_of (transcripts.called_by s x)) ∙ by_called (called_or_not s x) rest
  where
    by_called : (transcripts.called_by s x ≡ []) ⊎ IsCall s x → length (claims_once.commands s (reverse xs)) ≡ count_by (λ w. transcripts.is_command w.1) (transcripts.calls s xs)
        → length (claims_once.commands s (reverse xs)) + length (flat_map claims_once.command_of (transcripts.called_by s x)) ≡ count_by (λ w. transcripts.is_command w.1) (transcripts.calls s (x ∷ xs))
    by_called (inl e) r =
        let none : length (flat_map claims_once.command_of (transcripts.called_by s x)) ≡ 0 = ap (λ cs. length (flat_map claims_once.command_of cs)) e in
        let same : count_by (λ w. transcripts.is_command w.1) (transcripts.calls s (x ∷ xs)) ≡ count_by (λ w. transcripts.is_command w.1) (transcripts.calls s xs) =
        ap (λ cs. count_by (λ w. transcripts.is_command w.1) (cs ++ transcripts.calls s xs)) e in
        omega (arith, none, same, r)
    by_called (inr c) r =
        let first : transcripts.called_by s x ≡ (c.number, c.call) ∷ [] = ap (λ y. transcripts.called_by s y) c.is ∙ called_alone s c.number c.call in
        let one : length (flat_map claims_once.command_of (transcripts.called_by s x)) ≡ cond (transcripts.is_command c.call) 1 0 = ap (λ cs. length (flat_map claims_once.command_of cs)) first ∙ one_command c.number c.call in
        let more : count_by (λ w. transcripts.is_command w.1) (transcripts.calls s (x ∷ xs)) ≡ cond (transcripts.is_command c.call) 1 0 + count_by (λ w. transcripts.is_command w.1) (transcripts.calls s xs) =
        ap (λ cs. count_by (λ w. transcripts.is_command w.1) (cs ++ transcripts.calls s xs)) first ∙ count_more (λ w. transcripts.is_command w.1) (c.number, c.call) (transcripts.calls s xs) in
        omega (arith, one, more, r)

at_end : {X : Type 0} (xs : List X) (x : X) → at_place (xs ++ x ∷ []) (suc (length xs)) ≡ Some x
at_end [] x = refl
at_end (y ∷ xs) x = at_end xs x

get_front : {X : Type 0} (xs ys : List X) (i : ℕ) (x : X) → slice_get xs i ≡ Some x → slice_get (xs ++ ys) i ≡ Some x
get_front [] ys i x e = absurd (cc)
get_front (z ∷ xs) ys zero x e = e
get_front (z ∷ xs) ys (suc i) x e = get_front xs ys i x e

at_front : {X : Type 0} (xs ys : List X) (k : ℕ) (x : X) → at_place xs k ≡ Some x → at_place (xs ++ ys) k ≡ Some x
at_front xs ys zero x e = e
at_front xs ys (suc k) x e = get_front xs ys k x e

pub numbered_behind : (s : ℕ) (x : Item) (xs : List Item) → standing.AreNumberedDown (transcripts.calls s (x ∷ xs)) → standing.AreNumberedDown (transcripts.calls s xs)
numbered_behind s x xs a = ⊎_elim
    (λ e. subst (λ cs. standing.AreNumberedDown (cs ++ transcripts.calls s xs)) e a)
    (λ (c : IsCall s x). (subst standing.AreNumberedDown (called_first s c.number c.call xs) (subst (λ y. standing.AreNumberedDown (transcripts.calls s (y ∷ xs))) c.is a)).1)
    (called_or_not s x)

-- an item above a call leaves its rank
pub ranks_behind : (s n : ℕ) (w : WindowCall) (x : Item) (xs : List Item) → standing.AreNumberedDown (transcripts.calls s (x ∷ xs)) → transcripts.StandsIn (item.Called s n w) xs → SameRanks s n x xs
ranks_behind s n w x xs a b = ⊎_elim
    (λ e. calls_none s n x xs e)
    (λ (c : IsCall s x).
    let numbered : standing.AreNumberedDown ((c.number, c.call) ∷ transcripts.calls s xs) = subst standing.AreNumberedDown (called_first s c.number c.call xs) (subst (λ y. standing.AreNumberedDown (transcripts.calls s (y ∷ xs))) c.is a) in
    let number : c.number ≡ suc (length (transcripts.calls s xs)) = numbered.0 in
    let low : n ≤ length (transcripts.calls s xs) = among_low n w (transcripts.calls s xs) numbered.1 (stands_called s n w xs b) in
    let k = length (transcripts.calls s xs) in
    let ranks : SameRanks s k (item.Called s (suc k) c.call) xs = called_ranks s k c.call xs in
    let is : item.Called s (suc k) c.call ≡ x = ap (λ m. item.Called s m c.call) (sym number) ∙ sym c.is in
    let there : SameRanks s k x xs = subst (λ y. SameRanks s k y xs) is ranks in
    record { upto = λ m l. there.upto m (omega (arith, l, low)); below = λ m l. there.below m (omega (arith, l, low)) })
    (called_or_not s x)

pub rank_behind : (s n : ℕ) (w : WindowCall) (x : Item) (xs : List Item) → standing.AreNumberedDown (transcripts.calls s (x ∷ xs)) → transcripts.StandsIn (item.Called s n w) xs
    → transcripts.commands_upto s n (x ∷ xs) ≡ transcripts.commands_upto s n xs
rank_behind s n w x xs a b = (ranks_behind s n w x xs a b).upto n (omega arith)

pub ranked : (s n : ℕ) (name : List ℕ) (o : Op) (xs : List Item) → standing.AreNumberedDown (transcripts.calls s xs) → transcripts.StandsIn (item.Called s n (call.Command name o)) xs
    → at_place (claims_once.commands s (reverse xs)) (transcripts.commands_upto s n xs) ≡ Some (name, o)
ranked s n name o [] a b = absurd b
ranked s n name o (x ∷ xs) a (inl e) = subst (λ y. at_place (claims_once.commands s (reverse (y ∷ xs))) (transcripts.commands_upto s n (y ∷ xs)) ≡ Some (name, o)) (sym e) (first (subst (λ y. standing.AreNumberedDown (transcripts.calls s (y ∷ xs))) e a))
  where
    first : standing.AreNumberedDown (transcripts.calls s (item.Called s n (call.Command name o) ∷ xs)) → at_place (claims_once.commands s (reverse (item.Called s n (call.Command name o) ∷ xs))) (transcripts.commands_upto s n (item.Called s n (call.Command name o) ∷ xs)) ≡ Some (name, o)
    first b =
        let w = call.Command name o in
        let y = item.Called s n w in
        let ys = claims_once.commands s (reverse xs) in
        let c : standing.AreNumberedDown ((n, w) ∷ transcripts.calls s xs) = subst standing.AreNumberedDown (called_first s n w xs) b in
        let many = length (transcripts.calls s xs) in
        let number : n ≡ suc many = c.0 in
        let long : length ys ≡ count_by (λ v. transcripts.is_command v.1) (transcripts.calls s xs) = commands_long s xs in
        let low = all_low many (transcripts.calls s xs) (omega arith) c.1 in
        let new : transcripts.commands_upto s (suc many) (item.Called s (suc many) w ∷ xs) ≡ 1 + count_by (λ v. transcripts.is_command v.1) (transcripts.calls s xs) =
        new_rank many (count_by (λ v. transcripts.is_command v.1) (transcripts.calls s xs)) s w xs low refl in
        let rank : transcripts.commands_upto s n (y ∷ xs) ≡ suc (length ys) =
        ap (λ k. transcripts.commands_upto s k (item.Called s k w ∷ xs)) number ∙ omega (arith, new, long) in
        let list : claims_once.commands s (reverse (y ∷ xs)) ≡ ys ++ (name, o) ∷ [] =
        commands_more s y xs ∙ ap (λ cs. ys ++ flat_map claims_once.command_of cs) (called_alone s n w) in
        ap (λ k. at_place (claims_once.commands s (reverse (y ∷ xs))) k) rank ∙ ap (λ cs. at_place cs (suc (length ys))) list ∙ at_end ys (name, o)
ranked s n name o (x ∷ xs) a (inr b) =
    let front = at_front (claims_once.commands s (reverse xs)) (flat_map claims_once.command_of (transcripts.called_by s x)) (transcripts.commands_upto s n xs) (name, o) (ranked s n name o xs (numbered_behind s x xs a) b) in
    ap (λ k. at_place (claims_once.commands s (reverse (x ∷ xs))) k) (rank_behind s n (call.Command name o) x xs a b) ∙ ap (λ cs. at_place cs (transcripts.commands_upto s n xs)) (commands_more s x xs) ∙ front
