-- What watches show below the items of a client.
use Rattle.std.proofs.Common.{◌≡◌, ◌∙◌, refl, sym, ap, ℕ, nat_eq, true, length, ◌≢◌, arith, List, [], ◌∷◌, ◌++◌}
use Rattle.std.proofs.lemmas.Bool.Decides.{nat_tests}
use Rattle.ax_types.specs.declared.items.Item.{Item}
use Rattle.ax_types.specs.declared.items.Item.TheVariants as item
use Rattle.ax_types.specs.declared.steps.WatchKind.{WatchKind}
use Rattle.spec_world.specs.Moves as moves

shown_none : (c : ℕ) (i : Item) → moves.shown_below c [] i ≡ []
shown_none c (item.Event s p prev es) = refl
shown_none c i = refl

-- no watches show nothing
with_shown_none : (c : ℕ) (items : List Item) → moves.with_shown c [] items ≡ items
with_shown_none c [] = refl
with_shown_none c (i ∷ items) = ap (λ (below : List Item). (i ∷ below) ++ moves.with_shown c [] items) (shown_none c i) ∙ ap (λ xs. i ∷ xs) (with_shown_none c items)

append_nil : (xs : List Item) → xs ++ [] ≡ xs
append_nil [] = refl
append_nil (x ∷ xs) = ap (λ ys. x ∷ ys) (append_nil xs)

append_append : (xs ys zs : List Item) → (xs ++ ys) ++ zs ≡ xs ++ (ys ++ zs)
append_append [] ys zs = refl
append_append (x ∷ xs) ys zs = ap (λ us. x ∷ us) (append_append xs ys zs)

-- one item more, with what is shown below it
pub with_shown_more : (c : ℕ) (ws : List WatchKind) (items : List Item) (i : Item) → moves.with_shown c ws (items ++ i ∷ []) ≡ moves.with_shown c ws items ++ i ∷ moves.shown_below c ws i
with_shown_more c ws [] i = append_nil (i ∷ moves.shown_below c ws i)
with_shown_more c ws (j ∷ items) i =
    ap (λ (xs : List Item). (j ∷ moves.shown_below c ws j) ++ xs) (with_shown_more c ws items i)
    ∙ sym (append_append (j ∷ moves.shown_below c ws j) (moves.with_shown c ws items) (i ∷ moves.shown_below c ws i))

none_are : (n : ℕ) → nat_eq n 0 ≡ true → n ≡ 0
none_are n e = grind (arith, nat_tests)

pub with_shown_empty : (c : ℕ) (ws : List WatchKind) (items : List Item) → nat_eq (length ws) 0 ≡ true → items ≡ moves.with_shown c ws items
with_shown_empty c [] items e = sym (with_shown_none c items)
with_shown_empty c (w ∷ ws) items e = absurd (let more : length (w ∷ ws) ≢ 0 = omega arith in more (none_are (length (w ∷ ws)) e))
