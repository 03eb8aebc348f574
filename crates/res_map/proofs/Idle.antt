-- Before the first time at which a life ends, passing changes nothing and tells nobody.
use Rattle.std.proofs.Common.{◌≡◌, ℕ, ◌<◌, refl, ap, arith, false, not, List, [], ◌∷◌, Option, Some, None, filter}
use Rattle.std.specs.Prelude.{IfSome}
use Rattle.std.proofs.lemmas.Grind.{common_steps}
use Rattle.spec_book.specs.Resources as resources
use Rattle.spec_book.specs.MapTurn as map_turns
use Rattle.res_map.specs.Lives as lives

both_after : (time : ℕ) (a b : Option ℕ) → IfSome (lives.earlier a b) (λ end. time < end) → IfSome a (λ end. time < end) × IfSome b (λ end. time < end)
both_after time None b h = (tt, h)
both_after time (Some a) None h = (h, tt)
both_after time (Some a) (Some b) h = (omega arith, omega arith)

not_ended : (time : ℕ) (life : Option resources.Span) → IfSome (lives.life_end life) (λ end. time < end) → map_turns.life_ended time life ≡ false
not_ended time None h = refl
not_ended time (Some life) h = grind (arith, common_steps)

pub none_ended : (time : ℕ) (es : List (List ℕ × resources.MapItem)) → IfSome (lives.first_end es) (λ end. time < end)
    → filter (λ (e : List ℕ × resources.MapItem). map_turns.life_ended time e.1.life) es ≡ []
none_ended time [] h = refl
none_ended time (e ∷ es) h =
    let b = both_after time (lives.life_end e.1.life) (lives.first_end es) h in
    rw (not_ended time e.1.life b.0) (none_ended time es b.1)

pub all_last : (time : ℕ) (es : List (List ℕ × resources.MapItem)) → IfSome (lives.first_end es) (λ end. time < end)
    → filter (λ (e : List ℕ × resources.MapItem). not (map_turns.life_ended time e.1.life)) es ≡ es
all_last time [] h = refl
all_last time (e ∷ es) h =
    let b = both_after time (lives.life_end e.1.life) (lives.first_end es) h in
    rw (not_ended time e.1.life b.0) (ap (λ (left : List (List ℕ × resources.MapItem)). e ∷ left) (all_last time es b.1))

pub map_pass-idle : (time : ℕ) (s : resources.MapState) → IfSome (lives.first_end s.entries) (λ end. time < end) → map_turns.map_pass time s ≡ s
map_pass-idle time s h = ap (λ (es : List (List ℕ × resources.MapItem)). record s { entries = es }) (all_last time s.entries h)

pub map_passed-idle : (name : List ℕ) (time : ℕ) (s : resources.MapState) → IfSome (lives.first_end s.entries) (λ end. time < end) → map_turns.map_passed name time s ≡ []
map_passed-idle name time s h = ap (λ (es : List (List ℕ × resources.MapItem)). map_turns.tell_removed name s.listeners es) (none_ended time s.entries h)
