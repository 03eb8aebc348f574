-- Taking out the keys whose lives have ended leaves the other entries, and what is told of keys is what is told of their entries.
use Rattle.std.proofs.Common.{◌≡◌, ℕ, ◌∙◌, refl, ap, Bool, true, false, cond, not, List, [], ◌∷◌, ◌++◌, filter}
use Rattle.std.specs.declared.cmp.Ordering.TheVariants.{Less}
use Rattle.std.specs.Ordering.{is_eq}
use Rattle.std.specs.List.{AllByRecursion}
use Rattle.std.specs.List.Sorted.{IsStrictlySortedBy}
use Rattle.std.specs.Map.{keys_of}
use Rattle.std.specs.BTreeMap.{is_at}
use Rattle.std.proofs.lemmas.Map.Keys.{sorted_head, sorted_tail}
use Rattle.ax_types.specs.declared.replies.Event.TheVariants as event
use Rattle.spec_book.specs.Dict as dicts
use Rattle.spec_book.specs.Resources as resources
use Rattle.spec_book.specs.MapTurn as map_turns
use Rattle.res_map.specs.Lives as map_lives
use Rattle.res_map.specs.Told as map_told
use Rattle.res_map.proofs.Keys.{key_at_itself, same_key_swapped}
use Rattle.res_map.proofs.Ended.{AllByRecursion-keys}

-- keys that are not the first one's are taken out of the others
without_keys-under : (e : List ℕ × resources.MapItem) (es : List (List ℕ × resources.MapItem)) (keys : List (List ℕ))
    → AllByRecursion (λ key. dicts.bytes_cmp e.0 key ≡ Less) keys → map_lives.without_keys (e ∷ es) keys ≡ e ∷ map_lives.without_keys es keys
without_keys-under e es [] a = refl
without_keys-under e es (key ∷ keys) a =
    let apart : is_at (dicts.bytes_cmp key) e.0 ≡ false = same_key_swapped key e.0 ∙ ap is_eq a.0 in
    ap (λ (left : List (List ℕ × resources.MapItem)). map_lives.without_keys left keys) (ap (λ (b : Bool). cond b es (e ∷ dicts.without_entry es key)) apart)
    ∙ without_keys-under e (dicts.without_entry es key) keys a.1

pub without_keys-ended : (time : ℕ) (es : List (List ℕ × resources.MapItem)) → IsStrictlySortedBy dicts.bytes_cmp (keys_of es)
    → map_lives.without_keys es (map_lives.ended_keys time es) ≡ filter (λ (e : List ℕ × resources.MapItem). not (map_turns.life_ended time e.1.life)) es
without_keys-ended time [] sorted = refl
without_keys-ended time (e ∷ es) sorted =
    by_life (map_turns.life_ended time e.1.life) refl (without_keys-ended time es (sorted_tail dicts.bytes_cmp e.0 (keys_of es) sorted))
    (AllByRecursion-keys (λ key. dicts.bytes_cmp e.0 key ≡ Less) (λ (x : List ℕ × resources.MapItem). map_turns.life_ended time x.1.life) es (sorted_head dicts.bytes_cmp e.0 (keys_of es) sorted))
  where
    by_life : (b : Bool) → map_turns.life_ended time e.1.life ≡ b
        → map_lives.without_keys es (map_lives.ended_keys time es) ≡ filter (λ (x : List ℕ × resources.MapItem). not (map_turns.life_ended time x.1.life)) es
        → AllByRecursion (λ key. dicts.bytes_cmp e.0 key ≡ Less) (map_lives.ended_keys time es)
        → map_lives.without_keys (e ∷ es) (map_lives.ended_keys time (e ∷ es)) ≡ filter (λ (x : List ℕ × resources.MapItem). not (map_turns.life_ended time x.1.life)) (e ∷ es)
    by_life true h more below =
        rw h (ap (λ (left : List (List ℕ × resources.MapItem)). map_lives.without_keys left (map_lives.ended_keys time es)) (ap (λ (b : Bool). cond b es (e ∷ dicts.without_entry es e.0)) (key_at_itself e.0)) ∙ more)
    by_life false h more below = rw h (without_keys-under e es (map_lives.ended_keys time es) below ∙ ap (λ (left : List (List ℕ × resources.MapItem)). e ∷ left) more)

pub tell_keys-keys_of : (name listeners : List ℕ) (es : List (List ℕ × resources.MapItem)) → map_told.tell_keys name listeners (keys_of es) ≡ map_turns.tell_removed name listeners es
tell_keys-keys_of name listeners [] = refl
tell_keys-keys_of name listeners (e ∷ es) = ap (λ told. resources.tell listeners (event.Removed name e.0) ++ told) (tell_keys-keys_of name listeners es)
