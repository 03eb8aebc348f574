-- The pairs of a multimap, from its keys and their texts.
use Rattle.std.specs.Prelude.{ℕ, List, [], ◌∷◌, ◌++◌, map}
use Rattle.std.specs.BTreeSet.{BTreeSet}

-- the texts of a key as pairs with the key
abbrev pub pairs_at : List ℕ → List (List ℕ) → List (List ℕ × List ℕ)
pairs_at key texts = map (λ v. (key, v)) texts

-- the pairs of all keys, in the order of the keys and then of the texts
abbrev pub pairs_in : List (List ℕ × BTreeSet (List ℕ)) → List (List ℕ × List ℕ)
pairs_in [] = []
pairs_in (e ∷ es) = pairs_at e.0 e.1.keys ++ pairs_in es
