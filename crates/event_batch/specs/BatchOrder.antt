-- The order of the batches that are kept.
use Rattle.std.specs.Prelude.{ℕ, ◌<◌, ◌≤◌, List, [], ◌∷◌}
use Rattle.ax_types.specs.declared.entries.Batch.{Batch}

-- the places rise, from above one to at most another
abbrev pub Rise : ℕ → ℕ → List Batch → Type 0
Rise above last [] = above ≤ last
Rise above last (b ∷ batches) = (above < b.place) × Rise b.place last batches

abbrev pub RiseTo : ℕ → List Batch → Type 0
RiseTo last batches = Rise 0 last batches
