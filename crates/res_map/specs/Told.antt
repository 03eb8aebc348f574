-- What the listeners are told of keys that go.
use Rattle.std.specs.Prelude.{ℕ, List, flat_map}
use Rattle.ax_types.specs.declared.replies.Event.{Event}
use Rattle.ax_types.specs.declared.replies.Event.TheVariants as event
use Rattle.spec_book.specs.Resources as resources

-- `removed` to the listeners for each of the keys, in their order
abbrev pub tell_keys : List ℕ → List ℕ → List (List ℕ) → List (ℕ × Event)
tell_keys name listeners keys = flat_map (λ k. resources.tell listeners (event.Removed name k)) keys
