-- The order of outboxes, and whether one is of a session.
use Rattle.std.specs.Prelude.{ℕ, ◌<◌, Bool, false, nat_eq, Option, Some, None, List, [], ◌∷◌}
use Rattle.spec_sessions.specs.Outboxes as outboxes

-- sessions rise, above one
abbrev pub AscendAbove : ℕ → List outboxes.Outbox → Type 0
AscendAbove session [] = Unit {0}
AscendAbove session (o ∷ boxes) = (session < o.session) × AscendAbove o.session boxes

abbrev pub Ascend : List outboxes.Outbox → Type 0
Ascend [] = Unit {0}
Ascend (o ∷ boxes) = AscendAbove o.session boxes

-- whether an outbox is there, and is of this session
abbrev pub is_box_of : ℕ → Option outboxes.Outbox → Bool
is_box_of session None = false
is_box_of session (Some o) = nat_eq o.session session
