-- The end, and then what becomes of the requests so far.
use Rattle.std.proofs.Common.{◌≡◌, ◌++◌, map}
use Rattle.std.specs.Map.Iter.{deref}
use Rattle.cli_session.specs.GivingOut as giving
use Rattle.cli_session.proofs.parts.Parts.end_items.Given as goal

abbrev pub invariant-requests : goal.invariant-requests
invariant-requests l = l.items.items ≡ l.initial.items.items ++ map (giving.item_at_end l.session) (map deref l.yielded)
