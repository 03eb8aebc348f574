-- What is sent for the requests so far.
use Rattle.std.proofs.Common.{◌≡◌, map}
use Rattle.std.specs.Map.Iter.{deref}
use Rattle.cli_session.specs.GivingOut as giving
use Rattle.cli_session.proofs.parts.Parts.gap.Given as goal

abbrev pub invariant-requests : goal.invariant-requests
invariant-requests l = l.payloads.items ≡ giving.gap_payloads l.self.client l.last (map deref l.yielded)
