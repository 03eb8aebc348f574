-- What was there at first, and then what is sent for the requests so far.
use Rattle.std.proofs.Common.{◌≡◌, ◌++◌, map}
use Rattle.std.specs.Map.Iter.{deref}
use Rattle.cli_session.specs.GivingOut as giving
use Rattle.cli_session.proofs.parts.Parts.with_open_requests.Given as goal

abbrev pub invariant-requests : goal.invariant-requests
invariant-requests l = l.payloads.items ≡ l.initial.payloads.items ++ giving.open_payloads l.self.client (map deref l.yielded)
