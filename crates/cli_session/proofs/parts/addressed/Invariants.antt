-- The payloads so far, each with the node.
use Rattle.std.proofs.Common.{◌≡◌, Some}
use Rattle.spec_client.specs.Clients as clients
use Rattle.cli_session.proofs.parts.addressed.Given as goal

abbrev pub invariant-payloads : goal.invariant-payloads
invariant-payloads l = l.sends ≡ clients.sends_of (Some l.node) l.yielded
