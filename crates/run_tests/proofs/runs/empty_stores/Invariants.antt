use Rattle.std.proofs.Common.{◌≡◌, length}
use Rattle.run_tests.proofs.runs.empty_stores.Given as goal

-- a store for each node before this one
abbrev pub invariant-nodes : goal.invariant-nodes
invariant-nodes l = length l.stores.items ≡ l._node
