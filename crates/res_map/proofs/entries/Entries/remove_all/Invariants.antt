-- The removal of the keys to come, from the entries so far, ends as the removal of all keys.
use Rattle.std.proofs.Common.{◌≡◌}
use Rattle.res_map.specs.Lives as lives
use Rattle.res_map.proofs.entries.Entries.remove_all.Given as goal

abbrev pub invariant-loop-key : goal.invariant-loop-key
invariant-loop-key l = lives.without_keys l.self l.key-iterator ≡ lives.without_keys l.initial.self l.keys.keys
