-- What is told so far, and then what is told of the keys to come, is what is told of these keys.
use Rattle.std.proofs.Common.{◌≡◌, ◌++◌}
use Rattle.res_map.specs.Told as map_told
use Rattle.res_map.proofs.map.MapBox.tell_ended.Given as goal

abbrev pub invariant-loop-key : goal.invariant-loop-key
invariant-loop-key l = l.told ++ map_told.tell_keys l.name l.self.listeners l.key-iterator ≡ map_told.tell_keys l.name l.self.listeners l.keys.keys
