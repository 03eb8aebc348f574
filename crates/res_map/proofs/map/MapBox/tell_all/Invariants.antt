-- What is told so far, and then what is told of the keys to come, is what is told of all keys.
use Rattle.std.proofs.Common.{◌≡◌, ◌++◌}
use Rattle.std.specs.Map.{keys_of}
use Rattle.res_map.specs.Told as map_told
use Rattle.res_map.proofs.map.MapBox.tell_all.Given as goal

abbrev pub invariant-loop-key : goal.invariant-loop-key
invariant-loop-key l = l.told ++ map_told.tell_keys l.name l.self.listeners l.key-iterator ≡ map_told.tell_keys l.name l.self.listeners (keys_of l.self.entries)
