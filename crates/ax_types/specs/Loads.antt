-- What a store has kept where nothing was ever kept in it.
use Rattle.std.specs.Prelude.{None, []}
use Rattle.ax_types.specs.declared.entries.Loaded.{Loaded}

abbrev pub nothing_loaded : Loaded
nothing_loaded = record { term = 0; vote = None; log = [] }
