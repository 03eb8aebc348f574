use Rattle.std.proofs.Common.{refl}
use Rattle.res_map.proofs.Gone.{tell_keys-keys_of}
use Rattle.res_map.proofs.map.MapBox.clear.Goals as goal

pub returns-clause-ok : goal.returns-clause-ok
returns-clause-ok c =
    rw (c.in_ok-told.ensures, ← c.self.view_is, tell_keys-keys_of c.args.name.now c.self.inside.listeners c.self.inside.entries) refl
