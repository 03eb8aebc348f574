use Rattle.std.proofs.Common.{◌≡◌, ◌++◌, take}
use Rattle.std.specs.Prelude.{flat_map}
use Rattle.spec_claims.specs.Heard as heard
use Rattle.world_seats.proofs.shown.watched.Given as goal

abbrev pub invariant-kinds : goal.invariant-kinds
invariant-kinds g l = l.below.items ≡ l.fn.below.items ++ flat_map (heard.watched_by l.batch.me l.batch.session l.batch.place l.events) (take l.kind-index l.watches)
