use Rattle.std.proofs.Common.{◌≡◌, ◌++◌, take}
use Rattle.spec_claims.specs.Heard as heard
use Rattle.world_seats.proofs.shown.watched_by.Given as goal

abbrev pub invariant-events : goal.invariant-events
invariant-events g l = l.below.items ≡ l.fn.below.items ++ heard.watched_by l.batch.me l.batch.session l.batch.place (take l.event-index l.events) l.kind
