use Rattle.std.proofs.Common.{◌∙◌}
use Rattle.spec_client.specs.Clients as clients
use Rattle.world_seats.proofs.Sitting.{sat_still, found_seen, asked_at, after_step}
use Rattle.world_seats.proofs.seats.Seats.resend.Goals as goal

pub invariant_of-self-2 : goal.invariant_of-self-2
invariant_of-self-2 c = sat_still c.self.inside.seats.items c.index_of.result c.args.client c.self.inside.calls c.self.inside.is_spent c.args.self.now c.index_mut-seat.result.now c.resend.new.self _ c.self.view_is c.requires.whole c.requires.room c.index_of.ensures c.requires.known c.index_mut-seat.ensures.value c.self.invariant c.in_ok-step.ensures.after

pub returns-clause-ok : goal.returns-clause-ok
returns-clause-ok c =
    c.in_ok-step.ensures.ok
    ∙ (asked_at c.args.self.now.seats c.index_of.result c.args.client c.index_mut-seat.result.now.watcher clients.resend_refusal clients.resends c.index_of.ensures (found_seen c.self.inside.seats.items c.index_of.result c.args.client c.self.inside.calls c.self.inside.is_spent c.args.self.now c.index_mut-seat.result.now c.self.view_is c.index_of.ensures c.requires.known c.index_mut-seat.ensures.value)).step

pub returns-clause-after : goal.returns-clause-after
returns-clause-after c =
    after_step c.self.inside.seats.items c.index_of.result c.args.client c.self.inside.calls c.self.inside.is_spent c.args.self.now c.index_mut-seat.result.now c.resend.new.self _ _ _ c.self.view_is c.requires.whole c.index_of.ensures
    (asked_at c.args.self.now.seats c.index_of.result c.args.client c.index_mut-seat.result.now.watcher clients.resend_refusal clients.resends c.index_of.ensures (found_seen c.self.inside.seats.items c.index_of.result c.args.client c.self.inside.calls c.self.inside.is_spent c.args.self.now c.index_mut-seat.result.now c.self.view_is c.index_of.ensures c.requires.known c.index_mut-seat.ensures.value))
    c.in_ok-step.ensures.after
