-- The session stands last, and in the index.
use Rattle.std.proofs.Common.{◌≡◌, false}
use Rattle.spec_book.specs.Dict as dicts
use Rattle.res_sessions.proofs.Sessions.{IsIndexed-push}
use Rattle.res_sessions.proofs.queue.SessionQueue.push.Goals as goal

pub invariant_of-self-in-Ok : goal.invariant_of-self-in-Ok
invariant_of-self-in-Ok c =
    let absent : dicts.has_session c.self.inside.sessions.items c.args.session ≡ false = rw c.self.view_is c.requires in
    rw (c.in-Ok.ensures.items, c.in_ok-reserve.ensures.items)
    (IsIndexed-push c.self.inside.index.keys c.self.inside.sessions.items c.insert.new.self.keys c.args.session c.self.invariant absent
    (c.in_ok-insert.ensures.updates.0))
