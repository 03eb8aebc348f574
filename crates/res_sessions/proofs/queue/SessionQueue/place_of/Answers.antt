-- A session that the index has not stands nowhere.
use Rattle.std.proofs.Common.{◌≡◌, false, sym, ◌∙◌}
use Rattle.std.specs.Ordering.{nat_cmp}
use Rattle.std.specs.BTreeMap.{is_at}
use Rattle.spec_book.specs.Dict as dicts
use Rattle.res_sessions.proofs.Sessions.{position-absent}
use Rattle.res_sessions.proofs.queue.SessionQueue.place_of.Goals as goal

pub returns-then-not-contains : goal.returns-then-not-contains
returns-then-not-contains c =
    let absent : dicts.has_session c.args.self.now c.args.session ≡ false = sym c.contains.ensures ∙ c.if-not-contains.true in
    position-absent (is_at (nat_cmp c.args.session)) c.args.self.now absent
