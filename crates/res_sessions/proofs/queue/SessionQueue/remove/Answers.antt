-- The session goes from its place, and from the index.
use Rattle.std.proofs.Common.{◌≡◌, sym, ◌∙◌, position, length, ◌<◌, rules}
use Rattle.std.specs.Prelude.{◌↔◌, IsSome}
use Rattle.std.specs.VecDeque.{deque_len}
use Rattle.std.specs.Ordering.{nat_cmp}
use Rattle.std.specs.BTreeMap.{is_at}
use Rattle.spec_book.specs.Dict as dicts
use Rattle.res_sessions.proofs.Sessions.{IsIndexed-remove, absent_by_place, kept_by_place, gone_by_place, unchanged_unless_found}
use Rattle.res_sessions.proofs.queue.SessionQueue.remove.Goals as goal

pub returns-in-None-clause-found : goal.returns-in-None-clause-found
returns-in-None-clause-found c = sym (absent_by_place c.args.self.now c.args.session c.place_of.result c.place_of.ensures c.in-None.is)

pub returns-in-None-clause-after : goal.returns-in-None-clause-after
returns-in-None-clause-after c = kept_by_place c.args.self.now c.args.session c.place_of.result c.place_of.ensures c.in-None.is

pub returns-in-Some-clause-after : goal.returns-in-Some-clause-after
returns-in-Some-clause-after c =
    let same : deque_len c.self.inside.sessions ≡ length c.self.inside.sessions.items = search rules in
    let variant : IsSome c.remove.result ↔ (c.in-Some.place < length c.self.inside.sessions.items) = rw (← same) c.remove.ensures.variant in
    gone_by_place c.args.self.now c.remove.new.self.items c.args.session c.in-Some.place c.place_of.result c.remove.result c.place_of.ensures
    c.in-Some.is (rw (← c.self.view_is) variant) (rw (← c.self.view_is) c.remove.ensures.items)

pub returns-in-Some-clause-unchanged : goal.returns-in-Some-clause-unchanged
returns-in-Some-clause-unchanged c =
    let same : deque_len c.self.inside.sessions ≡ length c.self.inside.sessions.items = search rules in
    let variant : IsSome c.remove.result ↔ (c.in-Some.place < length c.self.inside.sessions.items) = rw (← same) c.remove.ensures.variant in
    let found : c.remove-in-Some.result ≡ dicts.has_session c.args.self.now c.args.session =
    rw (← c.self.view_is) (c.remove-in-Some.ensures.test ∙ c.self.invariant.same c.args.session) in
    unchanged_unless_found c.args.self.now c.remove.new.self.items c.args.session c.remove-in-Some.result found
    (gone_by_place c.args.self.now c.remove.new.self.items c.args.session c.in-Some.place c.place_of.result c.remove.result c.place_of.ensures
    c.in-Some.is (rw (← c.self.view_is) variant) (rw (← c.self.view_is) c.remove.ensures.items))

pub invariant_of-self : goal.invariant_of-self
invariant_of-self c =
    let same : deque_len c.self.inside.sessions ≡ length c.self.inside.sessions.items = search rules in
    let variant : IsSome c.remove.result ↔ (c.in-Some.place < length c.self.inside.sessions.items) = rw (← same) c.remove.ensures.variant in
    let at : c.place_of.result ≡ position (is_at (nat_cmp c.args.session)) c.self.inside.sessions.items = rw c.self.view_is c.place_of.ensures in
    let gone : c.remove.new.self.items ≡ dicts.without_session c.self.inside.sessions.items c.args.session =
    gone_by_place c.self.inside.sessions.items c.remove.new.self.items c.args.session c.in-Some.place c.place_of.result c.remove.result
    at c.in-Some.is variant c.remove.ensures.items
    in rw gone (IsIndexed-remove c.self.inside.index.keys c.self.inside.sessions.items c.remove-in-Some.new.self.keys c.args.session
    c.self.invariant c.remove-in-Some.ensures.updates.0)
