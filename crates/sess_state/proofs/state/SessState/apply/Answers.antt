-- The parts, the book and what settles the turn are those of the definition.
use Rattle.std.proofs.Common.{◌≡◌, ℕ, suc, ◌+◌, ◌<◌, ◌∙◌, refl, sym, ap, subst, arith, false, Option}
use Rattle.ax_types.specs.declared.entries.Entry.{Entry}
use Rattle.ax_types.specs.declared.replies.Turn.{Turn}
use Rattle.spec_book.specs.Book as books
use Rattle.spec_sessions.specs.Sessions as session_states
use Rattle.res_registry.specs.State as states
use Rattle.sess_state.specs.ServerSessions as server_sessions
use Rattle.sess_state.specs.SessionParts as session_parts
use Rattle.sess_state.specs.declared.parts.Effect.{Effect}
use Rattle.sess_state.specs.declared.parts.Parts.{Parts}
use Rattle.sess_state.proofs.BesideBook.{AtTurn, settled, settled_boxes, applied_is, state_is, earlier_is, next_is, below_is, spelled}
use Rattle.sess_state.proofs.state.SessState.apply.Goals as goal

pub settle-requires-clause-earlier : goal.settle-requires-clause-earlier
settle-requires-clause-earlier c =
    let spent : c.self.inside.is_spent ≡ false = ap (λ (s : server_sessions.ServerSessions). s.is_spent) c.self.view_is ∙ c.requires.fresh in
    let same : c.self.inside.applied ≡ c.args.self.now.sessions.applied = ap (λ (s : server_sessions.ServerSessions). s.sessions.applied) c.self.view_is in
    let next : c.args.place ≡ suc c.self.inside.applied = omega (arith, c.requires.next, same) in
    let positive : 0 < c.args.place = omega (arith, next) in
    let below = subst (λ (n : ℕ). session_parts.LieBelow n c.self.inside.parts.table c.self.inside.parts.boxes) (sym next) (c.self.invariant spent).1 in
    let at : AtTurn c.self.inside.parts c.self.inside.book.resources c.args.place c.args.entry.now c.in_ok-effect.effect c.effect.new.self c.in_ok-turn.turn =
    record { effect = c.in_ok-effect.ensures.effect; parts = c.in_ok-effect.ensures.after; turn = c.in_ok-turn.ensures.ok } in
    earlier_is c.self.inside.parts c.self.inside.book.resources c.args.place c.args.entry.now c.in_ok-effect.effect c.effect.new.self c.in_ok-turn.turn at positive below

pub settle-requires-clause-next : goal.settle-requires-clause-next
settle-requires-clause-next c =
    let at : AtTurn c.self.inside.parts c.self.inside.book.resources c.args.place c.args.entry.now c.in_ok-effect.effect c.effect.new.self c.in_ok-turn.turn =
    record { effect = c.in_ok-effect.ensures.effect; parts = c.in_ok-effect.ensures.after; turn = c.in_ok-turn.ensures.ok } in
    next_is c.self.inside.parts c.self.inside.book.resources c.args.place c.args.entry.now c.in_ok-effect.effect c.effect.new.self c.in_ok-turn.turn at

pub invariant_of-self-2 : goal.invariant_of-self-2
invariant_of-self-2 c =
    let spent : c.self.inside.is_spent ≡ false = ap (λ (s : server_sessions.ServerSessions). s.is_spent) c.self.view_is ∙ c.requires.fresh in
    let same : c.self.inside.applied ≡ c.args.self.now.sessions.applied = ap (λ (s : server_sessions.ServerSessions). s.sessions.applied) c.self.view_is in
    let next : c.args.place ≡ suc c.self.inside.applied = omega (arith, c.requires.next, same) in
    let positive : 0 < c.args.place = omega (arith, next) in
    let below = subst (λ (n : ℕ). session_parts.LieBelow n c.self.inside.parts.table c.self.inside.parts.boxes) (sym next) (c.self.invariant spent).1 in
    let at : AtTurn c.self.inside.parts c.self.inside.book.resources c.args.place c.args.entry.now c.in_ok-effect.effect c.effect.new.self c.in_ok-turn.turn =
    record { effect = c.in_ok-effect.ensures.effect; parts = c.in_ok-effect.ensures.after; turn = c.in_ok-turn.ensures.ok } in
    let settled_below = below_is c.self.inside.parts c.self.inside.book.resources c.args.place c.args.entry.now c.in_ok-effect.effect c.effect.new.self c.in_ok-turn.turn at positive below in
    λ fresh. (
      ap (λ (b : states.BookState). b.is_spent) c.in_ok-turn.ensures.after,
      subst (λ (q : Parts). session_parts.LieBelow (suc c.args.place) q.table q.boxes) (sym c.in_ok-applied.ensures.after) settled_below,
    )

pub returns-clause-ok : goal.returns-clause-ok
returns-clause-ok c =
    let at : AtTurn c.self.inside.parts c.self.inside.book.resources c.args.place c.args.entry.now c.in_ok-effect.effect c.effect.new.self c.in_ok-turn.turn =
    record { effect = c.in_ok-effect.ensures.effect; parts = c.in_ok-effect.ensures.after; turn = c.in_ok-turn.ensures.ok } in
    let told = subst (λ (x : Option ℕ). c.in_ok-applied.applied ≡ settled c.args.place c.in_ok-effect.effect c.in_ok-turn.turn x c.effect.new.self) c.body_client-client.ensures c.in_ok-applied.ensures.ok in
    let whole = told ∙ applied_is c.self.inside.parts c.self.inside.applied c.self.inside.book.resources c.args.place c.args.entry.now c.in_ok-effect.effect c.effect.new.self c.in_ok-turn.turn at in
    subst (λ (s : server_sessions.ServerSessions). c.in_ok-applied.applied ≡ session_states.applied_of s.sessions c.args.place c.args.entry.now) c.self.view_is whole

pub returns-clause-after : goal.returns-clause-after
returns-clause-after c =
    let at : AtTurn c.self.inside.parts c.self.inside.book.resources c.args.place c.args.entry.now c.in_ok-effect.effect c.effect.new.self c.in_ok-turn.turn =
    record { effect = c.in_ok-effect.ensures.effect; parts = c.in_ok-effect.ensures.after; turn = c.in_ok-turn.ensures.ok } in
    let whole =
    spelled c.args.place c.act.new.self.resources (books.acted c.self.inside.book.resources c.args.place c.args.entry.now.time c.in_ok-effect.effect.act).state
    c.settle.new.self c.effect.new.self (settled_boxes c.args.place c.in_ok-effect.effect c.in_ok-turn.turn c.effect.new.self) _
    (ap (λ (b : states.BookState). b.resources) c.in_ok-turn.ensures.after) c.in_ok-applied.ensures.after
    (state_is c.self.inside.parts c.self.inside.applied c.self.inside.book.resources c.args.place c.args.entry.now c.in_ok-effect.effect c.effect.new.self c.in_ok-turn.turn at) in
    subst (λ (s : server_sessions.ServerSessions). (let t : server_sessions.ServerSessions = record {
      sessions = record { applied = c.args.place; book = c.act.new.self.resources; table = c.settle.new.self.table; boxes = c.settle.new.self.boxes };
      is_spent = false;
    } in t) ≡ (let u : server_sessions.ServerSessions = record { sessions = session_states.applying s.sessions c.args.place c.args.entry.now; is_spent = false } in u)) c.self.view_is whole
