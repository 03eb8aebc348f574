-- A command that came again is answered what was kept.
use Rattle.std.proofs.Common.{◌≡◌, sym, subst, Option}
use Rattle.std.specs.Prelude.{IfOk}
use Rattle.ax_types.specs.declared.sessions.KeptReply.{KeptReply}
use Rattle.spec_sessions.specs.Sessions as session_states
use Rattle.sess_state.specs.SessionParts as session_parts
use Rattle.sess_state.specs.declared.parts.Effect.{Effect}
use Rattle.sess_state.proofs.QuietCommands.{came_again}
use Rattle.sess_state.proofs.parts.Parts.commanding_live.Goals as goal

pub returns-then-seq-last : goal.returns-then-seq-last
returns-then-seq-last c =
    let s : session_states.Sessions = session_parts.of_parts c.args.self.now in
    let kept = subst (λ (x : Option KeptReply). IfOk c.again_from.result (λ (e : Effect). e ≡ session_parts.effect_of (session_states.again_from s c.args.session x))) c.reply.ensures (c.again_from.ensures s) in
    subst (λ (d : session_states.Effect). IfOk c.again_from.result (λ (e : Effect). e ≡ session_parts.effect_of d))
    (sym (came_again s c.args.session c.args.seq c.args.name.now c.args.op.now c.args.last c.if-seq-last.true)) kept
