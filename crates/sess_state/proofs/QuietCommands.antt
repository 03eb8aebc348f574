-- A command changes neither the table nor the outboxes before its act is made; one that came again is answered what was kept.
use Rattle.std.proofs.Common.{◌≡◌, ℕ, suc, ◌≤◌, refl, arith, Bool, true, false, nat_eq, nat_le, List, Option, Some, None}
use Rattle.std.specs.Prelude.{if◌then◌else◌}
use Rattle.std.proofs.lemmas.Bool.Decides.{nat_tests}
use Rattle.ax_types.specs.declared.entries.Act.TheVariants as act
use Rattle.ax_types.specs.declared.ops.Op.{Op}
use Rattle.ax_types.specs.declared.packets.Payload.TheVariants as payload
use Rattle.ax_types.specs.declared.sessions.KeptReply.{KeptReply}
use Rattle.ax_types.specs.declared.sessions.SessionState.{SessionState}
use Rattle.ax_types.specs.declared.sessions.SessionState.TheVariants as state
use Rattle.spec_sessions.specs.Outboxes as outboxes
use Rattle.spec_sessions.specs.Sessions as session_states
use Rattle.sess_state.specs.SessionParts as session_parts
use Rattle.sess_state.specs.declared.parts.Parts.{Parts}
use Rattle.sess_state.proofs.BoxAt.{below_apart}

quiet_if : (p : Parts) (b : Bool) (d e : session_states.Effect) → session_parts.parts_after p d ≡ p → session_parts.parts_after p e ≡ p
    → session_parts.parts_after p (if b then d else e) ≡ p
quiet_if p true d e quiet other = quiet
quiet_if p false d e quiet other = other

quiet_again : (p : Parts) (session : ℕ) (x : Option KeptReply) → session_parts.parts_after p (session_states.again_from (session_parts.of_parts p) session x) ≡ p
quiet_again p session None = refl
quiet_again p session (Some k) = refl

quiet_live : (p : Parts) (session seq : ℕ) (name : List ℕ) (o : Op) (last : ℕ)
    → session_parts.parts_after p (session_states.commanding_live (session_parts.of_parts p) session seq name o last) ≡ p
quiet_live p session seq name o last =
    let s : session_states.Sessions = session_parts.of_parts p in
    quiet_if p (nat_eq seq (suc last)) (record (session_states.nothing s) { act = act.Do session name o; command = Some (session, seq) })
    (if nat_le seq last then session_states.again_from s session (outboxes.kept_reply s.boxes session seq) else session_states.only_answer s (Some (payload.Gap session last))) refl
    (quiet_if p (nat_le seq last) (session_states.again_from s session (outboxes.kept_reply s.boxes session seq)) (session_states.only_answer s (Some (payload.Gap session last)))
    (quiet_again p session (outboxes.kept_reply s.boxes session seq)) refl)

pub commanding_quiet : (p : Parts) (session seq : ℕ) (name : List ℕ) (o : Op) (x : SessionState)
    → session_parts.parts_after p (session_states.commanding (session_parts.of_parts p) session seq name o x) ≡ p
commanding_quiet p session seq name o state.Live = quiet_live p session seq name o (outboxes.last_seq p.boxes session)
commanding_quiet p session seq name o state.Unknown = refl
commanding_quiet p session seq name o (state.Ended place how) = refl

pub came_again : (s : session_states.Sessions) (session seq : ℕ) (name : List ℕ) (o : Op) (last : ℕ) → seq ≤ last
    → session_states.commanding_live s session seq name o last ≡ session_states.again_from s session (outboxes.kept_reply s.boxes session seq)
came_again s session seq name o last le =
    let apart : nat_eq seq (suc last) ≡ false = below_apart (suc last) seq (omega arith) in
    let early : nat_le seq last ≡ true = grind (arith, nat_tests) in
    rw (apart, early) refl
