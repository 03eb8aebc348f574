-- The places that are applied so far, and those that are left.
use Rattle.std.proofs.Common.{◌≡◌, ℕ, zero, suc, ◌+◌, ◌<◌, ◌≤◌, ◌∙◌, refl, sym, ap, subst, arith, Bool, false, List, [], ◌∷◌, ◌++◌, append-nil, append_assoc, Some, take, drop, slice_get}
use Rattle.ax_types.specs.Places as lists
use Rattle.ax_types.specs.declared.entries.Act.{Act}
use Rattle.ax_types.specs.declared.entries.Entry.{Entry}
use Rattle.ax_types.specs.declared.packets.Packet.{Packet}
use Rattle.spec_node.specs.Node as nodes
use Rattle.spec_sessions.specs.Sessions as session_states
use Rattle.spec_server.specs.Gates as gates
use Rattle.spec_server.specs.ServerStep as server_steps
use Rattle.sess_state.specs.ServerSessions as server_sessions
use Rattle.server_parts.specs.StepStages as stages

drop_front : {X : Type 0} (xs : List X) (k c : ℕ) (x : X) → slice_get xs k ≡ Some x → k < c → drop k (take c xs) ≡ x ∷ drop (suc k) (take c xs)
drop_front [] k c x at less = absurd (cc)
drop_front (y ∷ xs) zero zero x at less = absurd (omega arith)
drop_front (y ∷ xs) zero (suc c) x at less = cc
drop_front (y ∷ xs) (suc k) zero x at less = absurd (omega arith)
drop_front (y ∷ xs) (suc k) (suc c) x at less = drop_front xs k c x at (omega arith)

none_left : {X : Type 0} (xs : List X) (k c : ℕ) → c ≤ k → drop k (take c xs) ≡ []
none_left xs zero zero le = refl
none_left xs (suc k) zero le = refl
none_left xs zero (suc c) le = absurd (omega arith)
none_left [] (suc k) (suc c) le = refl
none_left (x ∷ xs) (suc k) (suc c) le = none_left xs k c (omega arith)

-- the first place that is left, and the others
one_applied : (n : nodes.Node) (cs : List gates.Connection) (s : session_states.Sessions) (e : Entry) → lists.at_place n.log (suc s.applied) ≡ Some e → s.applied < n.commit
    → stages.all_applied n cs s ≡ record (stages.all_applied n cs (session_states.applying s (suc s.applied) e)) {
      packets = stages.sent_at n cs s (suc s.applied) e ++ (stages.all_applied n cs (session_states.applying s (suc s.applied) e)).packets;
      acts = stages.act_at s (suc s.applied) e ∷ (stages.all_applied n cs (session_states.applying s (suc s.applied) e)).acts;
    }
one_applied n cs s e at less = ap (λ (es : List Entry). server_steps.applying_all n cs s es) (drop_front n.log s.applied n.commit e at less)

pub record SoFar (n : nodes.Node) (cs : List gates.Connection) (old : server_sessions.ServerSessions) (sent : List Packet) (now : server_sessions.ServerSessions) (packets : List Packet) (acts : List (ℕ × Act)) (before : ℕ) : Type 0 where
  pub did : acts ++ (stages.all_applied n cs now.sessions).acts ≡ (stages.all_applied n cs old.sessions).acts
  pub sends : packets ++ (stages.all_applied n cs now.sessions).packets ≡ sent ++ (stages.all_applied n cs old.sessions).packets
  pub state : (stages.all_applied n cs now.sessions).state ≡ (stages.all_applied n cs old.sessions).state
  pub applied : now.sessions.applied ≡ before
  pub fresh : now.is_spent ≡ false

pub next_place : (n : nodes.Node) (cs : List gates.Connection) (old : server_sessions.ServerSessions) (sent : List Packet)
    (now next : server_sessions.ServerSessions) (packets more : List Packet) (acts further : List (ℕ × Act)) (before : ℕ) (e : Entry)
    → SoFar n cs old sent now packets acts before → before < n.commit → lists.at_place n.log (before + 1) ≡ Some e
    → further ≡ acts ++ stages.act_at now.sessions (before + 1) e ∷ []
    → more ≡ packets ++ stages.sent_at n cs now.sessions (before + 1) e
    → next ≡ record { sessions = session_states.applying now.sessions (before + 1) e; is_spent = false }
    → SoFar n cs old sent next more further (before + 1)
next_place n cs old sent now next packets more acts further before e so less at did sends after =
    let here : before + 1 ≡ suc now.sessions.applied = (let same : now.sessions.applied ≡ before = so.applied in omega arith) in
    let within : now.sessions.applied < n.commit = (let same : now.sessions.applied ≡ before = so.applied in omega arith) in
    let there : lists.at_place n.log (suc now.sessions.applied) ≡ Some e = subst (λ (k : ℕ). lists.at_place n.log k ≡ Some e) here at in
    let step = one_applied n cs now.sessions e there within in
    let reached : next.sessions ≡ session_states.applying now.sessions (suc now.sessions.applied) e =
    ap (λ (s : server_sessions.ServerSessions). s.sessions) after ∙ ap (λ (k : ℕ). session_states.applying now.sessions k e) here in
    let rest : stages.all_applied n cs next.sessions ≡ stages.all_applied n cs (session_states.applying now.sessions (suc now.sessions.applied) e) =
    ap (λ (s : session_states.Sessions). stages.all_applied n cs s) reached in
    let act : ℕ × Act = stages.act_at now.sessions (suc now.sessions.applied) e in
    let gone : List Packet = stages.sent_at n cs now.sessions (suc now.sessions.applied) e in
    let left : server_steps.Progress = stages.all_applied n cs (session_states.applying now.sessions (suc now.sessions.applied) e) in
    let done : further ≡ acts ++ act ∷ [] = did ∙ ap (λ (k : ℕ). acts ++ stages.act_at now.sessions k e ∷ []) here in
    let gave : more ≡ packets ++ gone = sends ∙ ap (λ (k : ℕ). packets ++ stages.sent_at n cs now.sessions k e) here in
    record {
      did =
          ap (λ (xs : List (ℕ × Act)). xs ++ (stages.all_applied n cs next.sessions).acts) done
          ∙ (ap (λ (p : server_steps.Progress). (acts ++ act ∷ []) ++ p.acts) rest
          ∙ (append_assoc acts (act ∷ []) left.acts
          ∙ (sym (ap (λ (p : server_steps.Progress). acts ++ p.acts) step) ∙ so.did)));
      sends =
          ap (λ (ps : List Packet). ps ++ (stages.all_applied n cs next.sessions).packets) gave
          ∙ (ap (λ (p : server_steps.Progress). (packets ++ gone) ++ p.packets) rest
          ∙ (append_assoc packets gone left.packets
          ∙ (sym (ap (λ (p : server_steps.Progress). packets ++ p.packets) step) ∙ so.sends)));
      state =
          ap (λ (p : server_steps.Progress). p.state) rest
          ∙ (sym (ap (λ (p : server_steps.Progress). p.state) step) ∙ so.state);
      applied = ap (λ (s : server_sessions.ServerSessions). s.sessions.applied) after;
      fresh = ap (λ (s : server_sessions.ServerSessions). s.is_spent) after;
    }

-- after the last place that is committed nothing is left
nothing_left : (n : nodes.Node) (cs : List gates.Connection) (s : session_states.Sessions) → n.commit ≤ s.applied
    → stages.all_applied n cs s ≡ record { state = s; packets = []; acts = [] }
nothing_left n cs s le = ap (λ (es : List Entry). server_steps.applying_all n cs s es) (none_left n.log s.applied n.commit le)

pub acts_are : (n : nodes.Node) (cs : List gates.Connection) (old : server_sessions.ServerSessions) (sent : List Packet) (now : server_sessions.ServerSessions) (packets : List Packet) (acts : List (ℕ × Act)) (before : ℕ)
    → SoFar n cs old sent now packets acts before → n.commit ≤ before → acts ≡ (stages.all_applied n cs old.sessions).acts
acts_are n cs old sent now packets acts before so le =
    let all : stages.all_applied n cs now.sessions ≡ record { state = now.sessions; packets = []; acts = [] } =
    nothing_left n cs now.sessions (let same : now.sessions.applied ≡ before = so.applied in omega arith) in
    sym (append-nil acts) ∙ (sym (ap (λ (p : server_steps.Progress). acts ++ p.acts) all) ∙ so.did)

pub packets_are : (n : nodes.Node) (cs : List gates.Connection) (old : server_sessions.ServerSessions) (sent : List Packet) (now : server_sessions.ServerSessions) (packets : List Packet) (acts : List (ℕ × Act)) (before : ℕ)
    → SoFar n cs old sent now packets acts before → n.commit ≤ before → packets ≡ sent ++ (stages.all_applied n cs old.sessions).packets
packets_are n cs old sent now packets acts before so le =
    let all : stages.all_applied n cs now.sessions ≡ record { state = now.sessions; packets = []; acts = [] } =
    nothing_left n cs now.sessions (let same : now.sessions.applied ≡ before = so.applied in omega arith) in
    sym (append-nil packets) ∙ (sym (ap (λ (p : server_steps.Progress). packets ++ p.packets) all) ∙ so.sends)

abbrev both : session_states.Sessions → Bool → server_sessions.ServerSessions
both s spent = record { sessions = s; is_spent = spent }

whole : (now : server_sessions.ServerSessions) (s : session_states.Sessions) → now.sessions ≡ s → now.is_spent ≡ false → now ≡ both s false
whole now s is fresh = ap (λ (x : session_states.Sessions). both x now.is_spent) is ∙ ap (both s) fresh

pub state_is : (n : nodes.Node) (cs : List gates.Connection) (old : server_sessions.ServerSessions) (sent : List Packet) (now : server_sessions.ServerSessions) (packets : List Packet) (acts : List (ℕ × Act)) (before : ℕ)
    → SoFar n cs old sent now packets acts before → n.commit ≤ before → now ≡ record { sessions = (stages.all_applied n cs old.sessions).state; is_spent = false }
state_is n cs old sent now packets acts before so le =
    let all : stages.all_applied n cs now.sessions ≡ record { state = now.sessions; packets = []; acts = [] } =
    nothing_left n cs now.sessions (let same : now.sessions.applied ≡ before = so.applied in omega arith) in
    let sessions : now.sessions ≡ (stages.all_applied n cs old.sessions).state = sym (ap (λ (p : server_steps.Progress). p.state) all) ∙ so.state in
    whole now (stages.all_applied n cs old.sessions).state sessions so.fresh
