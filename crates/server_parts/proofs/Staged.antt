-- The stages of a step, one behind the other, are the step behind that of the Raft node.
use Rattle.std.proofs.Common.{◌≡◌, ℕ, ◌∙◌, ap, false, Option, List, ◌++◌}
use Rattle.ax_types.specs.declared.entries.Act.{Act}
use Rattle.ax_types.specs.declared.items.Item.{Item}
use Rattle.ax_types.specs.declared.packets.Packet.{Packet}
use Rattle.ax_types.specs.declared.raft.Out.{Out}
use Rattle.ax_types.specs.declared.sessions.Held.{Held}
use Rattle.ax_types.specs.declared.sessions.ServerOut.{ServerOut}
use Rattle.spec_server.specs.Servers as servers
use Rattle.spec_server.specs.ServerStep as server_steps
use Rattle.server_parts.specs.ServerStates as states
use Rattle.server_parts.specs.StepAsks as asked
use Rattle.server_parts.specs.StepStages as stages

-- the stages, with whether the state is spent
abbrev pub first_stage : states.ServerState → servers.Task → Option ℕ → states.ServerState
first_stage a t reached = record { server = stages.taken_up a.server t.connect t.read reached; is_spent = a.is_spent }

abbrev pub second_stage : states.ServerState → states.ServerState
second_stage a = record { server = stages.caught_up a.server; is_spent = false }

abbrev pub third_stage : states.ServerState → List Held → List (ℕ × ℕ) → states.ServerState
third_stage a held reads = record { server = stages.gated a.server held reads; is_spent = a.is_spent }

abbrev pub last_stage : states.ServerState → states.ServerState
last_stage a = record { server = stages.let_go a.server; is_spent = a.is_spent }

pub staged : (a b c d e : states.ServerState) (o : Out) (t : servers.Task) → b ≡ first_stage a t o.reached → c ≡ second_stage b → d ≡ third_stage c t.held o.reads → e ≡ last_stage d
    → e ≡ record { server = server_steps.server_at (asked.stage_behind a.server o t); is_spent = false }
staged a b c d e o t p q r s =
    s ∙ ap last_stage (r ∙ ap (λ (x : states.ServerState). third_stage x t.held o.reads) (q ∙ ap second_stage p))

-- what a step gives
abbrev pub out_with : Out → List Packet → List (ℕ × Act) → Option ℕ → Option Item → ServerOut
out_with o packets acts led reach = record { saves = o.saves; packets = packets; committed = o.committed; acts = acts; led = led; reach = reach }

pub given : (a b c d e : states.ServerState) (o : Out) (t : servers.Task) (first second third : List Packet) (acts : List (ℕ × Act)) (led : Option ℕ) (reach : Option Item)
    → b ≡ first_stage a t o.reached → c ≡ second_stage b → d ≡ third_stage c t.held o.reads → e ≡ last_stage d
    → first ≡ o.packets ++ t.passed
    → second ≡ first ++ (stages.progress_in b.server).packets
    → third ≡ stages.with_answers second d.server t.hearing
    → acts ≡ (stages.progress_in b.server).acts
    → led ≡ server_steps.led_term e.server.raft o.led
    → reach ≡ server_steps.reach_item a.server.raft t.read o.reached
    → out_with o third acts led reach ≡ server_steps.out_at (asked.stage_behind a.server o t) t
given a b c d e o t first second third acts led reach p q r s sends more answers did leads reaches =
    let g : server_steps.Stage = asked.stage_behind a.server o t in
    let passed : List Packet = o.packets ++ t.passed in
    let third_is : d ≡ third_stage (second_stage (first_stage a t o.reached)) t.held o.reads =
    r ∙ ap (λ (x : states.ServerState). third_stage x t.held o.reads) (q ∙ ap second_stage p) in
    let last_is : e ≡ last_stage (third_stage (second_stage (first_stage a t o.reached)) t.held o.reads) = s ∙ ap last_stage third_is in
    let gone : second ≡ passed ++ g.progress.packets =
    more ∙ (ap (λ (ps : List Packet). ps ++ (stages.progress_in b.server).packets) sends ∙ ap (λ (x : states.ServerState). passed ++ (stages.progress_in x.server).packets) p) in
    let packets : third ≡ server_steps.packets_at g t =
    answers ∙ (ap (λ (ps : List Packet). stages.with_answers ps d.server t.hearing) gone
    ∙ ap (λ (x : states.ServerState). stages.with_answers (passed ++ g.progress.packets) x.server t.hearing) third_is) in
    let acted : acts ≡ g.progress.acts = did ∙ ap (λ (x : states.ServerState). (stages.progress_in x.server).acts) p in
    let led_is : led ≡ server_steps.led_term g.raft o.led = leads ∙ ap (λ (x : states.ServerState). server_steps.led_term x.server.raft o.led) last_is in
    ap (λ (ps : List Packet). out_with o ps acts led reach) packets
    ∙ (ap (λ (xs : List (ℕ × Act)). out_with o (server_steps.packets_at g t) xs led reach) acted
    ∙ (ap (λ (l : Option ℕ). out_with o (server_steps.packets_at g t) g.progress.acts l reach) led_is
    ∙ ap (λ (x : Option Item). out_with o (server_steps.packets_at g t) g.progress.acts (server_steps.led_term g.raft o.led) x) reaches))
