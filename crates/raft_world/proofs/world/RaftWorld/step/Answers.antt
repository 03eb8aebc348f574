use Rattle.std.proofs.Common.{◌≡◌, ℕ, false, ap, ◌∙◌}
use Rattle.raft_world.specs.Reached.{IsRunOf, OpenCluster}
use Rattle.raft_world.proofs.Between.{reached_sound, run_after, run_grows}
use Rattle.raft_world.proofs.Agreeing as agreeing
use Rattle.raft_world.proofs.world.RaftWorld.step.Goals as goal

pub step-requires : goal.step-requires
step-requires c = (c.self.inside.nodes, reached_sound c.self.inside.nodes c.self.inside.cluster (c.self.invariant.1 (ap (λ (w : OpenCluster). w.is_spent) c.self.view_is ∙ c.requires)))

pub invariant_of-self-2 : goal.invariant_of-self-2
invariant_of-self-2 c = (c.self.invariant.0, λ e. run_after c.self.inside.nodes c.self.inside.cluster c.step.new.self c.args.step.now (c.self.invariant.1 (ap (λ (w : OpenCluster). w.is_spent) c.self.view_is ∙ c.requires)) c.in_ok-step.ensures)

pub returns-clause-reached : goal.returns-clause-reached
returns-clause-reached c = run_after c.self.inside.nodes c.self.inside.cluster c.step.new.self c.args.step.now (c.self.invariant.1 (ap (λ (w : OpenCluster). w.is_spent) c.self.view_is ∙ c.requires)) c.in_ok-step.ensures

pub returns-clause-grows : goal.returns-clause-grows
returns-clause-grows c =
    let g = run_grows c.self.inside.nodes c.self.inside.cluster c.step.new.self c.args.step.now (c.self.invariant.1 (ap (λ (w : OpenCluster). w.is_spent) c.self.view_is ∙ c.requires)) c.in_ok-step.ensures in
    Rattle.std.proofs.Common.subst (λ (w : OpenCluster). Rattle.raft_world.specs.Between.GrowsAtEnd w.cluster.committed c.step.new.self.committed) c.self.view_is g

pub returns-clause-have_origin : goal.returns-clause-have_origin
returns-clause-have_origin c = agreeing.have_origin c.self.inside.nodes c.step.new.self (run_after c.self.inside.nodes c.self.inside.cluster c.step.new.self c.args.step.now (c.self.invariant.1 (ap (λ (w : OpenCluster). w.is_spent) c.self.view_is ∙ c.requires)) c.in_ok-step.ensures)

pub returns-clause-one_leads : goal.returns-clause-one_leads
returns-clause-one_leads c = agreeing.one_leads c.self.inside.nodes c.step.new.self c.self.invariant.0 (run_after c.self.inside.nodes c.self.inside.cluster c.step.new.self c.args.step.now (c.self.invariant.1 (ap (λ (w : OpenCluster). w.is_spent) c.self.view_is ∙ c.requires)) c.in_ok-step.ensures)

pub returns-clause-led_once : goal.returns-clause-led_once
returns-clause-led_once c = agreeing.led_once c.self.inside.nodes c.step.new.self c.self.invariant.0 (run_after c.self.inside.nodes c.self.inside.cluster c.step.new.self c.args.step.now (c.self.invariant.1 (ap (λ (w : OpenCluster). w.is_spent) c.self.view_is ∙ c.requires)) c.in_ok-step.ensures)

pub returns-clause-logs_match : goal.returns-clause-logs_match
returns-clause-logs_match c = agreeing.logs_match c.self.inside.nodes c.step.new.self c.self.invariant.0 (run_after c.self.inside.nodes c.self.inside.cluster c.step.new.self c.args.step.now (c.self.invariant.1 (ap (λ (w : OpenCluster). w.is_spent) c.self.view_is ∙ c.requires)) c.in_ok-step.ensures)

pub returns-clause-leaders_hold : goal.returns-clause-leaders_hold
returns-clause-leaders_hold c = agreeing.leaders_hold c.self.inside.nodes c.step.new.self c.self.invariant.0 (run_after c.self.inside.nodes c.self.inside.cluster c.step.new.self c.args.step.now (c.self.invariant.1 (ap (λ (w : OpenCluster). w.is_spent) c.self.view_is ∙ c.requires)) c.in_ok-step.ensures)

pub returns-clause-logs_begin : goal.returns-clause-logs_begin
returns-clause-logs_begin c = agreeing.logs_begin c.self.inside.nodes c.step.new.self c.self.invariant.0 (run_after c.self.inside.nodes c.self.inside.cluster c.step.new.self c.args.step.now (c.self.invariant.1 (ap (λ (w : OpenCluster). w.is_spent) c.self.view_is ∙ c.requires)) c.in_ok-step.ensures)

pub returns-clause-times_rise : goal.returns-clause-times_rise
returns-clause-times_rise c = agreeing.times_rise c.self.inside.nodes c.step.new.self c.self.invariant.0 (run_after c.self.inside.nodes c.self.inside.cluster c.step.new.self c.args.step.now (c.self.invariant.1 (ap (λ (w : OpenCluster). w.is_spent) c.self.view_is ∙ c.requires)) c.in_ok-step.ensures)

pub returns-clause-majority_keeps : goal.returns-clause-majority_keeps
returns-clause-majority_keeps c = agreeing.majority_keeps c.self.inside.nodes c.step.new.self c.self.invariant.0 (run_after c.self.inside.nodes c.self.inside.cluster c.step.new.self c.args.step.now (c.self.invariant.1 (ap (λ (w : OpenCluster). w.is_spent) c.self.view_is ∙ c.requires)) c.in_ok-step.ensures)

pub returns-clause-newest_begins : goal.returns-clause-newest_begins
returns-clause-newest_begins c = agreeing.newest_begins c.self.inside.nodes c.step.new.self c.self.invariant.0 (run_after c.self.inside.nodes c.self.inside.cluster c.step.new.self c.args.step.now (c.self.invariant.1 (ap (λ (w : OpenCluster). w.is_spent) c.self.view_is ∙ c.requires)) c.in_ok-step.ensures)

pub returns-clause-reads_are_fresh : goal.returns-clause-reads_are_fresh
returns-clause-reads_are_fresh c = agreeing.reads_are_fresh c.self.inside.nodes c.step.new.self c.self.invariant.0 (run_after c.self.inside.nodes c.self.inside.cluster c.step.new.self c.args.step.now (c.self.invariant.1 (ap (λ (w : OpenCluster). w.is_spent) c.self.view_is ∙ c.requires)) c.in_ok-step.ensures)

pub returns-clause-reads_differ : goal.returns-clause-reads_differ
returns-clause-reads_differ c = agreeing.reads_differ c.self.inside.nodes c.step.new.self c.self.invariant.0 (run_after c.self.inside.nodes c.self.inside.cluster c.step.new.self c.args.step.now (c.self.invariant.1 (ap (λ (w : OpenCluster). w.is_spent) c.self.view_is ∙ c.requires)) c.in_ok-step.ensures)

pub returns-clause-reads_are_numbered : goal.returns-clause-reads_are_numbered
returns-clause-reads_are_numbered c = agreeing.reads_are_numbered c.self.inside.nodes c.step.new.self c.self.invariant.0 (run_after c.self.inside.nodes c.self.inside.cluster c.step.new.self c.args.step.now (c.self.invariant.1 (ap (λ (w : OpenCluster). w.is_spent) c.self.view_is ∙ c.requires)) c.in_ok-step.ensures)
