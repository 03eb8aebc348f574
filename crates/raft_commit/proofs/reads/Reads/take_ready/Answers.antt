use Rattle.std.proofs.Common.{rules, ap, ◌∙◌}
use Rattle.std.specs.Prelude.{not, filter}
use Rattle.std.proofs.lemmas.Fn.{filter_same}
use Rattle.spec_raft.specs.Progress.{is_read_ready}
use Rattle.raft_commit.proofs.reads.Reads.take_ready.Goals as goal

pub returns-clause-ok : goal.returns-clause-ok
returns-clause-ok c =
    filter_same _ (λ w. not (is_read_ready c.args.round c.args.commit w)) _ (λ x b f' k. search rules) _ _ c.retain.ensures.filtered
    ∙ ap (λ ws. filter (λ w. not (is_read_ready c.args.round c.args.commit w)) ws) c.self.view_is
