-- Numbers ascend after the answer.
use Rattle.std.proofs.Common.{◌≡◌, List, map, sym, subst, arith, slice_set}
use Rattle.spec_sequencer.specs.Sequencers as sequencers
use Rattle.cli_sequencer.specs.Numbers as numbers
use Rattle.cli_sequencer.proofs.Found.{answers_found, AreAscending_answers}
use Rattle.cli_sequencer.proofs.unanswered.answer_at.Goals as goal

pub returns-in-Some-clause-ascending : goal.returns-in-Some-clause-ascending
returns-in-Some-clause-ascending c =
    let items : slice_set c.args.calls.now.items c.in-Some.index c.answer.new.self ≡ map (sequencers.get_answer c.args.number c.args.got) c.args.calls.now.items =
    grind (arith, answers_found) in
    subst (λ (us : List sequencers.Unanswered). numbers.AreAscending us) (sym items) (AreAscending_answers c.args.number c.args.got c.args.calls.now.items c.requires)
