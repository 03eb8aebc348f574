use Rattle.law_answers.proofs.entries_answer_truly.Goals as goal
use Rattle.law_answers.proofs.Entries.{entries_answer_truly}

pub returns : goal.returns
returns c = entries_answer_truly
