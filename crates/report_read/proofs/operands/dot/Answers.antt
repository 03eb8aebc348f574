use Rattle.std.proofs.Common.{rules, tests}
use Rattle.std.proofs.lemmas.Iterator.{YieldsList-from_slice}
use Rattle.std.proofs.lemmas.Iterator.Search.{position_from_yields_List}
use Rattle.report_read.proofs.Dots.{is_dot}
use Rattle.report_read.proofs.operands.dot.Goals as goal

pub returns : goal.returns
returns c = position_from_yields_List is_dot _ _ c.position.result c.position.ensures.ran (YieldsList-from_slice c.args.word.now cc) (λ x b q k. search (rules, tests))
