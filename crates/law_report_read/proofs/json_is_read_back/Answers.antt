use Rattle.law_report_read.proofs.Texts as texts
use Rattle.law_report_read.proofs.json_is_read_back.Goals as goal

pub returns : goal.returns
returns c = texts.json_is_read_back
