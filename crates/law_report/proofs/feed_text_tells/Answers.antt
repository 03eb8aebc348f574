use Rattle.law_report.proofs.Extras.{feed_text_tells}
use Rattle.law_report.proofs.feed_text_tells.Goals as goal

pub returns : goal.returns
returns c = feed_text_tells
