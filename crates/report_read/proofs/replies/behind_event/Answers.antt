use Rattle.std.proofs.Common.{◌≡◌, ℕ, List, drop, ap, ◌∙◌}
use Rattle.std.specs.Borrow.{Bor}
use Rattle.spec_text.specs.Words as text_words
use Rattle.text_words.specs.Behind as behind
use Rattle.report_read.proofs.Cuts.{behind-first}
use Rattle.report_read.proofs.replies.behind_event.Goals as goal

pub returns : goal.returns
returns c =
    let words : List (Bor text_words.Word) = c.args.words.now in
    ap behind.words_behind (c.behind_front.ensures ∙ ap (λ n. drop n words) c.first_size.ensures) ∙ behind-first words
