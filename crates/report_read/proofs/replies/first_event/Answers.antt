use Rattle.std.proofs.Common.{◌≡◌, ℕ, List, IfOk, Option, take, ap, ◌∙◌, subst}
use Rattle.std.specs.Borrow.{Bor}
use Rattle.ax_types.specs.declared.replies.Event.{Event}
use Rattle.spec_text.specs.Words as text_words
use Rattle.spec_report_read.specs.ReplyWords as reply_words
use Rattle.text_words.specs.Behind as behind
use Rattle.report_read.proofs.Cuts.{first-event}
use Rattle.report_read.proofs.replies.first_event.Goals as goal

pub returns : goal.returns
returns c =
    let words : List (Bor text_words.Word) = c.args.words.now in
    let same : reply_words.event_from (behind.words_behind c.front.result.now) ≡ reply_words.first_event_from (behind.words_behind words) =
    ap (λ (us : List (Bor text_words.Word)). reply_words.event_from (behind.words_behind us)) (c.front.ensures ∙ ap (λ n. take n words) c.first_size.ensures) ∙ first-event words in
    subst (λ (e : Option Event). IfOk c.event.result (λ read. read ≡ e)) same c.event.ensures
