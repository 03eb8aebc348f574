-- What the reader of reports answers, and the sizes of events in words.
use Rattle.std.specs.Prelude.{ℕ, ◌≡◌, ⊤, List, [], ◌∷◌, Option, None, Result, Ok, Err}
use Rattle.spec_text.specs.Words as text_words
use Rattle.spec_report_read.specs.ReplyWords as reply_words
use Rattle.spec_report_read.specs.ItemWords as item_words
use Rattle.ax_types.specs.declared.ids.End.{End}
use Rattle.ax_types.specs.declared.packets.PayloadKind.{PayloadKind}
use Rattle.ax_types.specs.declared.refusals.ReportRefused.{ReportRefused}
use Rattle.ax_types.specs.declared.refusals.ReportRefused.TheVariants as refused
use Rattle.ax_types.specs.declared.scripts.Report.{Report}
use Rattle.ax_types.specs.declared.statuses.ReportWhy.{ReportWhy}

-- the report, or the first reason why the bytes are none; want of memory says nothing
abbrev pub ReadsReport : Result Report ReportWhy → Result Report ReportRefused → Type 0
ReadsReport meant (Ok read) = meant ≡ Ok read
ReadsReport meant (Err (refused.NotReport why)) = meant ≡ Err why
ReadsReport meant (Err refused.NoMemory) = ⊤

-- how many words the event has that begins these
abbrev pub first_size : List text_words.Word → ℕ
first_size [] = 0
first_size (w ∷ ws) = reply_words.event_size w

-- the ends of a packet's way, and its kind, of three words
abbrev pub packet_sent_from : List text_words.Word → Option (End × End × PayloadKind)
packet_sent_from (f ∷ t ∷ k ∷ []) = item_words.sent_packet_from f t k
packet_sent_from _ = None
