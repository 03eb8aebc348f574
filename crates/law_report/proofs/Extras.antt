-- The lines of callers and feeds are read back from their words.
use Rattle.std.proofs.Common.{◌≡◌, ℕ, true, cond, List, [], ◌∷◌, drop, codes, refl, ap}
use Rattle.std.proofs.lemmas.List.{append_cancel_right}
use Rattle.std.specs.Fmt.{decimal}
use Rattle.ax_types.specs.declared.replies.Outcome.{Outcome}
use Rattle.ax_types.specs.declared.replies.Outcome.TheVariants as outcome
use Rattle.ax_types.specs.declared.replies.Event.{Event}
use Rattle.ax_types.specs.declared.steps.WatchKind.{WatchKind}
use Rattle.spec_report.specs.CallLines as call_lines
use Rattle.spec_report.specs.Items as items
use Rattle.spec_report.specs.Report as reports
use Rattle.std.specs.List.{AllByRecursion}
use Rattle.spec_wire.specs.Ranges as ranges
use Rattle.spec_report.specs.ReportValues as report_values
use Rattle.law_report.specs.ReportsDiffer as reports_differ
use Rattle.law_report.proofs.Words.{IsLine, word, join, at, is_word, above}
use Rattle.law_report.proofs.Numbers.{number_back, number-back, number_line}
use Rattle.law_report.proofs.Replies.{reply_words, reply_back, reply-line, reply-back, event_words, event_back, event-line, event-alone}
use Rattle.law_report.proofs.Parts.{level_back, level-line, level-back, reach_back, reach-line, reach-back, watch_back, watch-line, watch-back}
use Rattle.law_report.proofs.Lines.{AreLines, one_value}
use Rattle.law_report.proofs.Report.{is_past_digits}

abbrev pub outcome_words : Outcome → List (List ℕ)
outcome_words (outcome.Reply place reply) = codes "reply" ∷ decimal place ∷ reply_words reply
outcome_words (outcome.Read level place reach reply) = codes "read" ∷ call_lines.level_text level ∷ decimal place ∷ items.reach_text reach ∷ reply_words reply
outcome_words outcome.Doubt = codes "doubt" ∷ []
outcome_words outcome.Lost = codes "lost" ∷ []
outcome_words outcome.Unsent = codes "unsent" ∷ []
outcome_words outcome.Unanswered = codes "unanswered" ∷ []
outcome_words outcome.Stopped = []

pub outcome-line : (o : Outcome) → report_values.FitsOutcome o → IsLine (reports.outcome_text o) (outcome_words o)
outcome-line (outcome.Reply place reply) h = join (word (codes "reply") refl) (join (number_line place) (reply-line reply h.1))
outcome-line (outcome.Read level place reach reply) h =
    join (join (word (codes "read") refl) (join (level-line level) (number_line place))) (join (reach-line reach) (reply-line reply h.2))
outcome-line outcome.Doubt h = word (codes "doubt") refl
outcome-line outcome.Lost h = word (codes "lost") refl
outcome-line outcome.Unsent h = word (codes "unsent") refl
outcome-line outcome.Unanswered h = word (codes "unanswered") refl
outcome-line outcome.Stopped h = absurd h

pub caller-line : (caller number : ℕ) (o : Outcome) → report_values.FitsOutcome o
    → IsLine (reports.caller_line caller number o) (codes "caller" ∷ decimal caller ∷ decimal number ∷ outcome_words o)
caller-line caller number o h = join (word (codes "caller") refl) (join (number_line caller) (join (number_line number) (outcome-line o h)))

pub feed-line : (feed client : ℕ) (kind : WatchKind) (session place : ℕ) (e : Event) → ranges.FitsEvent e
    → IsLine (reports.feed_line feed client kind session place e)
    (codes "feed" ∷ decimal feed ∷ decimal client ∷ items.watch_text kind ∷ decimal session ∷ decimal place ∷ event_words e)
feed-line feed client kind session place e h =
    join (join (word (codes "feed") refl) (join (number_line feed) (join (number_line client) (watch-line kind))))
    (join (number_line session) (join (number_line place) (event-line e h)))

extra_is_line : (l : List ℕ) → reports_differ.IsExtraLine l → above 31 l ≡ true
extra_is_line _ (reports_differ.of_caller caller number o h) = (caller-line caller number o h).bytes
extra_is_line _ (reports_differ.of_feed feed client kind session place e h) = (feed-line feed client kind session place e h).bytes

extra_is_past_digits : (l : List ℕ) → reports_differ.IsExtraLine l → is_past_digits l ≡ true
extra_is_past_digits _ (reports_differ.of_caller caller number o h) = refl
extra_is_past_digits _ (reports_differ.of_feed feed client kind session place e h) = refl

pub extras_are_lines : (ls : List (List ℕ)) → AllByRecursion reports_differ.IsExtraLine ls → AreLines ls
extras_are_lines [] h = tt
extras_are_lines (l ∷ ls) h = (extra_is_line l h.0, extras_are_lines ls h.1)

pub extras_are_past_digits : (ls : List (List ℕ)) → AllByRecursion reports_differ.IsExtraLine ls → AllByRecursion (λ l. is_past_digits l ≡ true) ls
extras_are_past_digits [] h = tt
extras_are_past_digits (l ∷ ls) h = (extra_is_past_digits l h.0, extras_are_past_digits ls h.1)

-- ---- what a line tells

abbrev outcome_back : List (List ℕ) → Outcome
outcome_back ws =
    cond (is_word (at 0 ws) (codes "reply")) (outcome.Reply (number_back (at 1 ws)) (reply_back (drop 2 ws))) (
    cond (is_word (at 0 ws) (codes "read")) (outcome.Read (level_back (at 1 ws)) (number_back (at 2 ws)) (reach_back (at 3 ws)) (reply_back (drop 4 ws))) (
    cond (is_word (at 0 ws) (codes "doubt")) outcome.Doubt (
    cond (is_word (at 0 ws) (codes "lost")) outcome.Lost (
    cond (is_word (at 0 ws) (codes "unsent")) outcome.Unsent outcome.Unanswered))))

outcome-back : (o : Outcome) → report_values.FitsOutcome o → outcome_back (outcome_words o) ≡ o
outcome-back (outcome.Reply place reply) h = λ i. outcome.Reply (number-back place h.0 i) (reply-back reply h.1 i)
outcome-back (outcome.Read level place reach reply) h =
    λ i. outcome.Read (level-back level i) (number-back place h.0 i) (reach-back reach h.1 i) (reply-back reply h.2 i)
outcome-back outcome.Doubt h = refl
outcome-back outcome.Lost h = refl
outcome-back outcome.Unsent h = refl
outcome-back outcome.Unanswered h = refl
outcome-back outcome.Stopped h = absurd h

-- a caller's line as one value
record Told : Type 0 where
  caller : ℕ
  number : ℕ
  outcome : Outcome

abbrev told_back : List (List ℕ) → Told
told_back ws = record { caller = number_back (at 1 ws); number = number_back (at 2 ws); outcome = outcome_back (drop 3 ws) }

told-back : (i n : ℕ) (o : Outcome) → ranges.IsNumber i → ranges.IsNumber n → report_values.FitsOutcome o
    → told_back (codes "caller" ∷ decimal i ∷ decimal n ∷ outcome_words o) ≡ record { caller = i; number = n; outcome = o }
told-back i n o a b c = λ k. record { caller = number-back i a k; number = number-back n b k; outcome = outcome-back o c k }

pub caller_text_tells : reports_differ.CallerTextTells
caller_text_tells i n o j m p a b c d f g e =
    let one : Told = record { caller = i; number = n; outcome = o } in
    let other : Told = record { caller = j; number = m; outcome = p } in
    let same : one ≡ other =
    one_value told_back one other (caller-line i n o c) (caller-line j m p g) (told-back i n o a b c) (told-back j m p d f g)
    (append_cancel_right (reports.caller_line i n o) (reports.caller_line j m p) (10 ∷ []) e) in
    (ap (λ (t : Told). t.caller) same, ap (λ (t : Told). t.number) same, ap (λ (t : Told). t.outcome) same)

abbrev heard_back : List (List ℕ) → reports_differ.FeedLine
heard_back ws = record {
  feed = number_back (at 1 ws);
  client = number_back (at 2 ws);
  kind = watch_back (at 3 ws);
  session = number_back (at 4 ws);
  place = number_back (at 5 ws);
  event = event_back (drop 6 ws);
}

abbrev heard_words : reports_differ.FeedLine → List (List ℕ)
heard_words h = codes "feed" ∷ decimal h.feed ∷ decimal h.client ∷ items.watch_text h.kind ∷ decimal h.session ∷ decimal h.place ∷ event_words h.event

heard-back : (h : reports_differ.FeedLine) → reports_differ.IsFeedLine h → heard_back (heard_words h) ≡ h
heard-back h k = λ i. record {
  feed = number-back h.feed k.feed i;
  client = number-back h.client k.client i;
  kind = watch-back h.kind i;
  session = number-back h.session k.session i;
  place = number-back h.place k.place i;
  event = event-alone h.event k.event i;
}

heard-line : (h : reports_differ.FeedLine) → reports_differ.IsFeedLine h → IsLine (reports.feed_line h.feed h.client h.kind h.session h.place h.event) (heard_words h)
heard-line h k = feed-line h.feed h.client h.kind h.session h.place h.event k.event

pub feed_text_tells : reports_differ.FeedTextTells
feed_text_tells one other h k e =
    one_value heard_back one other (heard-line one h) (heard-line other k) (heard-back one h) (heard-back other k)
    (append_cancel_right (reports.feed_line one.feed one.client one.kind one.session one.place one.event)
    (reports.feed_line other.feed other.client other.kind other.session other.place other.event) (10 ∷ []) e)
