-- An item is read back from the words of its line.
use Rattle.std.proofs.Common.{◌≡◌, ℕ, cond, List, [], ◌∷◌, drop, length, codes, refl}
use Rattle.std.specs.Fmt.{decimal}
use Rattle.ax_types.specs.Ends as ends
use Rattle.ax_types.specs.declared.items.Item.{Item}
use Rattle.ax_types.specs.declared.items.Item.TheVariants as item
use Rattle.spec_report.specs.CallLines as call_lines
use Rattle.spec_report.specs.Replies as replies
use Rattle.spec_report.specs.Items as items
use Rattle.spec_report.specs.ReportValues as report_values
use Rattle.law_report.proofs.Words.{IsLine, word, join, at, is_word}
use Rattle.law_report.proofs.Numbers.{number_back, number-back, number_line}
use Rattle.law_report.proofs.Replies.{reply_words, reply_back, reply-line, reply-back, event_words, event_back, event-line, event-alone, events_words, events_back, events-line, events-back, events-length, how_back, how-line, how-back}
use Rattle.law_report.proofs.Parts.{level_back, level-line, level-back, watch_back, watch-line, watch-back, payload_kind_back, payload_kind-line, payload_kind-back, skip_words, skip_back, skip-line, skip-back, call_words, call_back, call-line, call-back, link_end_back, link_end-line, link_end-back, arrival-line, term_back, term-back, arrival_back, arrival-back, reach_back, reach-line, reach-back}

abbrev pub item_words : Item → List (List ℕ)
item_words (item.Leader node term) = codes "leader" ∷ decimal node ∷ decimal term ∷ []
item_words (item.Commit place) = codes "commit" ∷ decimal place ∷ []
item_words (item.Reach node term arrival session number) = codes "reach" ∷ decimal node ∷ items.arrival_text term arrival ∷ decimal session ∷ decimal number ∷ []
item_words (item.Halted node) = codes "halted" ∷ decimal node ∷ []
item_words (item.Opened session client) = codes "opened" ∷ decimal session ∷ decimal client ∷ []
item_words (item.Called session number call) = codes "called" ∷ decimal session ∷ decimal number ∷ call_words call
item_words (item.Event session place prev events) = codes "event" ∷ decimal session ∷ decimal place ∷ decimal prev ∷ decimal (length events) ∷ events_words events
item_words (item.Watched client kind session place event) = codes "watch" ∷ decimal client ∷ items.watch_text kind ∷ decimal session ∷ decimal place ∷ event_words event
item_words (item.Reply session number place reply) = codes "reply" ∷ decimal session ∷ decimal number ∷ decimal place ∷ reply_words reply
item_words (item.Read session number level place reach reply) = codes "read" ∷ decimal session ∷ decimal number ∷ call_lines.level_text level ∷ decimal place ∷ items.reach_text reach ∷ reply_words reply
item_words (item.Ended session place how) = codes "ended" ∷ decimal session ∷ decimal place ∷ replies.how_text how ∷ []
item_words (item.Doubt session number) = codes "doubt" ∷ decimal session ∷ decimal number ∷ []
item_words (item.Lost session number) = codes "lost" ∷ decimal session ∷ decimal number ∷ []
item_words (item.Unsent session number) = codes "unsent" ∷ decimal session ∷ decimal number ∷ []
item_words (item.Unanswered session number) = codes "unanswered" ∷ decimal session ∷ decimal number ∷ []
item_words (item.Listed count) = codes "listed" ∷ decimal count ∷ []
item_words (item.Pending number from to kind) = codes "pending" ∷ decimal number ∷ ends.link_end_text from ∷ ends.link_end_text to ∷ items.payload_kind_text kind ∷ []
item_words (item.Skip reason) = codes "skip" ∷ skip_words reason

abbrev pub item_back : List (List ℕ) → Item
item_back ws =
    cond (is_word (at 0 ws) (codes "leader")) (item.Leader (number_back (at 1 ws)) (number_back (at 2 ws))) (
    cond (is_word (at 0 ws) (codes "commit")) (item.Commit (number_back (at 1 ws))) (
    cond (is_word (at 0 ws) (codes "reach")) (item.Reach (number_back (at 1 ws)) (term_back (at 2 ws)) (arrival_back (at 2 ws)) (number_back (at 3 ws)) (number_back (at 4 ws))) (
    cond (is_word (at 0 ws) (codes "halted")) (item.Halted (number_back (at 1 ws))) (
    cond (is_word (at 0 ws) (codes "opened")) (item.Opened (number_back (at 1 ws)) (number_back (at 2 ws))) (
    cond (is_word (at 0 ws) (codes "called")) (item.Called (number_back (at 1 ws)) (number_back (at 2 ws)) (call_back (drop 3 ws))) (
    cond (is_word (at 0 ws) (codes "event")) (item.Event (number_back (at 1 ws)) (number_back (at 2 ws)) (number_back (at 3 ws)) (events_back (length (drop 5 ws)) (drop 5 ws))) (
    cond (is_word (at 0 ws) (codes "watch")) (item.Watched (number_back (at 1 ws)) (watch_back (at 2 ws)) (number_back (at 3 ws)) (number_back (at 4 ws)) (event_back (drop 5 ws))) (
    cond (is_word (at 0 ws) (codes "reply")) (item.Reply (number_back (at 1 ws)) (number_back (at 2 ws)) (number_back (at 3 ws)) (reply_back (drop 4 ws))) (
    cond (is_word (at 0 ws) (codes "read")) (item.Read (number_back (at 1 ws)) (number_back (at 2 ws)) (level_back (at 3 ws)) (number_back (at 4 ws)) (reach_back (at 5 ws)) (reply_back (drop 6 ws))) (
    cond (is_word (at 0 ws) (codes "ended")) (item.Ended (number_back (at 1 ws)) (number_back (at 2 ws)) (how_back (at 3 ws))) (
    cond (is_word (at 0 ws) (codes "doubt")) (item.Doubt (number_back (at 1 ws)) (number_back (at 2 ws))) (
    cond (is_word (at 0 ws) (codes "lost")) (item.Lost (number_back (at 1 ws)) (number_back (at 2 ws))) (
    cond (is_word (at 0 ws) (codes "unsent")) (item.Unsent (number_back (at 1 ws)) (number_back (at 2 ws))) (
    cond (is_word (at 0 ws) (codes "unanswered")) (item.Unanswered (number_back (at 1 ws)) (number_back (at 2 ws))) (
    cond (is_word (at 0 ws) (codes "listed")) (item.Listed (number_back (at 1 ws))) (
    cond (is_word (at 0 ws) (codes "pending")) (item.Pending (number_back (at 1 ws)) (link_end_back (at 2 ws)) (link_end_back (at 3 ws)) (payload_kind_back (at 4 ws))) (
    (item.Skip (skip_back (drop 1 ws))))))))))))))))))))

pub item-line : (o : Item) → report_values.FitsItem o → IsLine (items.item_line o) (item_words o)
item-line (item.Leader node term) h = join (word (codes "leader") refl) (join (number_line node) (number_line term))
item-line (item.Commit place) h = join (word (codes "commit") refl) (number_line place)
item-line (item.Reach node term arrival session number) h = join (join (word (codes "reach") refl) (join (number_line node) (arrival-line term arrival))) (join (number_line session) (number_line number))
item-line (item.Halted node) h = join (word (codes "halted") refl) (number_line node)
item-line (item.Opened session client) h = join (word (codes "opened") refl) (join (number_line session) (number_line client))
item-line (item.Called session number call) h = join (join (word (codes "called") refl) (join (number_line session) (number_line number))) (call-line call h.2)
item-line (item.Event session place prev events) h = join (join (word (codes "event") refl) (join (number_line session) (number_line place))) (join (number_line prev) (events-line (decimal (length events)) (decimal (length events) ∷ []) (number_line (length events)) events h.3))
item-line (item.Watched client kind session place event) h = join (join (word (codes "watch") refl) (join (number_line client) (watch-line kind))) (join (number_line session) (join (number_line place) (event-line event h.3)))
item-line (item.Reply session number place reply) h = join (join (word (codes "reply") refl) (join (number_line session) (number_line number))) (join (number_line place) (reply-line reply h.3))
item-line (item.Read session number level place reach reply) h = join (join (join (word (codes "read") refl) (join (number_line session) (number_line number))) (join (level-line level) (number_line place))) (join (reach-line reach) (reply-line reply h.4))
item-line (item.Ended session place how) h = join (join (word (codes "ended") refl) (join (number_line session) (number_line place))) (how-line how)
item-line (item.Doubt session number) h = join (word (codes "doubt") refl) (join (number_line session) (number_line number))
item-line (item.Lost session number) h = join (word (codes "lost") refl) (join (number_line session) (number_line number))
item-line (item.Unsent session number) h = join (word (codes "unsent") refl) (join (number_line session) (number_line number))
item-line (item.Unanswered session number) h = join (word (codes "unanswered") refl) (join (number_line session) (number_line number))
item-line (item.Listed count) h = join (word (codes "listed") refl) (number_line count)
item-line (item.Pending number from to kind) h = join (join (word (codes "pending") refl) (join (number_line number) (link_end-line from))) (join (link_end-line to) (payload_kind-line kind))
item-line (item.Skip reason) h = join (word (codes "skip") refl) (skip-line reason h)

pub item-back : (o : Item) → report_values.FitsItem o → item_back (item_words o) ≡ o
item-back (item.Leader node term) h = λ i. item.Leader (number-back node h.0 i) (number-back term h.1 i)
item-back (item.Commit place) h = λ i. item.Commit (number-back place h i)
item-back (item.Reach node term arrival session number) h = λ i. item.Reach (number-back node h.0 i) (term-back term arrival h.1 i) (arrival-back term arrival h.2 i) (number-back session h.3 i) (number-back number h.4 i)
item-back (item.Halted node) h = λ i. item.Halted (number-back node h i)
item-back (item.Opened session client) h = λ i. item.Opened (number-back session h.0 i) (number-back client h.1 i)
item-back (item.Called session number call) h = λ i. item.Called (number-back session h.0 i) (number-back number h.1 i) (call-back call h.2 i)
item-back (item.Event session place prev events) h = λ i. item.Event (number-back session h.0 i) (number-back place h.1 i) (number-back prev h.2 i) (events-back events (length (events_words events)) (events-length events) h.3 i)
item-back (item.Watched client kind session place event) h = λ i. item.Watched (number-back client h.0 i) (watch-back kind i) (number-back session h.1 i) (number-back place h.2 i) (event-alone event h.3 i)
item-back (item.Reply session number place reply) h = λ i. item.Reply (number-back session h.0 i) (number-back number h.1 i) (number-back place h.2 i) (reply-back reply h.3 i)
item-back (item.Read session number level place reach reply) h = λ i. item.Read (number-back session h.0 i) (number-back number h.1 i) (level-back level i) (number-back place h.2 i) (reach-back reach h.3 i) (reply-back reply h.4 i)
item-back (item.Ended session place how) h = λ i. item.Ended (number-back session h.0 i) (number-back place h.1 i) (how-back how i)
item-back (item.Doubt session number) h = λ i. item.Doubt (number-back session h.0 i) (number-back number h.1 i)
item-back (item.Lost session number) h = λ i. item.Lost (number-back session h.0 i) (number-back number h.1 i)
item-back (item.Unsent session number) h = λ i. item.Unsent (number-back session h.0 i) (number-back number h.1 i)
item-back (item.Unanswered session number) h = λ i. item.Unanswered (number-back session h.0 i) (number-back number h.1 i)
item-back (item.Listed count) h = λ i. item.Listed (number-back count h i)
item-back (item.Pending number from to kind) h = λ i. item.Pending (number-back number h.0 i) (link_end-back from h.1 i) (link_end-back to h.2 i) (payload_kind-back kind i)
item-back (item.Skip reason) h = λ i. item.Skip (skip-back reason h i)
