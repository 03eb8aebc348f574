-- Replies and events are read back from their words.
use Rattle.std.proofs.Common.{◌≡◌, ℕ, suc, zero, ◌≤◌, cond, List, [], ◌∷◌, ◌++◌, map, drop, length, codes, refl, sym, ap, ◌∙◌, subst, append-nil, length-append, arith}
use Rattle.std.specs.Fmt.{decimal, signed_decimal}
use Rattle.ax_types.specs.declared.replies.Reply.{Reply}
use Rattle.ax_types.specs.declared.replies.Reply.TheVariants as reply
use Rattle.ax_types.specs.declared.replies.Event.{Event}
use Rattle.ax_types.specs.declared.replies.Event.TheVariants as event
use Rattle.ax_types.specs.declared.replies.How.{How}
use Rattle.ax_types.specs.declared.replies.How.TheVariants as how
use Rattle.spec_report.specs.Replies as replies
use Rattle.std.specs.List.{AllByRecursion}
use Rattle.spec_wire.specs.Ranges as ranges
use Rattle.law_report.proofs.Words.{IsLine, word, join, at, is_word}
use Rattle.law_report.proofs.Numbers.{number_back, number-back, integer_back, integer-back, number_line, integer_line, name_line, text_line}

-- numbers behind a line, each after a blank
numbers-line : (t : List ℕ) (ws : List (List ℕ)) → IsLine t ws → (ns : List ℕ) → IsLine (t ++ replies.numbers_text ns) (ws ++ map decimal ns)
numbers-line t ws h [] = subst (λ s. IsLine s (ws ++ [])) (sym (append-nil t)) (subst (IsLine t) (sym (append-nil ws)) h)
numbers-line t ws h (n ∷ ns) = join h (numbers-line (decimal n) (decimal n ∷ []) (number_line n) ns)

numbers-back : (ns : List ℕ) → AllByRecursion ranges.IsNumber ns → map number_back (map decimal ns) ≡ ns
numbers-back [] h = refl
numbers-back (n ∷ ns) h = λ i. number-back n h.0 i ∷ numbers-back ns h.1 i

abbrev pub reply_words : Reply → List (List ℕ)
reply_words reply.Done = codes "done" ∷ []
reply_words reply.Nothing = codes "none" ∷ []
reply_words (reply.Found text) = codes "some" ∷ text ∷ []
reply_words reply.Yes = codes "true" ∷ []
reply_words reply.No = codes "false" ∷ []
reply_words (reply.Number number) = codes "number" ∷ signed_decimal number ∷ []
reply_words (reply.Fence place) = codes "fence" ∷ decimal place ∷ []
reply_words (reply.Holder session fence) = codes "holder" ∷ decimal session ∷ decimal fence ∷ []
reply_words (reply.Leader session term) = codes "leader" ∷ decimal session ∷ decimal term ∷ []
reply_words (reply.Members sessions) = codes "members" ∷ map decimal sessions
reply_words reply.Busy = codes "busy" ∷ []
reply_words reply.Already = codes "already" ∷ []
reply_words reply.NotHolder = codes "not-holder" ∷ []
reply_words reply.NotMember = codes "not-member" ∷ []
reply_words reply.Overflow = codes "overflow" ∷ []
reply_words reply.Full = codes "full" ∷ []
reply_words reply.WrongKind = codes "wrong-kind" ∷ []

abbrev pub reply_back : List (List ℕ) → Reply
reply_back ws =
    cond (is_word (at 0 ws) (codes "done")) reply.Done (
    cond (is_word (at 0 ws) (codes "none")) reply.Nothing (
    cond (is_word (at 0 ws) (codes "some")) (reply.Found (at 1 ws)) (
    cond (is_word (at 0 ws) (codes "true")) reply.Yes (
    cond (is_word (at 0 ws) (codes "false")) reply.No (
    cond (is_word (at 0 ws) (codes "number")) (reply.Number (integer_back (at 1 ws))) (
    cond (is_word (at 0 ws) (codes "fence")) (reply.Fence (number_back (at 1 ws))) (
    cond (is_word (at 0 ws) (codes "holder")) (reply.Holder (number_back (at 1 ws)) (number_back (at 2 ws))) (
    cond (is_word (at 0 ws) (codes "leader")) (reply.Leader (number_back (at 1 ws)) (number_back (at 2 ws))) (
    cond (is_word (at 0 ws) (codes "members")) (reply.Members (map number_back (drop 1 ws))) (
    cond (is_word (at 0 ws) (codes "busy")) reply.Busy (
    cond (is_word (at 0 ws) (codes "already")) reply.Already (
    cond (is_word (at 0 ws) (codes "not-holder")) reply.NotHolder (
    cond (is_word (at 0 ws) (codes "not-member")) reply.NotMember (
    cond (is_word (at 0 ws) (codes "overflow")) reply.Overflow (
    cond (is_word (at 0 ws) (codes "full")) reply.Full (
    reply.WrongKind))))))))))))))))

pub reply-line : (o : Reply) → ranges.FitsReply o → IsLine (replies.reply_text o) (reply_words o)
reply-line reply.Done h = word (codes "done") refl
reply-line reply.Nothing h = word (codes "none") refl
reply-line (reply.Found text) h = join (word (codes "some") refl) (text_line text h)
reply-line reply.Yes h = word (codes "true") refl
reply-line reply.No h = word (codes "false") refl
reply-line (reply.Number number) h = join (word (codes "number") refl) (integer_line number)
reply-line (reply.Fence place) h = join (word (codes "fence") refl) (number_line place)
reply-line (reply.Holder session fence) h = join (word (codes "holder") refl) (join (number_line session) (number_line fence))
reply-line (reply.Leader session term) h = join (word (codes "leader") refl) (join (number_line session) (number_line term))
reply-line (reply.Members sessions) h = numbers-line (codes "members") (codes "members" ∷ []) (word (codes "members") refl) sessions
reply-line reply.Busy h = word (codes "busy") refl
reply-line reply.Already h = word (codes "already") refl
reply-line reply.NotHolder h = word (codes "not-holder") refl
reply-line reply.NotMember h = word (codes "not-member") refl
reply-line reply.Overflow h = word (codes "overflow") refl
reply-line reply.Full h = word (codes "full") refl
reply-line reply.WrongKind h = word (codes "wrong-kind") refl

pub reply-back : (o : Reply) → ranges.FitsReply o → reply_back (reply_words o) ≡ o
reply-back reply.Done h = refl
reply-back reply.Nothing h = refl
reply-back (reply.Found text) h = refl
reply-back reply.Yes h = refl
reply-back reply.No h = refl
reply-back (reply.Number number) h = λ i. reply.Number (integer-back number h i)
reply-back (reply.Fence place) h = λ i. reply.Fence (number-back place h i)
reply-back (reply.Holder session fence) h = λ i. reply.Holder (number-back session h.0 i) (number-back fence h.1 i)
reply-back (reply.Leader session term) h = λ i. reply.Leader (number-back session h.0 i) (number-back term h.1 i)
reply-back (reply.Members sessions) h = λ i. reply.Members (numbers-back sessions h i)
reply-back reply.Busy h = refl
reply-back reply.Already h = refl
reply-back reply.NotHolder h = refl
reply-back reply.NotMember h = refl
reply-back reply.Overflow h = refl
reply-back reply.Full h = refl
reply-back reply.WrongKind h = refl

abbrev pub event_words : Event → List (List ℕ)
event_words (event.Changed name key text) = codes "changed" ∷ name ∷ key ∷ text ∷ []
event_words (event.Removed name key) = codes "removed" ∷ name ∷ key ∷ []
event_words (event.Set name text) = codes "set" ∷ name ∷ text ∷ []
event_words (event.Cleared name) = codes "cleared" ∷ name ∷ []
event_words (event.Granted name fence) = codes "granted" ∷ name ∷ decimal fence ∷ []
event_words (event.Joined name session) = codes "joined" ∷ name ∷ decimal session ∷ []
event_words (event.Left name session) = codes "left" ∷ name ∷ decimal session ∷ []
event_words (event.Elected name session term) = codes "elected" ∷ name ∷ decimal session ∷ decimal term ∷ []
event_words (event.Message name text) = codes "message" ∷ name ∷ text ∷ []

abbrev pub event_back : List (List ℕ) → Event
event_back ws =
    cond (is_word (at 0 ws) (codes "changed")) (event.Changed (at 1 ws) (at 2 ws) (at 3 ws)) (
    cond (is_word (at 0 ws) (codes "removed")) (event.Removed (at 1 ws) (at 2 ws)) (
    cond (is_word (at 0 ws) (codes "set")) (event.Set (at 1 ws) (at 2 ws)) (
    cond (is_word (at 0 ws) (codes "cleared")) (event.Cleared (at 1 ws)) (
    cond (is_word (at 0 ws) (codes "granted")) (event.Granted (at 1 ws) (number_back (at 2 ws))) (
    cond (is_word (at 0 ws) (codes "joined")) (event.Joined (at 1 ws) (number_back (at 2 ws))) (
    cond (is_word (at 0 ws) (codes "left")) (event.Left (at 1 ws) (number_back (at 2 ws))) (
    cond (is_word (at 0 ws) (codes "elected")) (event.Elected (at 1 ws) (number_back (at 2 ws)) (number_back (at 3 ws))) (
    (event.Message (at 1 ws) (at 2 ws))))))))))

pub event-line : (o : Event) → ranges.FitsEvent o → IsLine (replies.event_text o) (event_words o)
event-line (event.Changed name key text) h = join (word (codes "changed") refl) (join (name_line name h.0) (join (name_line key h.1) (text_line text h.2)))
event-line (event.Removed name key) h = join (word (codes "removed") refl) (join (name_line name h.0) (name_line key h.1))
event-line (event.Set name text) h = join (word (codes "set") refl) (join (name_line name h.0) (text_line text h.1))
event-line (event.Cleared name) h = join (word (codes "cleared") refl) (name_line name h)
event-line (event.Granted name fence) h = join (word (codes "granted") refl) (join (name_line name h.0) (number_line fence))
event-line (event.Joined name session) h = join (word (codes "joined") refl) (join (name_line name h.0) (number_line session))
event-line (event.Left name session) h = join (word (codes "left") refl) (join (name_line name h.0) (number_line session))
event-line (event.Elected name session term) h = join (word (codes "elected") refl) (join (name_line name h.0) (join (number_line session) (number_line term)))
event-line (event.Message name text) h = join (word (codes "message") refl) (join (name_line name h.0) (text_line text h.1))

-- an event is read back from the front of words
pub event-back : (o : Event) → ranges.FitsEvent o → (rest : List (List ℕ)) → event_back (event_words o ++ rest) ≡ o
event-back (event.Changed name key text) h rest = refl
event-back (event.Removed name key) h rest = refl
event-back (event.Set name text) h rest = refl
event-back (event.Cleared name) h rest = refl
event-back (event.Granted name fence) h rest = λ i. event.Granted name (number-back fence h.1 i)
event-back (event.Joined name session) h rest = λ i. event.Joined name (number-back session h.1 i)
event-back (event.Left name session) h rest = λ i. event.Left name (number-back session h.1 i)
event-back (event.Elected name session term) h rest = λ i. event.Elected name (number-back session h.1 i) (number-back term h.2 i)
event-back (event.Message name text) h rest = refl

-- the words behind the first event
abbrev pub event_rest : List (List ℕ) → List (List ℕ)
event_rest ws =
    cond (is_word (at 0 ws) (codes "changed")) (drop 4 ws) (
    cond (is_word (at 0 ws) (codes "elected")) (drop 4 ws) (
    cond (is_word (at 0 ws) (codes "cleared")) (drop 2 ws) (drop 3 ws)))

event-rest : (o : Event) (rest : List (List ℕ)) → event_rest (event_words o ++ rest) ≡ rest
event-rest (event.Changed name key text) rest = refl
event-rest (event.Removed name key) rest = refl
event-rest (event.Set name text) rest = refl
event-rest (event.Cleared name) rest = refl
event-rest (event.Granted name fence) rest = refl
event-rest (event.Joined name session) rest = refl
event-rest (event.Left name session) rest = refl
event-rest (event.Elected name session term) rest = refl
event-rest (event.Message name text) rest = refl

event-length : (o : Event) → 1 ≤ length (event_words o)
event-length (event.Changed name key text) = omega arith
event-length (event.Removed name key) = omega arith
event-length (event.Set name text) = omega arith
event-length (event.Cleared name) = omega arith
event-length (event.Granted name fence) = omega arith
event-length (event.Joined name session) = omega arith
event-length (event.Left name session) = omega arith
event-length (event.Elected name session term) = omega arith
event-length (event.Message name text) = omega arith

-- an event alone
pub event-alone : (o : Event) → ranges.FitsEvent o → event_back (event_words o) ≡ o
event-alone o h = ap event_back (sym (append-nil (event_words o))) ∙ event-back o h []

abbrev pub events_words : List Event → List (List ℕ)
events_words [] = []
events_words (e ∷ es) = event_words e ++ events_words es

-- at most n events
abbrev pub events_back : ℕ → List (List ℕ) → List Event
events_back zero ws = []
events_back (suc n) [] = []
events_back (suc n) (w ∷ ws) = event_back (w ∷ ws) ∷ events_back n (event_rest (w ∷ ws))

-- events behind a line, each after a blank
pub events-line : (t : List ℕ) (ws : List (List ℕ)) → IsLine t ws → (es : List Event) → AllByRecursion ranges.FitsEvent es → IsLine (t ++ replies.events_text es) (ws ++ events_words es)
events-line t ws h [] k = subst (λ s. IsLine s (ws ++ [])) (sym (append-nil t)) (subst (IsLine t) (sym (append-nil ws)) h)
events-line t ws h (e ∷ es) k = join h (events-line (replies.event_text e) (event_words e) (event-line e k.0) es k.1)

events_back-step : (o : Event) (rest : List (List ℕ)) (n : ℕ) → events_back (suc n) (event_words o ++ rest) ≡ event_back (event_words o ++ rest) ∷ events_back n (event_rest (event_words o ++ rest))
events_back-step (event.Changed name key text) rest n = refl
events_back-step (event.Removed name key) rest n = refl
events_back-step (event.Set name text) rest n = refl
events_back-step (event.Cleared name) rest n = refl
events_back-step (event.Granted name fence) rest n = refl
events_back-step (event.Joined name session) rest n = refl
events_back-step (event.Left name session) rest n = refl
events_back-step (event.Elected name session term) rest n = refl
events_back-step (event.Message name text) rest n = refl

pub events-back : (es : List Event) (n : ℕ) → length es ≤ n → AllByRecursion ranges.FitsEvent es → events_back n (events_words es) ≡ es
events-back [] zero l h = refl
events-back [] (suc n) l h = refl
events-back (e ∷ es) zero l h = absurd (omega (arith, l))
events-back (e ∷ es) (suc n) l h =
    events_back-step e (events_words es) n
    ∙ (λ i. event-back e h.0 (events_words es) i ∷ events_back n (event-rest e (events_words es) i))
    ∙ ap (λ t. e ∷ t) (events-back es n (omega (arith, l)) h.1)

pub events-length : (es : List Event) → length es ≤ length (events_words es)
events-length [] = omega arith
events-length (e ∷ es) = omega (arith, events-length es, event-length e, length-append (event_words e) (events_words es))

abbrev pub how_back : List ℕ → How
how_back w = cond (is_word w (codes "closed")) how.Closed how.Expired

pub how-line : (o : How) → IsLine (replies.how_text o) (replies.how_text o ∷ [])
how-line how.Closed = word (codes "closed") refl
how-line how.Expired = word (codes "expired") refl

pub how-back : (o : How) → how_back (replies.how_text o) ≡ o
how-back how.Closed = refl
how-back how.Expired = refl
