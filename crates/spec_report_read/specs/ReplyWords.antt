-- How replies and events are read, from words.
use Rattle.std.specs.Prelude.{ℕ, zero, suc, ◌-◌, ◌^◌, List, [], ◌∷◌, take, drop, Option, Some, None, option_map, option_and_then, if◌then◌else◌, codes, bytes_eq}
use Rattle.ax_types.specs.declared.replies.Reply.{Reply}
use Rattle.ax_types.specs.declared.replies.Reply.TheVariants as reply
use Rattle.ax_types.specs.declared.replies.Event.{Event}
use Rattle.ax_types.specs.declared.replies.Event.TheVariants as event
use Rattle.spec_text.specs.Words as text_words
use Rattle.spec_text.specs.OperationWords as operation_words

-- ---- numbers

-- a number of 64 bits
abbrev pub number64_from : text_words.Word → Option ℕ
number64_from w = text_words.number_within 0 (2 ^ 64 - 1) w

abbrev pub pair_of_numbers : text_words.Word → text_words.Word → Option (ℕ × ℕ)
pair_of_numbers a b = text_words.both (λ x y. (x, y)) (number64_from a) (number64_from b)

abbrev pub only_number64 : List text_words.Word → Option ℕ
only_number64 (a ∷ []) = number64_from a
only_number64 _ = None

abbrev pub two_numbers64 : List text_words.Word → Option (ℕ × ℕ)
two_numbers64 (a ∷ b ∷ []) = pair_of_numbers a b
two_numbers64 _ = None

abbrev pub numbers64_from : List text_words.Word → Option (List ℕ)
numbers64_from [] = Some []
numbers64_from (w ∷ ws) = text_words.both (λ n ns. n ∷ ns) (number64_from w) (numbers64_from ws)

-- ---- replies

-- a reply that is one word
abbrev pub plain_reply_from : text_words.Word → Option Reply
plain_reply_from w =
    if bytes_eq w (codes "done") then Some reply.Done
    else if bytes_eq w (codes "none") then Some reply.Nothing
    else if bytes_eq w (codes "true") then Some reply.Yes
    else if bytes_eq w (codes "false") then Some reply.No
    else if bytes_eq w (codes "busy") then Some reply.Busy
    else if bytes_eq w (codes "already") then Some reply.Already
    else if bytes_eq w (codes "not-holder") then Some reply.NotHolder
    else if bytes_eq w (codes "not-member") then Some reply.NotMember
    else if bytes_eq w (codes "overflow") then Some reply.Overflow
    else if bytes_eq w (codes "full") then Some reply.Full
    else if bytes_eq w (codes "wrong-kind") then Some reply.WrongKind
    else None

-- by its word and its operands
abbrev pub worded_reply_from : text_words.Word → List text_words.Word → Option Reply
worded_reply_from w ws =
    if bytes_eq w (codes "number") then option_map reply.Number (operation_words.only_signed ws)
    else if bytes_eq w (codes "some") then option_map reply.Found (operation_words.only_text ws)
    else if bytes_eq w (codes "fence") then option_map reply.Fence (only_number64 ws)
    else if bytes_eq w (codes "holder") then option_map (λ p. reply.Holder p.0 p.1) (two_numbers64 ws)
    else if bytes_eq w (codes "leader") then option_map (λ p. reply.Leader p.0 p.1) (two_numbers64 ws)
    else if bytes_eq w (codes "members") then option_map reply.Members (numbers64_from ws)
    else option_and_then (λ r. operation_words.without_operands r ws) (plain_reply_from w)

abbrev pub reply_from : List text_words.Word → Option Reply
reply_from [] = None
reply_from (w ∷ ws) = worded_reply_from w ws

-- ---- events

-- by its word, the name of its resource and its operands
abbrev pub named_event_from : text_words.Word → text_words.Word → List text_words.Word → Option Event
named_event_from w name ws =
    if bytes_eq w (codes "changed") then option_map (λ p. event.Changed name p.0 p.1) (operation_words.key_and_text ws)
    else if bytes_eq w (codes "removed") then option_map (event.Removed name) (operation_words.only_key ws)
    else if bytes_eq w (codes "set") then option_map (event.Set name) (operation_words.only_text ws)
    else if bytes_eq w (codes "cleared") then operation_words.without_operands (event.Cleared name) ws
    else if bytes_eq w (codes "granted") then option_map (event.Granted name) (only_number64 ws)
    else if bytes_eq w (codes "joined") then option_map (event.Joined name) (only_number64 ws)
    else if bytes_eq w (codes "left") then option_map (event.Left name) (only_number64 ws)
    else if bytes_eq w (codes "elected") then option_map (λ p. event.Elected name p.0 p.1) (two_numbers64 ws)
    else if bytes_eq w (codes "message") then option_map (event.Message name) (operation_words.only_text ws)
    else None

abbrev pub event_from : List text_words.Word → Option Event
event_from (w ∷ n ∷ ws) = option_and_then (λ name. named_event_from w name ws) (text_words.name_of n)
event_from _ = None

-- how many words an event has, by its first
abbrev pub event_size : text_words.Word → ℕ
event_size w =
    if bytes_eq w (codes "changed") then 4
    else if bytes_eq w (codes "elected") then 4
    else if bytes_eq w (codes "cleared") then 2
    else 3

-- the event that begins the words
abbrev pub first_event_from : List text_words.Word → Option Event
first_event_from [] = None
first_event_from (w ∷ ws) = event_from (take (event_size w) (w ∷ ws))

-- the words behind the event that begins them
abbrev pub behind_event : List text_words.Word → List text_words.Word
behind_event [] = []
behind_event (w ∷ ws) = drop (event_size w) (w ∷ ws)

-- so many events, and no further word
abbrev pub events_from : ℕ → List text_words.Word → Option (List Event)
events_from zero ws = operation_words.without_operands [] ws
events_from (suc n) ws = text_words.both (λ e es. e ∷ es) (first_event_from ws) (events_from n (behind_event ws))

-- how many events there are, one at least, and each of them
abbrev pub counted_events_from : text_words.Word → List text_words.Word → Option (List Event)
counted_events_from w ws = option_and_then (λ n. events_from n ws) (text_words.number_within 1 (2 ^ 64 - 1) w)
