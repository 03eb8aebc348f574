-- What the items of one session have to meet, as tests on the item and the items above it, the nearest first.
use Rattle.std.specs.Prelude.{ℕ, ◌+◌, ◌-◌, nat_le, nat_lt, nat_eq, Bool, true, false, not, ◌&&◌, if◌then◌else◌, List, [], ◌∷◌, reverse, map, length, Option, Some, None, count_by}
use Rattle.std.specs.List.{list_any, list_all}
use Rattle.ax_types.specs.Places as lists
use Rattle.ax_types.specs.declared.entries.Act.{Act}
use Rattle.ax_types.specs.declared.entries.Act.TheVariants as act
use Rattle.ax_types.specs.declared.ops.WindowCall.{WindowCall}
use Rattle.ax_types.specs.declared.replies.How.{How}
use Rattle.ax_types.specs.declared.replies.How.TheVariants as how
use Rattle.ax_types.specs.declared.items.Item.{Item}
use Rattle.ax_types.specs.declared.items.Item.TheVariants as item
use Rattle.spec_book.specs.History as histories
use Rattle.spec_claims.specs.Transcript as transcripts
use Rattle.spec_claims.specs.Once as once
use Rattle.spec_claims.specs.Right as right
use Rattle.spec_claims.specs.Heard as heard
use Rattle.spec_claims.specs.OutcomeOrder as outcome_order
use Rattle.spec_audit.specs.SameValues as same_values
use Rattle.spec_audit.specs.ItemConditions as item_conditions

-- at a commit, as many commands of the session were called above as took effect up to its place
abbrev pub is_called_before : histories.History → ℕ → List Item → Item → Bool
is_called_before h s above (item.Commit p) = nat_le (once.dos_upto h s p) (count_by (λ c. transcripts.is_command c.1) (transcripts.calls s above))
is_called_before h s above x = true

-- once: the session's acts begin its commands, each called above the first commit that covers it
abbrev pub takes_effect_once : List Item → histories.History → ℕ → Bool
takes_effect_once items h s =
    same_values.begins same_values.is_same_command (map (λ d. d.1) (histories.dos h s)) (once.commands s items)
    && item_conditions.each_shown (is_called_before h s) items

-- growing: a read's place is not below that of a read above, and each command called before it took effect up to it
abbrev pub is_read_upto : ℕ → ℕ → Item → Bool
is_read_upto s p (item.Read t n l q reach r) = if nat_eq s t then nat_le q p else true
is_read_upto s p x = true

abbrev pub is_growing : histories.History → ℕ → List Item → Item → Bool
is_growing h s above (item.Read t n l p reach r) =
    if nat_eq s t then list_all (is_read_upto s p) above && nat_le (transcripts.commands_below s n above) (once.dos_upto h s p) else true
is_growing h s above x = true

-- heard: the batches heard begin those that the history tells, and those up to the place of a response stand above it
abbrev pub is_heard_in : List Item → ℕ → histories.Heard → Bool
is_heard_in above s e = list_any (same_values.is_same_heard e) (heard.heard s above)

abbrev pub are_heard_upto : histories.History → ℕ → ℕ → List Item → Bool
are_heard_upto h s p above = list_all (λ e. if nat_le e.place p then is_heard_in above s e else true) (histories.events h s)

abbrev pub is_after_events : histories.History → ℕ → List Item → Item → Bool
is_after_events h s above (item.Reply t n p r) = if nat_eq s t then are_heard_upto h s p above else true
is_after_events h s above (item.Read t n l p reach r) = if nat_eq s t then are_heard_upto h s p above else true
is_after_events h s above x = true

abbrev pub hears_in_order : List Item → histories.History → ℕ → Bool
hears_in_order items h s =
    same_values.begins same_values.is_same_heard (heard.heard s items) (histories.events h s)
    && item_conditions.each_shown (is_after_events h s) items

-- outcomes: calls carry 1, 2, 3 in order, those that were sent first; outcomes rise by the number of their call
abbrev pub is_numbered : ℕ → List Item → Item → Bool
is_numbered s above (item.Called t n c) =
    if nat_eq s t then nat_eq n (length (transcripts.calls s above) + 1) && nat_eq (count_by (outcome_order.is_unsent s) above) 0 else true
is_numbered s above (item.Unsent t n) =
    if nat_eq s t then nat_eq n (length (transcripts.calls s above) + count_by (outcome_order.is_unsent s) above + 1) else true
is_numbered s above x = true

abbrev pub is_below_number : ℕ → Option ℕ → Bool
is_below_number n None = true
is_below_number n (Some m) = nat_lt m n

abbrev pub is_rising : ℕ → List Item → Item → Bool
is_rising s above x = rises (transcripts.outcome_of s x)
  where
    rises : Option ℕ → Bool
    rises None = true
    rises (Some n) = list_all (λ y. is_below_number n (transcripts.outcome_of s y)) above

-- a reply is for a command and a read for a query, and what is left unanswered stands below every other outcome
abbrev pub is_query_numbered : ℕ → ℕ × WindowCall → Bool
is_query_numbered n c = nat_eq n c.0 && not (transcripts.is_command c.1)

abbrev pub none_left_open : ℕ → List Item → Bool
none_left_open s above = not (list_any (outcome_order.is_unanswered s) above)

abbrev pub is_for_its_call : ℕ → List Item → Item → Bool
is_for_its_call s above (item.Reply t n p r) =
    if nat_eq s t then list_any (item_conditions.is_command_numbered n) (transcripts.calls s above) && none_left_open s above else true
is_for_its_call s above (item.Read t n l p reach r) =
    if nat_eq s t then list_any (is_query_numbered n) (transcripts.calls s above) && none_left_open s above else true
is_for_its_call s above (item.Doubt t n) = if nat_eq s t then none_left_open s above else true
is_for_its_call s above (item.Lost t n) = if nat_eq s t then none_left_open s above else true
is_for_its_call s above (item.Unsent t n) = if nat_eq s t then none_left_open s above else true
is_for_its_call s above x = true

abbrev pub is_in_order : ℕ → List Item → Item → Bool
is_in_order s above x = is_numbered s above x && is_rising s above x && is_for_its_call s above x

-- ends: what is of the session stands below its opening and not below its end, which the history has at its place
abbrev pub is_open_for : ℕ → List Item → Bool
is_open_for s above = list_any (right.is_opened s) above && not (list_any (outcome_order.is_ended s) above)

abbrev pub is_end_of : ℕ → How → Option (ℕ × Act) → Bool
is_end_of s way None = false
is_end_of s way (Some a) = ends_so a.1 way
  where
    ends_so : Act → How → Bool
    ends_so (act.Close t) how.Closed = nat_eq s t
    ends_so (act.Expire t) how.Expired = nat_eq s t
    ends_so _ _ = false

abbrev pub is_in_session : histories.History → ℕ → List Item → Item → Bool
is_in_session h s above (item.Called t n c) = if nat_eq s t then is_open_for s above else true
is_in_session h s above (item.Reply t n p r) = if nat_eq s t then is_open_for s above else true
is_in_session h s above (item.Read t n l p reach r) = if nat_eq s t then is_open_for s above else true
is_in_session h s above (item.Event t p prev es) = if nat_eq s t then is_open_for s above else true
is_in_session h s above (item.Ended t p way) = if nat_eq s t then is_open_for s above && is_end_of s way (lists.at_place h p) else true
is_in_session h s above (item.Unsent t n) = if nat_eq s t then list_any (outcome_order.is_ended s) above else true
is_in_session h s above x = true

-- what stands in the report when its client is told of the session's end: Doubt or Lost of this call
abbrev pub is_doubted : ℕ → ℕ × WindowCall → Item → Bool
is_doubted s c (item.Doubt t n) = nat_eq s t && nat_eq c.0 n && transcripts.is_command c.1
is_doubted s c (item.Lost t n) = nat_eq s t && nat_eq c.0 n && not (transcripts.is_command c.1)
is_doubted s c x = false

abbrev pub are_doubted : ℕ → List (ℕ × WindowCall) → List Item → Bool
are_doubted s [] items = true
are_doubted s (c ∷ cs) [] = false
are_doubted s (c ∷ cs) (x ∷ items) = is_doubted s c x && are_doubted s cs items

abbrev pub is_doubt_or_lost : ℕ → Item → Bool
is_doubt_or_lost s (item.Doubt t n) = nat_eq s t
is_doubt_or_lost s (item.Lost t n) = nat_eq s t
is_doubt_or_lost s x = false

-- directly below an expiry of the session its open calls are in doubt or lost, in order; at a close none is open; and no
-- other call is in doubt or lost: `left` is how many are still to come
abbrev pub open_calls : ℕ → List Item → List (ℕ × WindowCall)
open_calls s above = transcripts.unanswered s (reverse above)

abbrev pub is_ending : ℕ → ℕ → List Item → List Item → Item → Bool
is_ending s left above below (item.Ended t p how.Expired) = if nat_eq s t then are_doubted s (open_calls s above) below else true
is_ending s left above below (item.Ended t p how.Closed) = if nat_eq s t then nat_eq (length (open_calls s above)) 0 else true
is_ending s left above below x = if is_doubt_or_lost s x then nat_lt 0 left else true

abbrev pub left_below : ℕ → ℕ → List Item → Item → ℕ
left_below s left above (item.Ended t p how.Expired) = if nat_eq s t then length (open_calls s above) else left
left_below s left above x = if is_doubt_or_lost s x then left - 1 else left

abbrev pub are_ends : ℕ → ℕ → List Item → List Item → Bool
are_ends s left above [] = true
are_ends s left above (x ∷ below) = is_ending s left above below x && are_ends s (left_below s left above x) (x ∷ above) below

abbrev pub ends_rightly : List Item → histories.History → ℕ → Bool
ends_rightly items h s = item_conditions.each_shown (is_in_session h s) items && are_ends s 0 [] items
