-- What each item has to meet whatever its session, as tests on the item and the items above it, the nearest first.
use Rattle.std.specs.Prelude.{ℕ, nat_le, nat_eq, nat_lt, Bool, true, false, not, ◌&&◌, ◌||◌, List, [], ◌∷◌, length, Option, Some, None, option_map, count_by}
use Rattle.std.specs.List.{list_any}
use Rattle.ax_types.specs.Places as lists
use Rattle.ax_types.specs.declared.entries.Act.{Act}
use Rattle.ax_types.specs.declared.entries.Act.TheVariants as act
use Rattle.ax_types.specs.declared.ops.Level.{Level}
use Rattle.ax_types.specs.declared.ops.Level.TheVariants as level
use Rattle.ax_types.specs.declared.ops.WindowCall.{WindowCall}
use Rattle.ax_types.specs.declared.ops.WindowCall.TheVariants as call
use Rattle.ax_types.specs.declared.replies.Reply.{Reply}
use Rattle.ax_types.specs.declared.items.Item.{Item}
use Rattle.ax_types.specs.declared.items.Item.TheVariants as item
use Rattle.spec_book.specs.Book as books
use Rattle.spec_book.specs.History as histories
use Rattle.spec_claims.specs.Transcript as transcripts
use Rattle.spec_claims.specs.Right as right
use Rattle.spec_audit.specs.SameValues as same_values

-- the test holds of each item and the items above it
abbrev pub each_below : (List Item → Item → Bool) → List Item → List Item → Bool
each_below test above [] = true
each_below test above (x ∷ xs) = test above x && each_below test (x ∷ above) xs

abbrev pub each_shown : (List Item → Item → Bool) → List Item → Bool
each_shown test items = each_below test [] items

abbrev pub is_opening_by : ℕ → Option (ℕ × Act) → Bool
is_opening_by c None = false
is_opening_by c (Some a) = by_client a.1
  where
    by_client : Act → Bool
    by_client (act.Open d opening) = nat_eq c d
    by_client _ = false

abbrev pub is_some_place : ℕ → Option ℕ → Bool
is_some_place p None = false
is_some_place p (Some q) = nat_eq p q

abbrev pub is_some_reply : Reply → Option Reply → Bool
is_some_reply r None = false
is_some_reply r (Some q) = same_values.is_same_reply r q

-- the session called a command with this number, or a query of the level that has this reply at the place
abbrev pub is_command_numbered : ℕ → ℕ × WindowCall → Bool
is_command_numbered n c = nat_eq n c.0 && transcripts.is_command c.1

abbrev pub is_answered_by : histories.History → ℕ → Level → Reply → WindowCall → Bool
is_answered_by h p l r (call.Command name op) = false
is_answered_by h p l r (call.Query m name query) = same_values.is_same_level l m && same_values.is_same_reply r (books.ask (histories.book_at h p) name query)

abbrev pub is_query_answered : histories.History → ℕ → ℕ → Level → Reply → ℕ × WindowCall → Bool
is_query_answered h n p l r c = nat_eq n c.0 && is_answered_by h p l r c.1

-- two items say that the session called with this number
abbrev pub is_called_twice : List Item → ℕ → ℕ → Bool
is_called_twice items s n = nat_lt 1 (count_by (λ c. nat_eq n c.0) (transcripts.calls s items))

-- a session is opened once, by the client of the opening at its place; a reply is that of the plain resource where the
-- session's command took effect; a read is what the plain resource answers at its place, where the session is live
abbrev pub is_right : List Item → histories.History → List Item → Item → Bool
is_right items h above (item.Opened s c) =
    is_opening_by c (lists.at_place h s) && not (list_any (right.is_opened s) above)
is_right items h above (item.Reply s n p r) =
    list_any (is_command_numbered n) (transcripts.calls s above) && not (is_called_twice items s n)
    && is_some_place p (option_map (λ d. d.0) (lists.at_place (histories.dos h s) (transcripts.commands_upto s n above)))
    && is_some_reply r (histories.history_reply h p)
is_right items h above (item.Read s n l p reach r) =
    list_any (is_query_answered h n p l r) (transcripts.calls s above) && not (is_called_twice items s n)
    && histories.is_live h p s && nat_le p (length h)
is_right items h above x = true

-- the request of the query reached a leader of this term as this arrival, below the call and where no later place was committed
abbrev pub is_reached_by : ℕ → ℕ → ℕ → ℕ → ℕ → List Item → Bool
is_reached_by s n p t a [] = false
is_reached_by s n p t a (item.Reach k u b r m ∷ above) =
    (nat_eq t u && nat_eq a b && nat_eq s r && nat_eq n m && list_any (λ c. nat_eq n c.0) (transcripts.calls s above)
    && nat_le (transcripts.greatest_commit above) p)
    || is_reached_by s n p t a above
is_reached_by s n p t a (x ∷ above) = is_reached_by s n p t a above

abbrev pub is_fresh_at : ℕ → ℕ → ℕ → List Item → Level → Option (ℕ × ℕ) → Bool
is_fresh_at s n p above level.Lin (Some reached) = is_reached_by s n p reached.0 reached.1 above
is_fresh_at s n p above level.Lin None = false
is_fresh_at s n p above level.Seq (Some reached) = false
is_fresh_at s n p above level.Seq None = true

abbrev pub is_fresh : List Item → Item → Bool
is_fresh above (item.Read s n l p reach r) = is_fresh_at s n p above l reach
is_fresh above x = true
