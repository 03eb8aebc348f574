-- What each item says is right by the history.
use Rattle.std.specs.Prelude.{ℕ, ◌≡◌, ◌<◌, ◌≤◌, ◌+◌, Bool, false, nat_eq, IsTrue, List, Option, Some, None, option_map, count_by}
use Rattle.ax_types.specs.Places as lists
use Rattle.ax_types.specs.declared.entries.Act.{Act}
use Rattle.ax_types.specs.declared.entries.Act.TheVariants as act
use Rattle.ax_types.specs.declared.ops.Level.TheVariants as level
use Rattle.ax_types.specs.declared.ops.Query.{Query}
use Rattle.ax_types.specs.declared.ops.WindowCall.TheVariants as call
use Rattle.ax_types.specs.declared.items.Item.{Item}
use Rattle.ax_types.specs.declared.items.Item.TheVariants as item
use Rattle.spec_book.specs.Book as books
use Rattle.spec_book.specs.History as histories
use Rattle.spec_claims.specs.Transcript as transcripts

-- the act is an opening by the client
abbrev pub IsOpening : ℕ → Option (ℕ × Act) → Type 0
IsOpening c None = ⊥
IsOpening c (Some a) = by_client a.1
  where
    by_client : Act → Type 0
    by_client (act.Open d opening) = c ≡ d
    by_client _ = ⊥

abbrev pub is_opened : ℕ → Item → Bool
is_opened s (item.Opened t c) = nat_eq s t
is_opened s x = false

abbrev pub is_leader_in : ℕ → Item → Bool
is_leader_in t (item.Leader k u) = nat_eq t u
is_leader_in t x = false

abbrev pub is_reach_in : ℕ → Item → Bool
is_reach_in t (item.Reach k u a s n) = nat_eq t u
is_reach_in t x = false

-- a session is opened once, by the client of the opening at its place; a reply to a session's k-th command is the plain
-- resource's reply at the place of the session's k-th act; a read answers a query that was called, as the plain book does
-- at its place, where the session is live
abbrev pub IsRight : histories.History → List Item → Item → Type 0
IsRight h above (item.Opened s c) = IsOpening c (lists.at_place h s) × (count_by (is_opened s) above ≡ 0)
IsRight h above (item.Reply s n p r) =
    (option_map (λ d. d.0) (lists.at_place (histories.dos h s) (transcripts.commands_upto s n above)) ≡ Some p) × (histories.history_reply h p ≡ Some r)
IsRight h above (item.Read s n level p reach r) =
    ((name : List ℕ) × (query : Query) × transcripts.StandsIn (item.Called s n (call.Query level name query)) above
    × (r ≡ books.ask (histories.book_at h p) name query)) × IsTrue (histories.is_live h p s)
IsRight h above x = Unit {0}

-- a place that an item names was committed above it
abbrev pub IsCommitted : List Item → Item → Type 0
IsCommitted above (item.Opened s c) = s ≤ transcripts.greatest_commit above
IsCommitted above (item.Reply s n p r) = p ≤ transcripts.greatest_commit above
IsCommitted above (item.Read s n level p reach r) = p ≤ transcripts.greatest_commit above
IsCommitted above (item.Event s p prev events) = p ≤ transcripts.greatest_commit above
IsCommitted above (item.Ended s p how) = p ≤ transcripts.greatest_commit above
IsCommitted above x = Unit {0}

-- commits rise; a term has one leader; a linearizable query that was called reaches a leader of its term, and arrivals of a
-- term count 1, 2, 3 in order
abbrev pub IsOrdered : List Item → Item → Type 0
IsOrdered above (item.Commit p) = transcripts.greatest_commit above < p
IsOrdered above (item.Leader k t) = count_by (is_leader_in t) above ≡ 0
IsOrdered above (item.Reach k t a s n) =
    transcripts.StandsIn (item.Leader k t) above × (a ≡ count_by (is_reach_in t) above + 1)
    × ((name : List ℕ) × (query : Query) × transcripts.StandsIn (item.Called s n (call.Query level.Lin name query)) above)
IsOrdered above x = Unit {0}
