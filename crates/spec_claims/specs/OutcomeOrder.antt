-- Calls and their outcomes: numbers, order, and what becomes of calls when a session ends.
use Rattle.std.specs.Prelude.{ℕ, ◌≡◌, ◌<◌, ◌+◌, Bool, true, false, nat_eq, if◌then◌else◌, List, [], ◌∷◌, ◌++◌, Option, Some, None, map, reverse, length, count_by}
use Rattle.std.specs.List.{AllByRecursion}
use Rattle.ax_types.specs.Places as lists
use Rattle.ax_types.specs.declared.entries.Act.{Act}
use Rattle.ax_types.specs.declared.entries.Act.TheVariants as act
use Rattle.ax_types.specs.declared.replies.How.{How}
use Rattle.ax_types.specs.declared.replies.How.TheVariants as how
use Rattle.ax_types.specs.declared.ops.Op.{Op}
use Rattle.ax_types.specs.declared.ops.Query.{Query}
use Rattle.ax_types.specs.declared.ops.WindowCall.{WindowCall}
use Rattle.ax_types.specs.declared.ops.WindowCall.TheVariants as call
use Rattle.ax_types.specs.declared.items.Item.{Item}
use Rattle.ax_types.specs.declared.items.Item.TheVariants as item
use Rattle.spec_book.specs.History as histories
use Rattle.spec_claims.specs.Transcript as transcripts
use Rattle.spec_claims.specs.Right as right

abbrev pub is_unsent : ℕ → Item → Bool
is_unsent s (item.Unsent t n) = nat_eq s t
is_unsent s x = false

abbrev pub is_unanswered : ℕ → Item → Bool
is_unanswered s (item.Unanswered t n) = nat_eq s t
is_unanswered s x = false

abbrev pub is_ended : ℕ → Item → Bool
is_ended s (item.Ended t p how) = nat_eq s t
is_ended s x = false

-- the calls of a session carry 1, 2, 3 in order, those that were sent first
abbrev pub IsNumbered : ℕ → List Item → Item → Type 0
IsNumbered s above (item.Called t n c) = s ≡ t → (n ≡ length (transcripts.calls s above) + 1) × (count_by (is_unsent s) above ≡ 0)
IsNumbered s above (item.Unsent t n) = s ≡ t → n ≡ length (transcripts.calls s above) + count_by (is_unsent s) above + 1
IsNumbered s above x = Unit {0}

-- an outcome of the session above has a smaller number
abbrev pub IsBelowNumber : ℕ → ℕ → Item → Type 0
IsBelowNumber s n x = below (transcripts.outcome_of s x)
  where
    below : Option ℕ → Type 0
    below None = Unit {0}
    below (Some m) = m < n

-- outcomes rise by call number, at most one for each
abbrev pub IsRising : ℕ → List Item → Item → Type 0
IsRising s above x = rises (transcripts.outcome_of s x)
  where
    rises : Option ℕ → Type 0
    rises None = Unit {0}
    rises (Some n) = AllByRecursion (IsBelowNumber s n) above

-- outcomes have no gap: the number is one more than the outcomes above
abbrev pub IsGapless : ℕ → List Item → Item → Type 0
IsGapless s above x = follows (transcripts.outcome_of s x)
  where
    follows : Option ℕ → Type 0
    follows None = Unit {0}
    follows (Some n) = n ≡ transcripts.outcome_count s above + 1

-- a reply is for a command that was called, a read for a query; an unanswered call was called, and comes below every other outcome
abbrev pub IsForItsCall : ℕ → List Item → Item → Type 0
IsForItsCall s above (item.Reply t n p r) =
    s ≡ t → ((name : List ℕ) × (op : Op) × transcripts.StandsIn (item.Called s n (call.Command name op)) above)
    × (count_by (is_unanswered s) above ≡ 0)
IsForItsCall s above (item.Read t n l p reach r) =
    s ≡ t → ((name : List ℕ) × (query : Query) × transcripts.StandsIn (item.Called s n (call.Query l name query)) above)
    × (count_by (is_unanswered s) above ≡ 0)
IsForItsCall s above (item.Doubt t n) = s ≡ t → count_by (is_unanswered s) above ≡ 0
IsForItsCall s above (item.Lost t n) = s ≡ t → count_by (is_unanswered s) above ≡ 0
IsForItsCall s above (item.Unsent t n) = s ≡ t → count_by (is_unanswered s) above ≡ 0
IsForItsCall s above (item.Unanswered t n) = s ≡ t → (w : WindowCall) × transcripts.StandsIn (item.Called s n w) above
IsForItsCall s above x = Unit {0}

abbrev pub IsOutcome : ℕ → List Item → Item → Type 0
IsOutcome s above x = IsNumbered s above x × IsRising s above x × IsGapless s above x × IsForItsCall s above x

-- between its opening and its end
abbrev pub IsOpenFor : ℕ → List Item → Type 0
IsOpenFor s above = (count_by (right.is_opened s) above ≡ 1) × (count_by (is_ended s) above ≡ 0)

-- the history ends the session at the place, in that way
abbrev pub IsEndOf : ℕ → How → Option (ℕ × Act) → Type 0
IsEndOf s way None = ⊥
IsEndOf s way (Some a) = ends_so a.1 way
  where
    ends_so : Act → How → Type 0
    ends_so (act.Close t) how.Closed = s ≡ t
    ends_so (act.Expire t) how.Expired = s ≡ t
    ends_so _ _ = ⊥

-- what is called, answered, heard or ended of a session stands below its opening and not below its end, which the history
-- has at its place; a call that was not sent stands below the end
abbrev pub IsInSession : histories.History → ℕ → List Item → Item → Type 0
IsInSession h s above (item.Called t n c) = s ≡ t → IsOpenFor s above
IsInSession h s above (item.Reply t n p r) = s ≡ t → IsOpenFor s above
IsInSession h s above (item.Read t n l p reach r) = s ≡ t → IsOpenFor s above
IsInSession h s above (item.Event t p prev events) = s ≡ t → IsOpenFor s above
IsInSession h s above (item.Ended t p how) = s ≡ t → IsOpenFor s above × IsEndOf s how (lists.at_place h p)
IsInSession h s above (item.Unsent t n) = s ≡ t → count_by (is_ended s) above ≡ 1
IsInSession h s above x = Unit {0}

-- what a call that lacks an outcome becomes when its session has expired: a command is in doubt, a query is lost
abbrev pub doubted : ℕ → ℕ × WindowCall → Item
doubted s c = if transcripts.is_command c.1 then item.Doubt s c.0 else item.Lost s c.0

-- in one step, whose items above it are these: at an expiry the rest of the step is what becomes of the calls that lack an
-- outcome, in order; at a close none lacks one; and nothing is in doubt or lost elsewhere
abbrev pub EndsStep : List Item → List Item → Type 0
EndsStep above [] = Unit {0}
EndsStep above (item.Ended s p how.Expired ∷ rest) = rest ≡ map (doubted s) (transcripts.unanswered s (reverse above))
EndsStep above (item.Ended s p how.Closed ∷ rest) =
    (transcripts.unanswered s (reverse above) ≡ []) × EndsStep (item.Ended s p how.Closed ∷ above) rest
EndsStep above (item.Doubt s n ∷ rest) = ⊥
EndsStep above (item.Lost s n ∷ rest) = ⊥
EndsStep above (x ∷ rest) = EndsStep (x ∷ above) rest

abbrev pub EndsFrom : List Item → List transcripts.Shown → Type 0
EndsFrom above [] = Unit {0}
EndsFrom above (m ∷ shown) = EndsStep above m.items × EndsFrom (reverse m.items ++ above) shown

abbrev pub AreEnds : List transcripts.Shown → Type 0
AreEnds shown = EndsFrom [] shown

-- no call is left unanswered by a pump that stopped: so it is in every run but a race
abbrev pub is_left_open : Item → Bool
is_left_open (item.Unanswered s n) = true
is_left_open x = false

abbrev pub NoneLeftOpen : List transcripts.Shown → Type 0
NoneLeftOpen shown = count_by is_left_open (transcripts.transcript shown) ≡ 0
