-- What a true payload says: it stays true as a run goes on, and lies within the history.
use Rattle.std.specs.Prelude.{◌≤◌, ℕ, List, ◌++◌, length, reverse}
use Rattle.ax_types.specs.declared.items.Item.{Item}
use Rattle.ax_types.specs.declared.packets.Payload.{Payload}
use Rattle.ax_types.specs.declared.packets.Payload.TheVariants as payload
use Rattle.spec_book.specs.History as histories
use Rattle.spec_claims.specs.Transcript as transcripts
use Rattle.spec_claims.specs.OutcomeOrder as outcome_order
use Rattle.spec_claims.specs.Payloads as payloads

-- the calls of each session carry 1, 2, 3 in order
abbrev pub AreCallsNumbered : List Item → Type 0
AreCallsNumbered items = (s : ℕ) → transcripts.EachItem (outcome_order.IsNumbered s) items

-- a payload that is true of a history and of the items so far stays so as both grow at their ends
abbrev pub PayloadsStayTrue : Type 0
PayloadsStayTrue = (early later : List Item) (h more : histories.History) (c : ℕ) (p : Payload) → AreCallsNumbered (early ++ later)
    → payloads.IsTruePayload (reverse early) h c p → payloads.IsTruePayload (reverse (early ++ later)) (h ++ more) c p

-- the place that a payload tells a client of, 0 where it tells of none
abbrev pub place_told : Payload → ℕ
place_told (payload.Opened opening s) = s
place_told (payload.Reply s seq p named r) = p
place_told (payload.Answer s n l p named term arrival r) = p
place_told (payload.Batch s p prev es) = p
place_told (payload.Ended s p how) = p
place_told _ = 0

-- what a true payload tells of lies within the history
abbrev pub TruthIsWithin : Type 0
TruthIsWithin = (items : List Item) (h : histories.History) (c : ℕ) (p : Payload) → payloads.IsTruePayload items h c p → place_told p ≤ length h
