-- Events come in the order of their places, once, and before each response that names them; watches show what they hold.
use Rattle.std.specs.Prelude.{ℕ, ◌≡◌, ◌≤◌, Bool, true, false, not, nat_eq, if◌then◌else◌, List, [], ◌∷◌, ◌++◌, map, filter, flat_map}
use Rattle.std.specs.List.{AllByRecursion, list_any}
use Rattle.ax_types.specs.ItemTests as item_tests
use Rattle.ax_types.specs.declared.replies.Event.{Event}
use Rattle.ax_types.specs.declared.replies.Event.TheVariants as event
use Rattle.ax_types.specs.declared.steps.Step.{Step}
use Rattle.ax_types.specs.declared.steps.Step.TheVariants as step
use Rattle.ax_types.specs.declared.steps.WatchKind.{WatchKind}
use Rattle.ax_types.specs.declared.steps.WatchKind.TheVariants as watch
use Rattle.ax_types.specs.declared.items.Item.{Item}
use Rattle.ax_types.specs.declared.items.Item.TheVariants as item
use Rattle.spec_book.specs.History as histories
use Rattle.spec_claims.specs.Transcript as transcripts
use Rattle.spec_claims.specs.Once as claims_once

-- the batch of events that an item says a session heard
abbrev pub heard_by : ℕ → Item → List histories.Heard
heard_by s (item.Event t p prev es) = if nat_eq s t then (record { place = p; prev = prev; events = es }) ∷ [] else []
heard_by s x = []

-- what a session heard, in order
abbrev pub heard : ℕ → List Item → List histories.Heard
heard s items = flat_map (heard_by s) items

-- each batch of the session up to a place stands above
abbrev pub AreHeardUpto : histories.History → ℕ → ℕ → List Item → Type 0
AreHeardUpto h s p above =
    AllByRecursion (λ e. e.place ≤ p → transcripts.StandsIn (item.Event s e.place e.prev e.events) above) (histories.events h s)

abbrev pub IsAfterEvents : histories.History → ℕ → List Item → Item → Type 0
IsAfterEvents h s above (item.Reply t n p r) = s ≡ t → AreHeardUpto h s p above
IsAfterEvents h s above (item.Read t n l p reach r) = s ≡ t → AreHeardUpto h s p above
IsAfterEvents h s above x = Unit {0}

-- what a session heard begins what it is told, and a response names no event that was not heard above it
pub record IsHeard (items : List Item) (h : histories.History) (s : ℕ) : Type 0 where
  pub in_order : claims_once.Begins (heard s items) (histories.events h s)
  pub before_responses : transcripts.EachItem (IsAfterEvents h s) items

-- which events a kind of watch holds
abbrev pub is_change : Event → Bool
is_change (event.Changed name key text) = true
is_change (event.Removed name key) = true
is_change (event.Set name text) = true
is_change (event.Cleared name) = true
is_change e = false

abbrev pub is_grant : Event → Bool
is_grant (event.Granted name fence) = true
is_grant (event.Elected name s term) = true
is_grant e = false

abbrev pub holds : WatchKind → Event → Bool
holds watch.All e = true
holds watch.Changes e = is_change e
holds watch.Grants e = is_grant e

-- what one watch shows of a batch, and what the watches of a client show, in the order in which they were set
abbrev pub watched_by : ℕ → ℕ → ℕ → List Event → WatchKind → List Item
watched_by c s p es kind = map (λ e. item.Watched c kind s p e) (filter (holds kind) es)

abbrev pub watched_of : List (ℕ × WatchKind) → ℕ → ℕ → ℕ → List Event → List Item
watched_of watches c s p es = flat_map (λ w. watched_by c s p es w.1) (filter (λ w. nat_eq c w.0) watches)

-- the clients of sessions that were opened, each session with its client
abbrev pub opened_by : Item → List (ℕ × ℕ)
opened_by (item.Opened s c) = (s, c) ∷ []
opened_by x = []

abbrev pub clients_of : ℕ → List (ℕ × ℕ) → List (ℕ × ℕ)
clients_of s opened = filter (λ o. nat_eq s o.0) opened

-- what the watches show directly below an item
abbrev pub watched_below : List (ℕ × WatchKind) → List (ℕ × ℕ) → Item → List Item
watched_below watches opened (item.Event s p prev es) = flat_map (λ o. watched_of watches o.1 s p es) (clients_of s opened)
watched_below watches opened x = []

abbrev pub is_watched : Item → Bool
is_watched (item.Watched c kind s p e) = true
is_watched x = false

-- the items with what the watches show directly below each
abbrev pub with_watched : List (ℕ × WatchKind) → List (ℕ × ℕ) → List Item → List Item
with_watched watches opened items = flat_map (λ x. x ∷ watched_below watches opened x) items

-- the watches after a step: one more, if the step sets one and was not skipped
abbrev pub watches_after : List (ℕ × WatchKind) → Step → List Item → List (ℕ × WatchKind)
watches_after watches (step.Watch c kind) items = if list_any item_tests.is_skip items then watches else watches ++ (c, kind) ∷ []
watches_after watches st items = watches

-- in each step the watched items are those that the watches show, each directly below its event
abbrev pub AreWatchedFrom : List (ℕ × WatchKind) → List (ℕ × ℕ) → List transcripts.Shown → Type 0
AreWatchedFrom watches opened [] = Unit {0}
AreWatchedFrom watches opened (m ∷ shown) =
    let known = opened ++ flat_map opened_by m.items in
    (m.items ≡ with_watched watches known (filter (λ x. not (is_watched x)) m.items))
    × AreWatchedFrom (watches_after watches m.step.step m.items) known shown

abbrev pub AreWatched : List transcripts.Shown → Type 0
AreWatched shown = AreWatchedFrom [] [] shown
