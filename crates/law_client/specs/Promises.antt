-- What the items of a client promise, whatever happens at it, as long as what reaches it is true.
use Rattle.std.specs.Prelude.{ℕ, ◌≡◌, ◌≤◌, length, List, [], ◌∷◌, map}
use Rattle.ax_types.specs.Places as lists
use Rattle.ax_types.specs.declared.items.Item.{Item}
use Rattle.ax_types.specs.declared.items.Item.TheVariants as item
use Rattle.spec_book.specs.History as histories
use Rattle.spec_claims.specs.Transcript as transcripts
use Rattle.spec_claims.specs.Right as claims_right
use Rattle.spec_claims.specs.FreshReads as fresh_reads
use Rattle.spec_claims.specs.Heard as claims_heard
use Rattle.spec_claims.specs.OutcomeOrder as outcome_order
use Rattle.spec_claims.specs.Payloads as payloads
use Rattle.law_client.specs.Inputs as inputs
use Rattle.law_client.specs.Standing as standing

-- a read's reach is that of its arrival at a leader, and of a sequential read there is none
abbrev pub NamesReach : List Item → Item → Type 0
NamesReach above (item.Read s n l p reach r) = standing.IsReachedBy l above s n p reach
NamesReach above x = Unit {0}

-- a read's place is one of the history
abbrev pub IsReadWithin : histories.History → Item → Type 0
IsReadWithin h (item.Read s n l p reach r) = p ≤ length h
IsReadWithin h x = Unit {0}

-- what is claimed of one item of a client and the items above it
pub record IsClaimed (h : histories.History) (above : List Item) (x : Item) : Type 0 where
  pub outcome : (s : ℕ) → outcome_order.IsOutcome s above x
  pub in_session : (s : ℕ) → outcome_order.IsInSession h s above x
  pub growing : (s : ℕ) → fresh_reads.IsGrowing h s above x
  pub after_events : (s : ℕ) → claims_heard.IsAfterEvents h s above x
  pub right : claims_right.IsRight h above x
  pub reached : NamesReach above x
  pub within : IsReadWithin h x

-- what holds of the items above and the items of each step of the client
abbrev pub EachStep : (List Item → List Item → Type 0) → inputs.Seat → List inputs.Happening → Type 0
EachStep P seat [] = Unit {0}
EachStep P seat (inputs.Does i ∷ xs) = P seat.above (inputs.client_stepped seat.client i).out.items × EachStep P (inputs.seat_after seat (inputs.Does i)) xs
EachStep P seat (inputs.Sees x ∷ xs) = EachStep P (inputs.seat_after seat (inputs.Sees x)) xs

-- for every history and client, and whatever happens at it that may happen
abbrev pub AlwaysAtClient : (histories.History → ℕ → List inputs.Happening → Type 0) → Type 0
AlwaysAtClient P = (h : histories.History) (me : ℕ) (xs : List inputs.Happening) → inputs.AllMayHappen h (inputs.new_seat me) xs → P h me xs

-- a claim of each item of the client
abbrev pub OfEach : (List Item → Item → Type 0) → ℕ → List inputs.Happening → Type 0
OfEach P me xs = EachStep (transcripts.EachBelow P) (inputs.new_seat me) xs

abbrev pub OutcomesFollowCalls : Type 0
OutcomesFollowCalls = AlwaysAtClient (λ h me xs. (s : ℕ) → OfEach (outcome_order.IsOutcome s) me xs)

abbrev pub ItemsStandInSession : Type 0
ItemsStandInSession = AlwaysAtClient (λ h me xs. (s : ℕ) → OfEach (outcome_order.IsInSession h s) me xs)

abbrev pub ReadsNeverGoBack : Type 0
ReadsNeverGoBack = AlwaysAtClient (λ h me xs. (s : ℕ) → OfEach (fresh_reads.IsGrowing h s) me xs)

abbrev pub EventsPrecedeResponses : Type 0
EventsPrecedeResponses = AlwaysAtClient (λ h me xs. (s : ℕ) → OfEach (claims_heard.IsAfterEvents h s) me xs)

abbrev pub ClientItemsAreRight : Type 0
ClientItemsAreRight = AlwaysAtClient (λ h me xs. OfEach (claims_right.IsRight h) me xs)

abbrev pub ReadsNameTheirReach : Type 0
ReadsNameTheirReach = AlwaysAtClient (λ h me xs. OfEach NamesReach me xs)

abbrev pub EachStepEndsAsTold : Type 0
EachStepEndsAsTold = AlwaysAtClient (λ h me xs. EachStep outcome_order.EndsStep (inputs.new_seat me) xs)

-- what a session of the client heard, in order, begins what the history tells it
abbrev pub EventsComeInOrder : Type 0
EventsComeInOrder = AlwaysAtClient (λ h me xs. (s opening : ℕ) → payloads.IsOpeningOf me opening (lists.at_place h s)
    → standing.HasHeard h (inputs.seat_after_all (inputs.new_seat me) xs).above s)

-- the items of each of a client's inputs
abbrev pub items_of_each : inputs.Seat → List inputs.Input → List (List Item)
items_of_each seat [] = []
items_of_each seat (i ∷ is) = (inputs.client_stepped seat.client i).out.items ∷ items_of_each (inputs.seat_after seat (inputs.Does i)) is

-- a client alone: its steps end sessions as the claim of ends says
abbrev pub SessionsEndAsTold : Type 0
SessionsEndAsTold = (h : histories.History) (me : ℕ) (is : List inputs.Input) (shown : List transcripts.Shown)
    → inputs.AllMayHappen h (inputs.new_seat me) (map (λ i. inputs.Does i) is)
    → map (λ m. m.items) shown ≡ items_of_each (inputs.new_seat me) is
    → outcome_order.AreEnds shown

-- each step keeps how the client stands, and its items are as claimed
pub record StepKeeps (h : histories.History) (seat : inputs.Seat) (x : inputs.Happening) : Type 0 where
  pub stands : standing.Stands h (inputs.seat_after seat x)
  pub claimed : EachStep (transcripts.EachBelow (IsClaimed h)) seat (x ∷ [])
  pub ends : EachStep outcome_order.EndsStep seat (x ∷ [])
  pub me : (inputs.seat_after seat x).client.me ≡ seat.client.me

abbrev pub EachStepKeeps : Type 0
EachStepKeeps = (h : histories.History) (seat : inputs.Seat) (x : inputs.Happening) → standing.Stands h seat → inputs.MayHappen h seat x → StepKeeps h seat x

abbrev pub NewClientStands : Type 0
NewClientStands = (h : histories.History) (me : ℕ) → standing.Stands h (inputs.new_seat me)
