-- Calls and requests by their numbers, after each change.
use Rattle.std.proofs.Common.{◌≡◌, ℕ, suc, ◌<◌, ◌≤◌, Bool, true, false, List, [], ◌∷◌, ◌++◌, Some, refl, sym, ◌∙◌, arith, map}
use Rattle.std.specs.Prelude.{if◌then◌else◌, nat_eq}
use Rattle.ax_types.specs.declared.sessions.Got.{Got}
use Rattle.spec_sequencer.specs.Sequencers as sequencers
use Rattle.spec_client.specs.Clients as clients
use Rattle.spec_client.specs.Receipts as receipts
use Rattle.cli_sequencer.specs.Numbers as numbers
use Rattle.cli_session.specs.GivingOut as giving
use Rattle.cli_session.specs.Numbered as numbered

-- every number is below one above the last call
pub AreNumbered-below : (low : ℕ) (us : List sequencers.Unanswered) (rs : List clients.Request) (high : ℕ) → numbered.AreNumbered low us rs high → numbers.AreBelow (suc high) us
AreNumbered-below low [] [] high is = tt
AreNumbered-below low [] (r ∷ rs) high is = absurd is
AreNumbered-below low (u ∷ us) [] high is = absurd is
AreNumbered-below low (u ∷ us) (r ∷ rs) high is = (let within : u.number ≤ high = AreNumbered-within u.number us rs high is.3 in omega arith, AreNumbered-below u.number us rs high is.3)
  where
    AreNumbered-within : (low : ℕ) (us : List sequencers.Unanswered) (rs : List clients.Request) (high : ℕ) → numbered.AreNumbered low us rs high → low ≤ high
    AreNumbered-within low [] [] high is = is
    AreNumbered-within low [] (r ∷ rs) high is = absurd is
    AreNumbered-within low (u ∷ us) [] high is = absurd is
    AreNumbered-within low (u ∷ us) (r ∷ rs) high is = (let within : u.number ≤ high = AreNumbered-within u.number us rs high is.3 in let less : low < u.number = is.0 in omega arith)

-- the bound rises
pub AreNumbered-raised : (low : ℕ) (us : List sequencers.Unanswered) (rs : List clients.Request) (high top : ℕ) → high ≤ top → numbered.AreNumbered low us rs high → numbered.AreNumbered low us rs top
AreNumbered-raised low [] [] high top up is = omega arith
AreNumbered-raised low [] (r ∷ rs) high top up is = is
AreNumbered-raised low (u ∷ us) [] high top up is = is
AreNumbered-raised low (u ∷ us) (r ∷ rs) high top up is = (is.0, is.1, is.2, AreNumbered-raised u.number us rs high top up is.3)

-- a new call with its request
pub AreNumbered-push : (low : ℕ) (us : List sequencers.Unanswered) (rs : List clients.Request) (high : ℕ) (u : sequencers.Unanswered) (r : clients.Request)
    → u.number ≡ suc high → r.number ≡ suc high → giving.is_query_call r.call ≡ sequencers.is_query u
    → numbered.AreNumbered low us rs high → numbered.AreNumbered low (us ++ u ∷ []) (rs ++ r ∷ []) (suc high)
AreNumbered-push low [] [] high u r un rn kind is =
    (omega arith, rn ∙ sym un, kind, omega arith)
AreNumbered-push low [] (s ∷ rs) high u r un rn kind is = absurd is
AreNumbered-push low (v ∷ us) [] high u r un rn kind is = absurd is
AreNumbered-push low (v ∷ us) (s ∷ rs) high u r un rn kind is = (is.0, is.1, is.2, AreNumbered-push v.number us rs high u r un rn kind is.3)

-- an answer changes no number and no kind
get_answer-number : (n : ℕ) (g : Got) (u : sequencers.Unanswered) → (sequencers.get_answer n g u).number ≡ u.number
get_answer-number n g u = by_test (nat_eq u.number n)
  where
    by_test : (b : Bool) → (let v : sequencers.Unanswered = if b then record u { got = Some (sequencers.first_got u.got g) } else u in v.number) ≡ u.number
    by_test true = refl
    by_test false = refl

get_answer-kind : (n : ℕ) (g : Got) (u : sequencers.Unanswered) → sequencers.is_query (sequencers.get_answer n g u) ≡ sequencers.is_query u
get_answer-kind n g u = by_test (nat_eq u.number n)
  where
    by_test : (b : Bool) → (let v : sequencers.Unanswered = if b then record u { got = Some (sequencers.first_got u.got g) } else u in sequencers.is_query v) ≡ sequencers.is_query u
    by_test true = refl
    by_test false = refl

pub AreNumbered-answered : (low : ℕ) (us : List sequencers.Unanswered) (rs : List clients.Request) (high n : ℕ) (g : Got) → numbered.AreNumbered low us rs high
    → numbered.AreNumbered low (map (sequencers.get_answer n g) us) rs high
AreNumbered-answered low [] [] high n g is = is
AreNumbered-answered low [] (r ∷ rs) high n g is = is
AreNumbered-answered low (u ∷ us) [] high n g is = is
AreNumbered-answered low (u ∷ us) (r ∷ rs) high n g is =
    rw (get_answer-number n g u, get_answer-kind n g u) (is.0, is.1, is.2, AreNumbered-answered u.number us rs high n g is.3)

-- what becomes of requests at the end is what becomes of their calls
pub outcomes_at_end : (session low : ℕ) (us : List sequencers.Unanswered) (rs : List clients.Request) (high : ℕ) → numbered.AreNumbered low us rs high
    → map (giving.item_at_end session) rs ≡ map (receipts.outcome_at_end session) us
outcomes_at_end session low [] [] high is = refl
outcomes_at_end session low [] (r ∷ rs) high is = absurd is
outcomes_at_end session low (u ∷ us) [] high is = absurd is
outcomes_at_end session low (u ∷ us) (r ∷ rs) high is =
    rw (is.1, is.2, outcomes_at_end session u.number us rs high is.3) refl

-- every number is below that of the next call
pub calls_below : (c : clients.Client) → numbered.IsSound c → numbers.AreBelow (suc c.calls) c.sequencer.calls
calls_below c sound = AreNumbered-below 0 c.sequencer.calls c.requests c.calls sound.numbered

-- what is shown at the end is what becomes of the calls
pub outcomes_of : (c : clients.Client) (session : ℕ) → numbered.IsSound c → map (giving.item_at_end session) c.requests ≡ map (receipts.outcome_at_end session) c.sequencer.calls
outcomes_of c session sound = outcomes_at_end session 0 c.sequencer.calls c.requests c.calls sound.numbered
