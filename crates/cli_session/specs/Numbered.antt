-- The calls that lack an outcome and their requests, by their numbers.
use Rattle.std.specs.Prelude.{◌≡◌, ℕ, ◌*◌, ◌<◌, ◌≤◌, ◌^◌, Bool, false, List, [], ◌∷◌}
use Rattle.spec_sequencer.specs.Sequencers as sequencers
use Rattle.spec_client.specs.Clients as clients
use Rattle.cli_session.specs.GivingOut as giving
use Rattle.cli_session.specs.CountedClients as counted

-- calls and requests have the same numbers and kinds; the numbers ascend, above the first bound and not above the second
abbrev pub AreNumbered : ℕ → List sequencers.Unanswered → List clients.Request → ℕ → Type 0
AreNumbered low [] [] high = low ≤ high
AreNumbered low [] (r ∷ rs) high = ⊥
AreNumbered low (u ∷ us) [] high = ⊥
AreNumbered low (u ∷ us) (r ∷ rs) high = (low < u.number) × (r.number ≡ u.number) × (giving.is_query_call r.call ≡ sequencers.is_query u) × AreNumbered u.number us rs high

-- what holds of a client between its calls
pub record IsSound (c : clients.Client) : Type 0 where
  pub last : c.sequencer.last ≡ c.commands
  pub numbered : AreNumbered 0 c.sequencer.calls c.requests c.calls

-- what holds of it by the number of calls that changed it
pub record IsCounted (c : clients.Client) (changes : ℕ) : Type 0 where
  pub sound : IsSound c
  pub calls : c.calls ≤ changes
  pub commands : c.commands ≤ changes

-- a client whose parts fit together, unless it is spent
pub record FitTogether (parts : counted.MovedClient) (changes : ℕ) (is_spent : Bool) : Type 0 where
  pub within : changes ≤ 2 ^ 32
  pub moves : parts.moves ≤ 2 * changes
  pub counted : is_spent ≡ false → IsCounted parts.client changes
