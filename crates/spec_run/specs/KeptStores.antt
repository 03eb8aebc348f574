-- What a run leaves in the stores: a majority keeps the history, and so does the newest log of each majority.
use Rattle.std.specs.Prelude.{ℕ, suc, ◌≡◌, ◌≤◌, Bool, ◌&&◌, ◌||◌, nat_eq, nat_lt, Option, Some, None, IsTrue, List, [], ◌∷◌, length, filter, if◌then◌else◌}
use Rattle.ax_types.specs.Places as lists
use Rattle.ax_types.specs.declared.entries.Act.{Act}
use Rattle.ax_types.specs.declared.entries.Act.TheVariants as act
use Rattle.ax_types.specs.declared.entries.Body.{Body}
use Rattle.ax_types.specs.declared.entries.Body.TheVariants as body
use Rattle.ax_types.specs.declared.entries.Entry.{Entry}
use Rattle.ax_types.specs.declared.entries.Loaded.{Loaded}
use Rattle.spec_raft.specs.Majority as majorities
use Rattle.spec_raft.specs.Log as logs
use Rattle.spec_sessions.specs.Sessions as sessions
use Rattle.spec_claims.specs.Once as once
use Rattle.spec_world.specs.Worlds as worlds

-- a store holds what its host keeps, and of a failed add some first entries
pub record IsContent (h : worlds.Host) (content : Loaded) : Type 0 where
  pub added : ℕ
  pub within : added ≤ length h.at_stake
  pub same : content ≡ worlds.content_with h added

abbrev pub AreContents : List worlds.Host → List Loaded → Type 0
AreContents [] [] = Unit {0}
AreContents [] (c ∷ contents) = ⊥
AreContents (h ∷ hosts) [] = ⊥
AreContents (h ∷ hosts) (c ∷ contents) = IsContent h c × AreContents hosts contents

-- an entry stands at a place of a store
abbrev pub StandsInStore : Entry → ℕ → Option Loaded → Type 0
StandsInStore e p None = ⊥
StandsInStore e p (Some content) = lists.at_place content.log p ≡ Some e

-- an entry stands at a place in more than half of the stores
pub record IsHeldByMost (contents : List Loaded) (p : ℕ) (e : Entry) : Type 0 where
  pub holders : ℕ → Bool
  pub most : IsTrue (majorities.is_most (majorities.count holders (majorities.cluster_of (length contents))) (length contents))
  pub stands : (k : ℕ) → IsTrue (holders k) → StandsInStore e p (lists.at_place contents k)

-- the entry of an act that changes something asks for it; an act that changes nothing may be of any entry
abbrev pub IsBodyOf : Act → Body → Type 0
IsBodyOf act.Nothing b = Unit {0}
IsBodyOf (act.Open client opening) b = b ≡ body.Register client opening
IsBodyOf (act.Keep session) b = IsKeepOf b
  where
    IsKeepOf : Body → Type 0
    IsKeepOf (body.Keep c s answered heard) = s ≡ session
    IsKeepOf _ = ⊥
IsBodyOf (act.Do session name o) b = IsCommandOf b
  where
    IsCommandOf : Body → Type 0
    IsCommandOf (body.Command c s seq n x) = (s ≡ session) × (n ≡ name) × (x ≡ o)
    IsCommandOf _ = ⊥
IsBodyOf (act.Close session) b = IsCloseOf b
  where
    IsCloseOf : Body → Type 0
    IsCloseOf (body.Close c s) = s ≡ session
    IsCloseOf _ = ⊥
IsBodyOf (act.Expire session) b = b ≡ body.Expire session

pub record IsKeptAt (contents : List Loaded) (p : ℕ) (a : ℕ × Act) : Type 0 where
  pub entry : Entry
  pub held : IsHeldByMost contents p entry
  pub time : entry.time ≡ a.0
  pub body : IsBodyOf a.1 entry.body

-- more than half of the stores keep the entry of each place of the history
abbrev pub IsKept : List Loaded → List (ℕ × Act) → Type 0
IsKept contents history = (p : ℕ) (a : ℕ × Act) → lists.at_place history p ≡ Some a → IsKeptAt contents p a

-- a store that was found, with its node
pub record FoundStore : Type 0 where
  pub node : ℕ
  pub content : Loaded

-- whether a store is newer than another: a greater last term, then a greater last place; of equal ones the first counts
abbrev pub is_newer : Loaded → Loaded → Bool
is_newer a b = nat_lt (logs.last_term b.log) (logs.last_term a.log) || (nat_eq (logs.last_term a.log) (logs.last_term b.log) && nat_lt (length b.log) (length a.log))

abbrev pub newest_from : FoundStore → List FoundStore → FoundStore
newest_from best [] = best
newest_from best (f ∷ found) = if is_newer f.content best.content then newest_from f found else newest_from best found

-- the newest of some stores in ascending order of node, if there is any
abbrev pub newest : List FoundStore → Option FoundStore
newest [] = None
newest (f ∷ found) = Some (newest_from f found)

-- the times and acts of a list of entries, from place 1 on
abbrev pub acts_from : sessions.Sessions → List Entry → List (ℕ × Act)
acts_from s [] = []
acts_from s (e ∷ es) = (e.time, (sessions.applied_of s (suc s.applied) e).act) ∷ acts_from (sessions.applying s (suc s.applied) e) es

abbrev pub acts_of : ℕ → List Entry → List (ℕ × Act)
acts_of timeout log = acts_from (sessions.new_sessions timeout) log

abbrev pub numbered_from : ℕ → List Loaded → List FoundStore
numbered_from k [] = []
numbered_from k (c ∷ contents) = record { node = k; content = c } ∷ numbered_from (suc k) contents

abbrev pub chosen : (ℕ → Bool) → List Loaded → List FoundStore
chosen choice contents = filter (λ f. choice f.node) (numbered_from 1 contents)

abbrev pub BeginsLog : List (ℕ × Act) → ℕ → Option FoundStore → Type 0
BeginsLog history timeout None = ⊥
BeginsLog history timeout (Some f) = once.Begins history (acts_of timeout f.content.log)

-- whichever more than half of the stores are left, the newest log among them begins with the history
abbrev pub IsLeft : List Loaded → List (ℕ × Act) → ℕ → Type 0
IsLeft contents history timeout = (choice : ℕ → Bool) → IsTrue (majorities.is_most (majorities.count choice (majorities.cluster_of (length contents))) (length contents)) → BeginsLog history timeout (newest (chosen choice contents))
