-- What stores keep, by the entries in them.
use Rattle.std.specs.Prelude.{◌≡◌, ℕ, Bool, IsTrue, Option, Some, None, List, length}
use Rattle.ax_types.specs.Places as lists
use Rattle.ax_types.specs.declared.entries.Entry.{Entry}
use Rattle.ax_types.specs.declared.entries.Loaded.{Loaded}
use Rattle.spec_raft.specs.Majority as majorities
use Rattle.spec_claims.specs.Once as once
use Rattle.spec_run.specs.KeptStores as kept_stores

-- stores of which more than half hold each entry keep its acts
abbrev pub StoresKeepActs : Type 0
StoresKeepActs = (timeout : ℕ) (es : List Entry) (contents : List Loaded) → ((p : ℕ) (e : Entry) → lists.at_place es p ≡ Some e → kept_stores.IsHeldByMost contents p e)
    → kept_stores.IsKept contents (kept_stores.acts_of timeout es)

-- the log of a store that was found begins with some entries
abbrev pub BeginsWith : List Entry → Option kept_stores.FoundStore → Type 0
BeginsWith es None = ⊥
BeginsWith es (Some f) = once.Begins es f.content.log

-- where the newest log of any more than half of the stores begins with some entries, it begins with their acts
abbrev pub LogsBeginWithActs : Type 0
LogsBeginWithActs = (timeout : ℕ) (es : List Entry) (contents : List Loaded)
    → ((choice : ℕ → Bool) → IsTrue (majorities.is_most (majorities.count choice (majorities.cluster_of (length contents))) (length contents)) → BeginsWith es (kept_stores.newest (kept_stores.chosen choice contents)))
    → kept_stores.IsLeft contents (kept_stores.acts_of timeout es) timeout
