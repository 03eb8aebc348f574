-- The acts of entries are a lawful history, entry by entry.
use Rattle.std.proofs.Common.{◌≡◌, ℕ, suc, Option, Some, None, sym, arith}
use Rattle.ax_types.specs.Places as lists
use Rattle.ax_types.specs.declared.entries.Act.{Act}
use Rattle.ax_types.specs.declared.entries.Entry.{Entry}
use Rattle.spec_raft.specs.Log as logs
use Rattle.spec_run.specs.KeptStores as kept_stores
use Rattle.law_told.proofs.Lists.{at_some}
use Rattle.law_sessions.specs.Acts as laws
use Rattle.law_sessions.specs.Folds as folds
use Rattle.law_sessions.proofs.Runs.{whole, acts_split}
use Rattle.spec_sessions.specs.Sessions as sessions

time_of : (x : Option Entry) (a : ℕ × Act) → laws.IsActOf x a → logs.entry_time x ≡ a.0
time_of None a i = absurd i
time_of (Some e) a i = sym i.0

pub acts_are_lawful : laws.ActsAreLawful
acts_are_lawful timeout es rises =
    let r = (whole timeout es).acts in
    record {
      times = λ p a b i j.
          let x = time_of (lists.at_place es p) a (r.each p a i) in
          let y = time_of (lists.at_place es (suc p)) b (r.each (suc p) b j) in
          let w = at_some (kept_stores.acts_of timeout es) (suc p) b j in
          let z = r.long in
          let u = rises p (suc p) (omega arith) (omega (arith, w, z)) in
          omega (arith, x, y, u);
      live = r.of_live;
      due = r.due;
    }

pub acts_are_of_entries : laws.ActsAreOfEntries
acts_are_of_entries timeout es = let r = (whole timeout es).acts in record { long = r.long; each = r.each }

pub acts_grow : laws.ActsGrow
acts_grow timeout es more = (kept_stores.acts_from (folds.sessions_after timeout es) more, acts_split (sessions.new_sessions timeout) es more)
