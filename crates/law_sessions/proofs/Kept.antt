-- Stores that keep entries keep their acts.
use Rattle.std.proofs.Common.{◌≡◌, ℕ, List, Option, Some, None, refl, sym, ap, ◌∙◌}
use Rattle.ax_types.specs.Places as lists
use Rattle.ax_types.specs.declared.entries.Act.{Act}
use Rattle.ax_types.specs.declared.entries.Entry.{Entry}
use Rattle.ax_types.specs.declared.entries.Loaded.{Loaded}
use Rattle.spec_sessions.specs.Sessions as sessions
use Rattle.spec_run.specs.KeptStores as kept_stores
use Rattle.law_sessions.specs.Acts as laws
use Rattle.law_sessions.specs.Folds as folds
use Rattle.law_sessions.specs.Keeping as keeping
use Rattle.law_sessions.proofs.Runs.{whole, acts_split}

kept_act : (contents : List Loaded) (p : ℕ) (a : ℕ × Act) (x : Option Entry) → ((e : Entry) → x ≡ Some e → kept_stores.IsHeldByMost contents p e) → laws.IsActOf x a → kept_stores.IsKeptAt contents p a
kept_act contents p a None held i = absurd i
kept_act contents p a (Some e) held i = record { entry = e; held = held e refl; time = sym i.0; body = i.1 }

pub stores_keep_acts : keeping.StoresKeepActs
stores_keep_acts timeout es contents held p a i = kept_act contents p a (lists.at_place es p) (held p) ((whole timeout es).acts.each p a i)

begins_log : (timeout : ℕ) (es : List Entry) (x : Option kept_stores.FoundStore) → keeping.BeginsWith es x → kept_stores.BeginsLog (kept_stores.acts_of timeout es) timeout x
begins_log timeout es None b = b
begins_log timeout es (Some f) b =
    (kept_stores.acts_from (folds.sessions_after timeout es) b.0, ap (kept_stores.acts_of timeout) b.1 ∙ acts_split (sessions.new_sessions timeout) es b.0)

pub logs_begin_with_acts : keeping.LogsBeginWithActs
logs_begin_with_acts timeout es contents f choice most = begins_log timeout es (kept_stores.newest (kept_stores.chosen choice contents)) (f choice most)
