-- The sessions that have ended.
use Rattle.std.specs.Prelude.{ℕ}
use Rattle.spec_sessions.specs.Tables as tables
use Rattle.sess_table.specs.declared.table.Past.{Past as Ending}

abbrev pub past_of : ℕ × Ending → tables.PastSession
past_of e = record { session = e.0; place = e.1.place; how = e.1.how }
