-- What one act changes in the index of names.
use Rattle.std.specs.Prelude.{◌≡◌, ℕ, true, List}
use Rattle.ax_types.specs.declared.ops.Op.{Op}
use Rattle.spec_book.specs.Dict as dicts
use Rattle.res_registry.specs.Indexes as indexes

-- the index of names after an operation of a session at a name: it has the name where the operation registers, and all that it had
pub record NotesName (old new : List (ℕ × List (List ℕ))) (session : ℕ) (name : List ℕ) (o : Op) : Type 0 where
  pub keeps : (s : ℕ) (q : List ℕ) → dicts.has_text (indexes.session_names old s) q ≡ true → dicts.has_text (indexes.session_names new s) q ≡ true
  pub has : indexes.registers o ≡ true → dicts.has_text (indexes.session_names new session) name ≡ true
