-- The book's two indexes: of the next end of a life by time, and of the names of a session.
use Rattle.std.specs.Prelude.{◌≡◌, ℕ, Bool, true, false, ◌||◌, List, [], Option, Some, None}
use Rattle.std.specs.Ordering.{nat_cmp}
use Rattle.std.specs.BTreeMap.{is_at}
use Rattle.std.specs.Map.{lookup}
use Rattle.ax_types.specs.declared.ops.Op.{Op}
use Rattle.ax_types.specs.declared.ops.Op.TheVariants as op
use Rattle.ax_types.specs.declared.ops.MapOp.TheVariants as map_op
use Rattle.ax_types.specs.declared.ops.ValueOp.TheVariants as value_op
use Rattle.ax_types.specs.declared.ops.LockOp.TheVariants as lock_op
use Rattle.ax_types.specs.declared.ops.GroupOp.TheVariants as group_op
use Rattle.ax_types.specs.declared.ops.TopicOp.TheVariants as topic_op
use Rattle.spec_book.specs.Dict as dicts
use Rattle.spec_book.specs.Resources as resources
use Rattle.spec_book.specs.Owners as owners
use Rattle.spec_book.specs.Book as books
use Rattle.res_deadlines.specs.Deadlines as deadlines
use Rattle.res_map.specs.Lives as lives

-- the first log time at which the life of an entry of the resource ends, where it has one
abbrev pub next_end : resources.Resource → Option ℕ
next_end (resources.AMap s) = lives.first_end s.entries
next_end r = None

-- whether a session listens to the resource or has a part in it, so that the session's end may change it
abbrev pub knows : resources.Resource → ℕ → Bool
knows (resources.AMap s) session = dicts.has_session s.listeners session
knows (resources.AValue s) session = dicts.has_session s.listeners session
knows (resources.ALock s) session = owners.has_part s session
knows (resources.AGroup s) session = dicts.has_session s.members session || dicts.has_session s.listeners session
knows (resources.ATopic s) session = dicts.has_session s session
knows r session = false

-- whether an operation may make its session one that the resource knows
abbrev pub registers : Op → Bool
registers (op.Map map_op.Listen) = true
registers (op.Value value_op.Listen) = true
registers (op.Lock lock_op.Lock) = true
registers (op.Lock lock_op.TryLock) = true
registers (op.Group group_op.Join) = true
registers (op.Group group_op.Listen) = true
registers (op.Topic topic_op.Subscribe) = true
registers o = false

-- the index has the next end of each resource, with its name
abbrev pub HasEnds : books.Book → List (ℕ × List ℕ) → Type 0
HasEnds book ends =
    (name : List ℕ) (r : resources.Resource) (time : ℕ) → dicts.found book name ≡ Some r → next_end r ≡ Some time → deadlines.has_deadline dicts.bytes_cmp ends time name ≡ true

-- the names of a session, where it has any
abbrev pub names_of : Option (List (List ℕ)) → List (List ℕ)
names_of None = []
names_of (Some names) = names

abbrev pub session_names : List (ℕ × List (List ℕ)) → ℕ → List (List ℕ)
session_names index session = names_of (lookup (is_at (nat_cmp session)) index)

-- the index has, for each session, the name of each resource that knows it
abbrev pub HasNames : books.Book → List (ℕ × List (List ℕ)) → Type 0
HasNames book index =
    (name : List ℕ) (r : resources.Resource) (session : ℕ) → dicts.found book name ≡ Some r → knows r session ≡ true
    → dicts.has_text (session_names index session) name ≡ true
