-- The book: every resource by its name. `turn` is one command, `pass` lets lives end, `acted` is one act of a history.
use Rattle.std.specs.Prelude.{ℕ, List, [], ◌∷◌, ◌++◌, Option, Some, None, if◌then◌else◌, map}
use Rattle.ax_types.specs.declared.ops.Op.{Op}
use Rattle.ax_types.specs.declared.ops.Op.TheVariants as op
use Rattle.ax_types.specs.declared.ops.Query.{Query}
use Rattle.ax_types.specs.declared.ops.Query.TheVariants as query
use Rattle.ax_types.specs.declared.ops.Kind.{Kind}
use Rattle.ax_types.specs.declared.ops.Kind.TheVariants as kind
use Rattle.ax_types.specs.declared.entries.Act.{Act}
use Rattle.ax_types.specs.declared.entries.Act.TheVariants as act
use Rattle.ax_types.specs.declared.replies.Reply.{Reply}
use Rattle.ax_types.specs.declared.replies.Reply.TheVariants as reply
use Rattle.ax_types.specs.declared.replies.Event.{Event}
use Rattle.spec_book.specs.Limits as limits
use Rattle.spec_book.specs.Dict as dicts
use Rattle.spec_book.specs.Resources as book_resources
use Rattle.spec_book.specs.Scalars as scalars
use Rattle.spec_book.specs.MapTurn as map_turns
use Rattle.spec_book.specs.Owners as owners
use Rattle.spec_book.specs.Collections as collections

-- the resources by name, in ascending order of name
abbrev pub Book : Type 0
Book = List (List ℕ × book_resources.Resource)

-- the kind that an operation or a query is of
abbrev pub op_kind : Op → Kind
op_kind (op.Map o) = kind.Map
op_kind (op.Value o) = kind.Value
op_kind (op.Long o) = kind.Long
op_kind (op.Lock o) = kind.Lock
op_kind (op.Group o) = kind.Group
op_kind (op.Set o) = kind.Set
op_kind (op.Queue o) = kind.Queue
op_kind (op.Multimap o) = kind.Multimap
op_kind (op.Topic o) = kind.Topic

abbrev pub query_kind : Query → Kind
query_kind (query.Map q) = kind.Map
query_kind (query.Value q) = kind.Value
query_kind (query.Long q) = kind.Long
query_kind (query.Lock q) = kind.Lock
query_kind (query.Group q) = kind.Group
query_kind (query.Set q) = kind.Set
query_kind (query.Queue q) = kind.Queue
query_kind (query.Multimap q) = kind.Multimap
query_kind (query.Topic q) = kind.Topic

-- what an act at the state of one kind gives, as one at the resource
abbrev pub at_kind : {S : Type 0} → (S → book_resources.Resource) → book_resources.Acted S → book_resources.Acted book_resources.Resource
at_kind kind a = record { state = kind a.state; turn = a.turn }

-- one operation at one resource; one of another kind changes nothing
abbrev pub resource_act : List ℕ → ℕ → ℕ → ℕ → Op → book_resources.Resource → book_resources.Acted book_resources.Resource
resource_act name place time session (op.Map o) (book_resources.AMap s) = at_kind book_resources.AMap (map_turns.map_act name time session o s)
resource_act name place time session (op.Value o) (book_resources.AValue s) = at_kind book_resources.AValue (scalars.value_act name session o s)
resource_act name place time session (op.Long o) (book_resources.ALong x) = at_kind book_resources.ALong (scalars.long_act o x)
resource_act name place time session (op.Lock o) (book_resources.ALock s) = at_kind book_resources.ALock (owners.lock_act name place session o s)
resource_act name place time session (op.Group o) (book_resources.AGroup s) = at_kind book_resources.AGroup (owners.group_act name place session o s)
resource_act name place time session (op.Set o) (book_resources.ASet s) = at_kind book_resources.ASet (collections.set_act o s)
resource_act name place time session (op.Queue o) (book_resources.AQueue s) = at_kind book_resources.AQueue (collections.queue_act o s)
resource_act name place time session (op.Multimap o) (book_resources.AMultimap s) = at_kind book_resources.AMultimap (collections.multimap_act o s)
resource_act name place time session (op.Topic o) (book_resources.ATopic s) = at_kind book_resources.ATopic (collections.topic_act name session o s)
resource_act name place time session o r = book_resources.replied r reply.WrongKind

-- the book with what an act made of the resource at a name
abbrev pub at_name : Book → List ℕ → book_resources.Acted book_resources.Resource → book_resources.Acted Book
at_name book name a = record { state = dicts.with_entry book name a.state; turn = a.turn }

-- `turn`, where this stands at the name
abbrev pub turn_at : Book → ℕ → ℕ → ℕ → List ℕ → Op → Option book_resources.Resource → book_resources.Acted Book
turn_at book place time session name o None =
    if limits.is_full book then book_resources.replied book reply.Full
    else at_name book name (resource_act name place time session o (book_resources.new_resource (op_kind o)))
turn_at book place time session name o (Some r) = at_name book name (resource_act name place time session o r)

-- a command of a session at a name: the first command that uses a name makes a resource of its kind
abbrev pub turn : Book → ℕ → ℕ → ℕ → List ℕ → Op → book_resources.Acted Book
turn book place time session name o = turn_at book place time session name o (dicts.found book name)

-- one query at one resource
abbrev pub resource_ask : Query → book_resources.Resource → Reply
resource_ask (query.Map q) (book_resources.AMap s) = map_turns.map_ask q s
resource_ask (query.Value q) (book_resources.AValue s) = scalars.value_ask q s
resource_ask (query.Long q) (book_resources.ALong x) = scalars.long_ask q x
resource_ask (query.Lock q) (book_resources.ALock s) = owners.lock_ask q s
resource_ask (query.Group q) (book_resources.AGroup s) = owners.group_ask q s
resource_ask (query.Set q) (book_resources.ASet s) = collections.set_ask q s
resource_ask (query.Queue q) (book_resources.AQueue s) = collections.queue_ask q s
resource_ask (query.Multimap q) (book_resources.AMultimap s) = collections.multimap_ask q s
resource_ask (query.Topic q) (book_resources.ATopic s) = collections.topic_ask q s
resource_ask q r = reply.WrongKind

abbrev pub ask_at : Query → Option book_resources.Resource → Reply
ask_at q None = resource_ask q (book_resources.new_resource (query_kind q))
ask_at q (Some r) = resource_ask q r

-- a query at a name, which changes nothing: an unused name answers as a new resource of the query's kind
abbrev pub ask : Book → List ℕ → Query → Reply
ask book name q = ask_at q (dicts.found book name)

-- a session that ended listens no more
abbrev pub unlistened : ℕ → book_resources.Resource → book_resources.Resource
unlistened session (book_resources.AMap s) = book_resources.AMap (map_turns.map_unlistened session s)
unlistened session (book_resources.AValue s) = book_resources.AValue (scalars.value_unlistened session s)
unlistened session (book_resources.AGroup s) = book_resources.AGroup (owners.group_unlistened session s)
unlistened session (book_resources.ATopic s) = book_resources.ATopic (dicts.without_session s session)
unlistened session r = r

abbrev pub all_unlistened : ℕ → Book → Book
all_unlistened session book = map (λ e. (e.0, unlistened session e.1)) book

-- the entries of maps whose life has ended at a log time go, in ascending order of name and then of key
abbrev pub resource_pass : ℕ → book_resources.Resource → book_resources.Resource
resource_pass time (book_resources.AMap s) = book_resources.AMap (map_turns.map_pass time s)
resource_pass time r = r

abbrev pub resource_passed : List ℕ → ℕ → book_resources.Resource → List (ℕ × Event)
resource_passed name time (book_resources.AMap s) = map_turns.map_passed name time s
resource_passed name time r = []

abbrev pub pass : ℕ → Book → Book
pass time book = map (λ e. (e.0, resource_pass time e.1)) book

abbrev pub passed : ℕ → Book → List (ℕ × Event)
passed time [] = []
passed time (e ∷ book) = resource_passed e.0 time e.1 ++ passed time book

-- what the end of a session does to one resource after it listens no more: a lock's queue, a grant, a group's members
abbrev pub resource_end : List ℕ → ℕ → ℕ → book_resources.Resource → book_resources.Acted book_resources.Resource
resource_end name place session (book_resources.ALock s) = at_kind book_resources.ALock (owners.lock_end name place session s)
resource_end name place session (book_resources.AGroup s) = at_kind book_resources.AGroup (owners.group_end name place session s)
resource_end name place session r = book_resources.replied r reply.Done

-- the resources left by a session, in ascending order of name
abbrev pub left_by : ℕ → ℕ → Book → Book
left_by place session book = map (λ e. (e.0, (resource_end e.0 place session e.1).state)) book

abbrev pub left_told : ℕ → ℕ → Book → List (ℕ × Event)
left_told place session [] = []
left_told place session (e ∷ book) = (resource_end e.0 place session e.1).turn.told ++ left_told place session book

-- the end of a session: it listens no more, then lives end, then it leaves queues, locks and groups
abbrev pub ended : Book → ℕ → ℕ → ℕ → book_resources.Acted Book
ended book place time session =
    let quiet = all_unlistened session book in
    let lasting = pass time quiet in
    book_resources.told_too (left_by place session lasting) reply.Done (passed time quiet ++ left_told place session lasting)

-- told before, and then what the act gives
abbrev pub after_told : List (ℕ × Event) → book_resources.Acted Book → book_resources.Acted Book
after_told before a = record { state = a.state; turn = record { reply = a.turn.reply; told = before ++ a.turn.told } }

-- one act of a history, at its place and log time
abbrev pub acted : Book → ℕ → ℕ → Act → book_resources.Acted Book
acted book place time (act.Do session name o) = after_told (passed time book) (turn (pass time book) place time session name o)
acted book place time (act.Close session) = ended book place time session
acted book place time (act.Expire session) = ended book place time session
acted book place time a = book_resources.told_too (pass time book) reply.Done (passed time book)
