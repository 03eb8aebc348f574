-- How operations, queries, replies and events are spelled.
use Rattle.std.specs.Prelude.{ℕ, List, [], ◌∷◌, ◌++◌, length}
use Rattle.std.specs.List.{flat_map}
use Rattle.ax_types.specs.declared.ops.MapOp.{MapOp}
use Rattle.ax_types.specs.declared.ops.MapOp.TheVariants as map_op
use Rattle.ax_types.specs.declared.ops.ValueOp.{ValueOp}
use Rattle.ax_types.specs.declared.ops.ValueOp.TheVariants as value_op
use Rattle.ax_types.specs.declared.ops.LongOp.{LongOp}
use Rattle.ax_types.specs.declared.ops.LongOp.TheVariants as long_op
use Rattle.ax_types.specs.declared.ops.LockOp.{LockOp}
use Rattle.ax_types.specs.declared.ops.LockOp.TheVariants as lock_op
use Rattle.ax_types.specs.declared.ops.GroupOp.{GroupOp}
use Rattle.ax_types.specs.declared.ops.GroupOp.TheVariants as group_op
use Rattle.ax_types.specs.declared.ops.SetOp.{SetOp}
use Rattle.ax_types.specs.declared.ops.SetOp.TheVariants as set_op
use Rattle.ax_types.specs.declared.ops.QueueOp.{QueueOp}
use Rattle.ax_types.specs.declared.ops.QueueOp.TheVariants as queue_op
use Rattle.ax_types.specs.declared.ops.MultimapOp.{MultimapOp}
use Rattle.ax_types.specs.declared.ops.MultimapOp.TheVariants as multimap_op
use Rattle.ax_types.specs.declared.ops.TopicOp.{TopicOp}
use Rattle.ax_types.specs.declared.ops.TopicOp.TheVariants as topic_op
use Rattle.ax_types.specs.declared.ops.Op.{Op}
use Rattle.ax_types.specs.declared.ops.Op.TheVariants as op
use Rattle.ax_types.specs.declared.ops.MapQuery.{MapQuery}
use Rattle.ax_types.specs.declared.ops.MapQuery.TheVariants as map_query
use Rattle.ax_types.specs.declared.ops.ValueQuery.TheVariants as value_query
use Rattle.ax_types.specs.declared.ops.LongQuery.TheVariants as long_query
use Rattle.ax_types.specs.declared.ops.LockQuery.{LockQuery}
use Rattle.ax_types.specs.declared.ops.LockQuery.TheVariants as lock_query
use Rattle.ax_types.specs.declared.ops.GroupQuery.{GroupQuery}
use Rattle.ax_types.specs.declared.ops.GroupQuery.TheVariants as group_query
use Rattle.ax_types.specs.declared.ops.SetQuery.{SetQuery}
use Rattle.ax_types.specs.declared.ops.SetQuery.TheVariants as set_query
use Rattle.ax_types.specs.declared.ops.QueueQuery.{QueueQuery}
use Rattle.ax_types.specs.declared.ops.QueueQuery.TheVariants as queue_query
use Rattle.ax_types.specs.declared.ops.MultimapQuery.{MultimapQuery}
use Rattle.ax_types.specs.declared.ops.MultimapQuery.TheVariants as multimap_query
use Rattle.ax_types.specs.declared.ops.TopicQuery.TheVariants as topic_query
use Rattle.ax_types.specs.declared.ops.Query.{Query}
use Rattle.ax_types.specs.declared.ops.Query.TheVariants as query
use Rattle.ax_types.specs.declared.replies.Reply.{Reply}
use Rattle.ax_types.specs.declared.replies.Reply.TheVariants as reply
use Rattle.ax_types.specs.declared.replies.Event.{Event}
use Rattle.ax_types.specs.declared.replies.Event.TheVariants as event
use Rattle.spec_wire.specs.NumberBytes as number_bytes

abbrev pub map_op_bytes : MapOp → List ℕ
map_op_bytes (map_op.Put k v) = 1 ∷ number_bytes.counted_bytes k ++ number_bytes.counted_bytes v
map_op_bytes (map_op.PutIfAbsent k v) = 2 ∷ number_bytes.counted_bytes k ++ number_bytes.counted_bytes v
map_op_bytes (map_op.Replace k v) = 3 ∷ number_bytes.counted_bytes k ++ number_bytes.counted_bytes v
map_op_bytes (map_op.Remove k) = 4 ∷ number_bytes.counted_bytes k
map_op_bytes map_op.Clear = 5 ∷ []
map_op_bytes map_op.Listen = 6 ∷ []
map_op_bytes (map_op.PutFor k v life) = 7 ∷ number_bytes.counted_bytes k ++ number_bytes.counted_bytes v ++ number_bytes.u64_bytes life

abbrev pub value_op_bytes : ValueOp → List ℕ
value_op_bytes (value_op.Set v) = 1 ∷ number_bytes.counted_bytes v
value_op_bytes (value_op.Cas e v) = 2 ∷ number_bytes.counted_bytes e ++ number_bytes.counted_bytes v
value_op_bytes value_op.Clear = 3 ∷ []
value_op_bytes value_op.Listen = 4 ∷ []

abbrev pub long_op_bytes : LongOp → List ℕ
long_op_bytes (long_op.Add d) = 1 ∷ number_bytes.i64_bytes d
long_op_bytes (long_op.GetAndAdd d) = 2 ∷ number_bytes.i64_bytes d
long_op_bytes (long_op.Set n) = 3 ∷ number_bytes.i64_bytes n
long_op_bytes (long_op.Cas e n) = 4 ∷ number_bytes.i64_bytes e ++ number_bytes.i64_bytes n

abbrev pub lock_op_bytes : LockOp → List ℕ
lock_op_bytes lock_op.Lock = 1 ∷ []
lock_op_bytes lock_op.TryLock = 2 ∷ []
lock_op_bytes lock_op.Unlock = 3 ∷ []
lock_op_bytes lock_op.Cancel = 4 ∷ []

abbrev pub group_op_bytes : GroupOp → List ℕ
group_op_bytes group_op.Join = 1 ∷ []
group_op_bytes group_op.Leave = 2 ∷ []
group_op_bytes group_op.Listen = 3 ∷ []

abbrev pub set_op_bytes : SetOp → List ℕ
set_op_bytes (set_op.Add v) = 1 ∷ number_bytes.counted_bytes v
set_op_bytes (set_op.Remove v) = 2 ∷ number_bytes.counted_bytes v
set_op_bytes set_op.Clear = 3 ∷ []

abbrev pub queue_op_bytes : QueueOp → List ℕ
queue_op_bytes (queue_op.Offer v) = 1 ∷ number_bytes.counted_bytes v
queue_op_bytes queue_op.Poll = 2 ∷ []

abbrev pub multimap_op_bytes : MultimapOp → List ℕ
multimap_op_bytes (multimap_op.Put k v) = 1 ∷ number_bytes.counted_bytes k ++ number_bytes.counted_bytes v
multimap_op_bytes (multimap_op.Remove k v) = 2 ∷ number_bytes.counted_bytes k ++ number_bytes.counted_bytes v
multimap_op_bytes (multimap_op.RemoveAll k) = 3 ∷ number_bytes.counted_bytes k

abbrev pub topic_op_bytes : TopicOp → List ℕ
topic_op_bytes topic_op.Subscribe = 1 ∷ []
topic_op_bytes topic_op.Unsubscribe = 2 ∷ []
topic_op_bytes (topic_op.Publish v) = 3 ∷ number_bytes.counted_bytes v

-- an operation: its kind, its number and its operands
abbrev pub op_bytes : Op → List ℕ
op_bytes (op.Map o) = 1 ∷ map_op_bytes o
op_bytes (op.Value o) = 2 ∷ value_op_bytes o
op_bytes (op.Long o) = 3 ∷ long_op_bytes o
op_bytes (op.Lock o) = 4 ∷ lock_op_bytes o
op_bytes (op.Group o) = 5 ∷ group_op_bytes o
op_bytes (op.Set o) = 6 ∷ set_op_bytes o
op_bytes (op.Queue o) = 7 ∷ queue_op_bytes o
op_bytes (op.Multimap o) = 8 ∷ multimap_op_bytes o
op_bytes (op.Topic o) = 9 ∷ topic_op_bytes o

abbrev pub map_query_bytes : MapQuery → List ℕ
map_query_bytes (map_query.Get k) = 1 ∷ number_bytes.counted_bytes k
map_query_bytes (map_query.Contains k) = 2 ∷ number_bytes.counted_bytes k
map_query_bytes map_query.Size = 3 ∷ []

abbrev pub lock_query_bytes : LockQuery → List ℕ
lock_query_bytes lock_query.Holder = 1 ∷ []
lock_query_bytes lock_query.Waiting = 2 ∷ []

abbrev pub group_query_bytes : GroupQuery → List ℕ
group_query_bytes group_query.Members = 1 ∷ []
group_query_bytes group_query.Leader = 2 ∷ []

abbrev pub set_query_bytes : SetQuery → List ℕ
set_query_bytes (set_query.Contains v) = 1 ∷ number_bytes.counted_bytes v
set_query_bytes set_query.Size = 2 ∷ []

abbrev pub queue_query_bytes : QueueQuery → List ℕ
queue_query_bytes queue_query.Peek = 1 ∷ []
queue_query_bytes queue_query.Size = 2 ∷ []

abbrev pub multimap_query_bytes : MultimapQuery → List ℕ
multimap_query_bytes (multimap_query.Contains k v) = 1 ∷ number_bytes.counted_bytes k ++ number_bytes.counted_bytes v
multimap_query_bytes (multimap_query.Count k) = 2 ∷ number_bytes.counted_bytes k
multimap_query_bytes multimap_query.Size = 3 ∷ []

-- a query: its kind, its number and its operands
abbrev pub query_bytes : Query → List ℕ
query_bytes (query.Map q) = 1 ∷ map_query_bytes q
query_bytes (query.Value value_query.Get) = 2 ∷ 1 ∷ []
query_bytes (query.Long long_query.Get) = 3 ∷ 1 ∷ []
query_bytes (query.Lock q) = 4 ∷ lock_query_bytes q
query_bytes (query.Group q) = 5 ∷ group_query_bytes q
query_bytes (query.Set q) = 6 ∷ set_query_bytes q
query_bytes (query.Queue q) = 7 ∷ queue_query_bytes q
query_bytes (query.Multimap q) = 8 ∷ multimap_query_bytes q
query_bytes (query.Topic topic_query.Subscribers) = 9 ∷ 1 ∷ []

-- a count of four bytes, and the sessions
abbrev pub members_bytes : List ℕ → List ℕ
members_bytes sessions = number_bytes.u32_bytes (length sessions) ++ flat_map number_bytes.u64_bytes sessions

-- a reply: its number and its fields
abbrev pub reply_bytes : Reply → List ℕ
reply_bytes reply.Done = 0 ∷ []
reply_bytes reply.Nothing = 1 ∷ []
reply_bytes (reply.Found v) = 2 ∷ number_bytes.counted_bytes v
reply_bytes reply.Yes = 3 ∷ []
reply_bytes reply.No = 4 ∷ []
reply_bytes (reply.Number n) = 5 ∷ number_bytes.i64_bytes n
reply_bytes (reply.Fence place) = 6 ∷ number_bytes.u64_bytes place
reply_bytes (reply.Holder session fence) = 7 ∷ number_bytes.u64_bytes session ++ number_bytes.u64_bytes fence
reply_bytes (reply.Leader session term) = 8 ∷ number_bytes.u64_bytes session ++ number_bytes.u64_bytes term
reply_bytes (reply.Members sessions) = 9 ∷ members_bytes sessions
reply_bytes reply.Busy = 10 ∷ []
reply_bytes reply.Already = 11 ∷ []
reply_bytes reply.NotHolder = 12 ∷ []
reply_bytes reply.NotMember = 13 ∷ []
reply_bytes reply.Overflow = 14 ∷ []
reply_bytes reply.Full = 15 ∷ []
reply_bytes reply.WrongKind = 16 ∷ []

-- an event: its number, the name of its resource, and its other fields
abbrev pub event_bytes : Event → List ℕ
event_bytes (event.Changed name k v) = 1 ∷ number_bytes.counted_bytes name ++ number_bytes.counted_bytes k ++ number_bytes.counted_bytes v
event_bytes (event.Removed name k) = 2 ∷ number_bytes.counted_bytes name ++ number_bytes.counted_bytes k
event_bytes (event.Set name v) = 3 ∷ number_bytes.counted_bytes name ++ number_bytes.counted_bytes v
event_bytes (event.Cleared name) = 4 ∷ number_bytes.counted_bytes name
event_bytes (event.Granted name fence) = 5 ∷ number_bytes.counted_bytes name ++ number_bytes.u64_bytes fence
event_bytes (event.Joined name session) = 6 ∷ number_bytes.counted_bytes name ++ number_bytes.u64_bytes session
event_bytes (event.Left name session) = 7 ∷ number_bytes.counted_bytes name ++ number_bytes.u64_bytes session
event_bytes (event.Elected name session term) = 8 ∷ number_bytes.counted_bytes name ++ number_bytes.u64_bytes session ++ number_bytes.u64_bytes term
event_bytes (event.Message name v) = 9 ∷ number_bytes.counted_bytes name ++ number_bytes.counted_bytes v
