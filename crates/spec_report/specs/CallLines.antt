-- How commands and queries are written. A script and a report write them alike.
use Rattle.std.specs.Prelude.{ℕ, List, ◌∷◌, ◌++◌, codes}
use Rattle.std.specs.Fmt.{decimal, signed_decimal}
use Rattle.ax_types.specs.declared.ops.Level.{Level}
use Rattle.ax_types.specs.declared.ops.Level.TheVariants as level
use Rattle.ax_types.specs.declared.ops.MapOp.{MapOp}
use Rattle.ax_types.specs.declared.ops.MapOp.TheVariants as map_op
use Rattle.ax_types.specs.declared.ops.ValueOp.{ValueOp}
use Rattle.ax_types.specs.declared.ops.ValueOp.TheVariants as value_op
use Rattle.ax_types.specs.declared.ops.LongOp.{LongOp}
use Rattle.ax_types.specs.declared.ops.LongOp.TheVariants as long_op
use Rattle.ax_types.specs.declared.ops.LockOp.{LockOp}
use Rattle.ax_types.specs.declared.ops.LockOp.TheVariants as lock_op
use Rattle.ax_types.specs.declared.ops.GroupOp.{GroupOp}
use Rattle.ax_types.specs.declared.ops.GroupOp.TheVariants as group_op
use Rattle.ax_types.specs.declared.ops.SetOp.{SetOp}
use Rattle.ax_types.specs.declared.ops.SetOp.TheVariants as set_op
use Rattle.ax_types.specs.declared.ops.QueueOp.{QueueOp}
use Rattle.ax_types.specs.declared.ops.QueueOp.TheVariants as queue_op
use Rattle.ax_types.specs.declared.ops.MultimapOp.{MultimapOp}
use Rattle.ax_types.specs.declared.ops.MultimapOp.TheVariants as multimap_op
use Rattle.ax_types.specs.declared.ops.TopicOp.{TopicOp}
use Rattle.ax_types.specs.declared.ops.TopicOp.TheVariants as topic_op
use Rattle.ax_types.specs.declared.ops.Op.{Op}
use Rattle.ax_types.specs.declared.ops.Op.TheVariants as op
use Rattle.ax_types.specs.declared.ops.MapQuery.{MapQuery}
use Rattle.ax_types.specs.declared.ops.MapQuery.TheVariants as map_query
use Rattle.ax_types.specs.declared.ops.ValueQuery.{ValueQuery}
use Rattle.ax_types.specs.declared.ops.ValueQuery.TheVariants as value_query
use Rattle.ax_types.specs.declared.ops.LongQuery.{LongQuery}
use Rattle.ax_types.specs.declared.ops.LongQuery.TheVariants as long_query
use Rattle.ax_types.specs.declared.ops.LockQuery.{LockQuery}
use Rattle.ax_types.specs.declared.ops.LockQuery.TheVariants as lock_query
use Rattle.ax_types.specs.declared.ops.GroupQuery.{GroupQuery}
use Rattle.ax_types.specs.declared.ops.GroupQuery.TheVariants as group_query
use Rattle.ax_types.specs.declared.ops.SetQuery.{SetQuery}
use Rattle.ax_types.specs.declared.ops.SetQuery.TheVariants as set_query
use Rattle.ax_types.specs.declared.ops.QueueQuery.{QueueQuery}
use Rattle.ax_types.specs.declared.ops.QueueQuery.TheVariants as queue_query
use Rattle.ax_types.specs.declared.ops.MultimapQuery.{MultimapQuery}
use Rattle.ax_types.specs.declared.ops.MultimapQuery.TheVariants as multimap_query
use Rattle.ax_types.specs.declared.ops.TopicQuery.{TopicQuery}
use Rattle.ax_types.specs.declared.ops.TopicQuery.TheVariants as topic_query
use Rattle.ax_types.specs.declared.ops.Query.{Query}
use Rattle.ax_types.specs.declared.ops.Query.TheVariants as query
use Rattle.ax_types.specs.declared.ops.WindowCall.{WindowCall}
use Rattle.ax_types.specs.declared.ops.WindowCall.TheVariants as call

-- `seq` or `lin`
abbrev pub level_text : Level → List ℕ
level_text level.Seq = codes "seq"
level_text level.Lin = codes "lin"

-- a word, and an operand behind a blank
abbrev pub one_operand : List ℕ → List ℕ → List ℕ
one_operand word x = word ++ (32 ∷ x)

-- a word, and two operands, each behind a blank
abbrev pub two_operands : List ℕ → List ℕ → List ℕ → List ℕ
two_operands word x y = word ++ (32 ∷ (x ++ (32 ∷ y)))

-- a word, and three operands, each behind a blank
abbrev pub three_operands : List ℕ → List ℕ → List ℕ → List ℕ → List ℕ
three_operands word x y z = word ++ (32 ∷ (x ++ (32 ∷ (y ++ (32 ∷ z)))))

abbrev pub map_op_text : MapOp → List ℕ
map_op_text (map_op.Put key text) = two_operands (codes "put") key text
map_op_text (map_op.PutIfAbsent key text) = two_operands (codes "put_if_absent") key text
map_op_text (map_op.Replace key text) = two_operands (codes "replace") key text
map_op_text (map_op.Remove key) = one_operand (codes "remove") key
map_op_text map_op.Clear = codes "clear"
map_op_text map_op.Listen = codes "listen"
map_op_text (map_op.PutFor key text life) = three_operands (codes "put_for") key text (decimal life)

abbrev pub value_op_text : ValueOp → List ℕ
value_op_text (value_op.Set text) = one_operand (codes "set") text
value_op_text (value_op.Cas expected text) = two_operands (codes "cas") expected text
value_op_text value_op.Clear = codes "clear"
value_op_text value_op.Listen = codes "listen"

abbrev pub long_op_text : LongOp → List ℕ
long_op_text (long_op.Add delta) = one_operand (codes "add") (signed_decimal delta)
long_op_text (long_op.GetAndAdd delta) = one_operand (codes "get_and_add") (signed_decimal delta)
long_op_text (long_op.Set number) = one_operand (codes "set") (signed_decimal number)
long_op_text (long_op.Cas expected number) = two_operands (codes "cas") (signed_decimal expected) (signed_decimal number)

abbrev pub lock_op_text : LockOp → List ℕ
lock_op_text lock_op.Lock = codes "lock"
lock_op_text lock_op.TryLock = codes "try_lock"
lock_op_text lock_op.Unlock = codes "unlock"
lock_op_text lock_op.Cancel = codes "cancel"

abbrev pub group_op_text : GroupOp → List ℕ
group_op_text group_op.Join = codes "join"
group_op_text group_op.Leave = codes "leave"
group_op_text group_op.Listen = codes "listen"

abbrev pub set_op_text : SetOp → List ℕ
set_op_text (set_op.Add text) = one_operand (codes "add") text
set_op_text (set_op.Remove text) = one_operand (codes "remove") text
set_op_text set_op.Clear = codes "clear"

abbrev pub queue_op_text : QueueOp → List ℕ
queue_op_text (queue_op.Offer text) = one_operand (codes "offer") text
queue_op_text queue_op.Poll = codes "poll"

abbrev pub multimap_op_text : MultimapOp → List ℕ
multimap_op_text (multimap_op.Put key text) = two_operands (codes "put") key text
multimap_op_text (multimap_op.Remove key text) = two_operands (codes "remove") key text
multimap_op_text (multimap_op.RemoveAll key) = one_operand (codes "remove_all") key

abbrev pub topic_op_text : TopicOp → List ℕ
topic_op_text topic_op.Subscribe = codes "subscribe"
topic_op_text topic_op.Unsubscribe = codes "unsubscribe"
topic_op_text (topic_op.Publish text) = one_operand (codes "publish") text

-- `KIND NAME OPERATION`
abbrev pub op_text : List ℕ → Op → List ℕ
op_text name (op.Map o) = two_operands (codes "map") name (map_op_text o)
op_text name (op.Value o) = two_operands (codes "value") name (value_op_text o)
op_text name (op.Long o) = two_operands (codes "long") name (long_op_text o)
op_text name (op.Lock o) = two_operands (codes "lock") name (lock_op_text o)
op_text name (op.Group o) = two_operands (codes "group") name (group_op_text o)
op_text name (op.Set o) = two_operands (codes "set") name (set_op_text o)
op_text name (op.Queue o) = two_operands (codes "queue") name (queue_op_text o)
op_text name (op.Multimap o) = two_operands (codes "multimap") name (multimap_op_text o)
op_text name (op.Topic o) = two_operands (codes "topic") name (topic_op_text o)

abbrev pub map_query_text : MapQuery → List ℕ
map_query_text (map_query.Get key) = one_operand (codes "get") key
map_query_text (map_query.Contains key) = one_operand (codes "contains") key
map_query_text map_query.Size = codes "size"

abbrev pub value_query_text : ValueQuery → List ℕ
value_query_text value_query.Get = codes "get"

abbrev pub long_query_text : LongQuery → List ℕ
long_query_text long_query.Get = codes "get"

abbrev pub lock_query_text : LockQuery → List ℕ
lock_query_text lock_query.Holder = codes "holder"
lock_query_text lock_query.Waiting = codes "waiting"

abbrev pub group_query_text : GroupQuery → List ℕ
group_query_text group_query.Members = codes "members"
group_query_text group_query.Leader = codes "leader"

abbrev pub set_query_text : SetQuery → List ℕ
set_query_text (set_query.Contains text) = one_operand (codes "contains") text
set_query_text set_query.Size = codes "size"

abbrev pub queue_query_text : QueueQuery → List ℕ
queue_query_text queue_query.Peek = codes "peek"
queue_query_text queue_query.Size = codes "size"

abbrev pub multimap_query_text : MultimapQuery → List ℕ
multimap_query_text (multimap_query.Contains key text) = two_operands (codes "contains") key text
multimap_query_text (multimap_query.Count key) = one_operand (codes "count") key
multimap_query_text multimap_query.Size = codes "size"

abbrev pub topic_query_text : TopicQuery → List ℕ
topic_query_text topic_query.Subscribers = codes "subscribers"

-- `KIND NAME QUERY`
abbrev pub query_text : List ℕ → Query → List ℕ
query_text name (query.Map q) = two_operands (codes "map") name (map_query_text q)
query_text name (query.Value q) = two_operands (codes "value") name (value_query_text q)
query_text name (query.Long q) = two_operands (codes "long") name (long_query_text q)
query_text name (query.Lock q) = two_operands (codes "lock") name (lock_query_text q)
query_text name (query.Group q) = two_operands (codes "group") name (group_query_text q)
query_text name (query.Set q) = two_operands (codes "set") name (set_query_text q)
query_text name (query.Queue q) = two_operands (codes "queue") name (queue_query_text q)
query_text name (query.Multimap q) = two_operands (codes "multimap") name (multimap_query_text q)
query_text name (query.Topic q) = two_operands (codes "topic") name (topic_query_text q)

-- `call KIND NAME OPERATION` or `query LEVEL KIND NAME QUERY`
abbrev pub call_text : WindowCall → List ℕ
call_text (call.Command name o) = one_operand (codes "call") (op_text name o)
call_text (call.Query l name q) = two_operands (codes "query") (level_text l) (query_text name q)
