-- How operations, queries and calls are read, from words.
use Rattle.std.specs.Prelude.{ℕ, ℤ, List, [], ◌∷◌, Option, Some, None, option_map, option_and_then, if◌then◌else◌, codes, bytes_eq}
use Rattle.ax_types.specs.declared.ops.MapOp.{MapOp}
use Rattle.ax_types.specs.declared.ops.MapOp.TheVariants as map_op
use Rattle.ax_types.specs.declared.ops.ValueOp.{ValueOp}
use Rattle.ax_types.specs.declared.ops.ValueOp.TheVariants as value_op
use Rattle.ax_types.specs.declared.ops.LongOp.{LongOp}
use Rattle.ax_types.specs.declared.ops.LongOp.TheVariants as long_op
use Rattle.ax_types.specs.declared.ops.LockOp.{LockOp}
use Rattle.ax_types.specs.declared.ops.LockOp.TheVariants as lock_op
use Rattle.ax_types.specs.declared.ops.GroupOp.{GroupOp}
use Rattle.ax_types.specs.declared.ops.GroupOp.TheVariants as group_op
use Rattle.ax_types.specs.declared.ops.SetOp.{SetOp}
use Rattle.ax_types.specs.declared.ops.SetOp.TheVariants as set_op
use Rattle.ax_types.specs.declared.ops.QueueOp.{QueueOp}
use Rattle.ax_types.specs.declared.ops.QueueOp.TheVariants as queue_op
use Rattle.ax_types.specs.declared.ops.MultimapOp.{MultimapOp}
use Rattle.ax_types.specs.declared.ops.MultimapOp.TheVariants as multimap_op
use Rattle.ax_types.specs.declared.ops.TopicOp.{TopicOp}
use Rattle.ax_types.specs.declared.ops.TopicOp.TheVariants as topic_op
use Rattle.ax_types.specs.declared.ops.Op.{Op}
use Rattle.ax_types.specs.declared.ops.Op.TheVariants as op
use Rattle.ax_types.specs.declared.ops.MapQuery.{MapQuery}
use Rattle.ax_types.specs.declared.ops.MapQuery.TheVariants as map_query
use Rattle.ax_types.specs.declared.ops.ValueQuery.{ValueQuery}
use Rattle.ax_types.specs.declared.ops.ValueQuery.TheVariants as value_query
use Rattle.ax_types.specs.declared.ops.LongQuery.{LongQuery}
use Rattle.ax_types.specs.declared.ops.LongQuery.TheVariants as long_query
use Rattle.ax_types.specs.declared.ops.LockQuery.{LockQuery}
use Rattle.ax_types.specs.declared.ops.LockQuery.TheVariants as lock_query
use Rattle.ax_types.specs.declared.ops.GroupQuery.{GroupQuery}
use Rattle.ax_types.specs.declared.ops.GroupQuery.TheVariants as group_query
use Rattle.ax_types.specs.declared.ops.SetQuery.{SetQuery}
use Rattle.ax_types.specs.declared.ops.SetQuery.TheVariants as set_query
use Rattle.ax_types.specs.declared.ops.QueueQuery.{QueueQuery}
use Rattle.ax_types.specs.declared.ops.QueueQuery.TheVariants as queue_query
use Rattle.ax_types.specs.declared.ops.MultimapQuery.{MultimapQuery}
use Rattle.ax_types.specs.declared.ops.MultimapQuery.TheVariants as multimap_query
use Rattle.ax_types.specs.declared.ops.TopicQuery.{TopicQuery}
use Rattle.ax_types.specs.declared.ops.TopicQuery.TheVariants as topic_query
use Rattle.ax_types.specs.declared.ops.Query.{Query}
use Rattle.ax_types.specs.declared.ops.Query.TheVariants as query
use Rattle.ax_types.specs.declared.ops.Level.{Level}
use Rattle.ax_types.specs.declared.ops.Level.TheVariants.{Seq, Lin}
use Rattle.ax_types.specs.declared.ops.WindowCall.{WindowCall}
use Rattle.ax_types.specs.declared.ops.WindowCall.TheVariants as call
use Rattle.spec_text.specs.Words as text_words

-- ---- operands

-- what is asked without operands
abbrev pub without_operands : {A : Type 0} → A → List text_words.Word → Option A
without_operands x [] = Some x
without_operands x (w ∷ ws) = None

abbrev pub only_key : List text_words.Word → Option text_words.Word
only_key (k ∷ []) = text_words.name_of k
only_key _ = None

abbrev pub only_text : List text_words.Word → Option text_words.Word
only_text (v ∷ []) = text_words.text_of v
only_text _ = None

abbrev pub only_signed : List text_words.Word → Option ℤ
only_signed (n ∷ []) = text_words.signed_of n
only_signed _ = None

abbrev pub key_and_text : List text_words.Word → Option (text_words.Word × text_words.Word)
key_and_text (k ∷ v ∷ []) = text_words.both (λ key text. (key, text)) (text_words.name_of k) (text_words.text_of v)
key_and_text _ = None

abbrev pub two_texts : List text_words.Word → Option (text_words.Word × text_words.Word)
two_texts (e ∷ v ∷ []) = text_words.both (λ expected text. (expected, text)) (text_words.text_of e) (text_words.text_of v)
two_texts _ = None

abbrev pub two_signed : List text_words.Word → Option (ℤ × ℤ)
two_signed (e ∷ n ∷ []) = text_words.both (λ expected number. (expected, number)) (text_words.signed_of e) (text_words.signed_of n)
two_signed _ = None

-- an entry's key, its text and its life
abbrev pub lasting_entry : List text_words.Word → Option (text_words.Word × text_words.Word × ℕ)
lasting_entry (k ∷ v ∷ l ∷ []) =
    text_words.both (λ entry life. (entry.0, entry.1, life)) (key_and_text (k ∷ v ∷ [])) (text_words.life_of l)
lasting_entry _ = None

-- ---- operations, by their word and their operands

abbrev pub map_op_of : text_words.Word → List text_words.Word → Option MapOp
map_op_of w ws =
    if bytes_eq w (codes "put") then option_map (λ p. map_op.Put p.0 p.1) (key_and_text ws)
    else if bytes_eq w (codes "put_if_absent") then option_map (λ p. map_op.PutIfAbsent p.0 p.1) (key_and_text ws)
    else if bytes_eq w (codes "replace") then option_map (λ p. map_op.Replace p.0 p.1) (key_and_text ws)
    else if bytes_eq w (codes "remove") then option_map map_op.Remove (only_key ws)
    else if bytes_eq w (codes "clear") then without_operands map_op.Clear ws
    else if bytes_eq w (codes "listen") then without_operands map_op.Listen ws
    else if bytes_eq w (codes "put_for") then option_map (λ p. map_op.PutFor p.0 p.1 p.2) (lasting_entry ws)
    else None

abbrev pub value_op_of : text_words.Word → List text_words.Word → Option ValueOp
value_op_of w ws =
    if bytes_eq w (codes "set") then option_map value_op.Set (only_text ws)
    else if bytes_eq w (codes "cas") then option_map (λ p. value_op.Cas p.0 p.1) (two_texts ws)
    else if bytes_eq w (codes "clear") then without_operands value_op.Clear ws
    else if bytes_eq w (codes "listen") then without_operands value_op.Listen ws
    else None

abbrev pub long_op_of : text_words.Word → List text_words.Word → Option LongOp
long_op_of w ws =
    if bytes_eq w (codes "add") then option_map long_op.Add (only_signed ws)
    else if bytes_eq w (codes "get_and_add") then option_map long_op.GetAndAdd (only_signed ws)
    else if bytes_eq w (codes "set") then option_map long_op.Set (only_signed ws)
    else if bytes_eq w (codes "cas") then option_map (λ p. long_op.Cas p.0 p.1) (two_signed ws)
    else None

abbrev pub lock_op_of : text_words.Word → List text_words.Word → Option LockOp
lock_op_of w ws =
    if bytes_eq w (codes "lock") then without_operands lock_op.Lock ws
    else if bytes_eq w (codes "try_lock") then without_operands lock_op.TryLock ws
    else if bytes_eq w (codes "unlock") then without_operands lock_op.Unlock ws
    else if bytes_eq w (codes "cancel") then without_operands lock_op.Cancel ws
    else None

abbrev pub group_op_of : text_words.Word → List text_words.Word → Option GroupOp
group_op_of w ws =
    if bytes_eq w (codes "join") then without_operands group_op.Join ws
    else if bytes_eq w (codes "leave") then without_operands group_op.Leave ws
    else if bytes_eq w (codes "listen") then without_operands group_op.Listen ws
    else None

abbrev pub set_op_of : text_words.Word → List text_words.Word → Option SetOp
set_op_of w ws =
    if bytes_eq w (codes "add") then option_map set_op.Add (only_text ws)
    else if bytes_eq w (codes "remove") then option_map set_op.Remove (only_text ws)
    else if bytes_eq w (codes "clear") then without_operands set_op.Clear ws
    else None

abbrev pub queue_op_of : text_words.Word → List text_words.Word → Option QueueOp
queue_op_of w ws =
    if bytes_eq w (codes "offer") then option_map queue_op.Offer (only_text ws)
    else if bytes_eq w (codes "poll") then without_operands queue_op.Poll ws
    else None

abbrev pub multimap_op_of : text_words.Word → List text_words.Word → Option MultimapOp
multimap_op_of w ws =
    if bytes_eq w (codes "put") then option_map (λ p. multimap_op.Put p.0 p.1) (key_and_text ws)
    else if bytes_eq w (codes "remove") then option_map (λ p. multimap_op.Remove p.0 p.1) (key_and_text ws)
    else if bytes_eq w (codes "remove_all") then option_map multimap_op.RemoveAll (only_key ws)
    else None

abbrev pub topic_op_of : text_words.Word → List text_words.Word → Option TopicOp
topic_op_of w ws =
    if bytes_eq w (codes "subscribe") then without_operands topic_op.Subscribe ws
    else if bytes_eq w (codes "unsubscribe") then without_operands topic_op.Unsubscribe ws
    else if bytes_eq w (codes "publish") then option_map topic_op.Publish (only_text ws)
    else None

-- by the words of its kind and of the operation, and its operands
abbrev pub op_of : text_words.Word → text_words.Word → List text_words.Word → Option Op
op_of kind w ws =
    if bytes_eq kind (codes "map") then option_map op.Map (map_op_of w ws)
    else if bytes_eq kind (codes "value") then option_map op.Value (value_op_of w ws)
    else if bytes_eq kind (codes "long") then option_map op.Long (long_op_of w ws)
    else if bytes_eq kind (codes "lock") then option_map op.Lock (lock_op_of w ws)
    else if bytes_eq kind (codes "group") then option_map op.Group (group_op_of w ws)
    else if bytes_eq kind (codes "set") then option_map op.Set (set_op_of w ws)
    else if bytes_eq kind (codes "queue") then option_map op.Queue (queue_op_of w ws)
    else if bytes_eq kind (codes "multimap") then option_map op.Multimap (multimap_op_of w ws)
    else if bytes_eq kind (codes "topic") then option_map op.Topic (topic_op_of w ws)
    else None

-- ---- queries, by their word and their operands

abbrev pub map_query_of : text_words.Word → List text_words.Word → Option MapQuery
map_query_of w ws =
    if bytes_eq w (codes "get") then option_map map_query.Get (only_key ws)
    else if bytes_eq w (codes "contains") then option_map map_query.Contains (only_key ws)
    else if bytes_eq w (codes "size") then without_operands map_query.Size ws
    else None

abbrev pub value_query_of : text_words.Word → List text_words.Word → Option ValueQuery
value_query_of w ws =
    if bytes_eq w (codes "get") then without_operands value_query.Get ws
    else None

abbrev pub long_query_of : text_words.Word → List text_words.Word → Option LongQuery
long_query_of w ws =
    if bytes_eq w (codes "get") then without_operands long_query.Get ws
    else None

abbrev pub lock_query_of : text_words.Word → List text_words.Word → Option LockQuery
lock_query_of w ws =
    if bytes_eq w (codes "holder") then without_operands lock_query.Holder ws
    else if bytes_eq w (codes "waiting") then without_operands lock_query.Waiting ws
    else None

abbrev pub group_query_of : text_words.Word → List text_words.Word → Option GroupQuery
group_query_of w ws =
    if bytes_eq w (codes "members") then without_operands group_query.Members ws
    else if bytes_eq w (codes "leader") then without_operands group_query.Leader ws
    else None

abbrev pub set_query_of : text_words.Word → List text_words.Word → Option SetQuery
set_query_of w ws =
    if bytes_eq w (codes "contains") then option_map set_query.Contains (only_text ws)
    else if bytes_eq w (codes "size") then without_operands set_query.Size ws
    else None

abbrev pub queue_query_of : text_words.Word → List text_words.Word → Option QueueQuery
queue_query_of w ws =
    if bytes_eq w (codes "peek") then without_operands queue_query.Peek ws
    else if bytes_eq w (codes "size") then without_operands queue_query.Size ws
    else None

abbrev pub multimap_query_of : text_words.Word → List text_words.Word → Option MultimapQuery
multimap_query_of w ws =
    if bytes_eq w (codes "contains") then option_map (λ p. multimap_query.Contains p.0 p.1) (key_and_text ws)
    else if bytes_eq w (codes "count") then option_map multimap_query.Count (only_key ws)
    else if bytes_eq w (codes "size") then without_operands multimap_query.Size ws
    else None

abbrev pub topic_query_of : text_words.Word → List text_words.Word → Option TopicQuery
topic_query_of w ws =
    if bytes_eq w (codes "subscribers") then without_operands topic_query.Subscribers ws
    else None

-- by the words of its kind and of the query, and its operands
abbrev pub query_of : text_words.Word → text_words.Word → List text_words.Word → Option Query
query_of kind w ws =
    if bytes_eq kind (codes "map") then option_map query.Map (map_query_of w ws)
    else if bytes_eq kind (codes "value") then option_map query.Value (value_query_of w ws)
    else if bytes_eq kind (codes "long") then option_map query.Long (long_query_of w ws)
    else if bytes_eq kind (codes "lock") then option_map query.Lock (lock_query_of w ws)
    else if bytes_eq kind (codes "group") then option_map query.Group (group_query_of w ws)
    else if bytes_eq kind (codes "set") then option_map query.Set (set_query_of w ws)
    else if bytes_eq kind (codes "queue") then option_map query.Queue (queue_query_of w ws)
    else if bytes_eq kind (codes "multimap") then option_map query.Multimap (multimap_query_of w ws)
    else if bytes_eq kind (codes "topic") then option_map query.Topic (topic_query_of w ws)
    else None

-- ---- calls

abbrev pub level_of : text_words.Word → Option Level
level_of w =
    if bytes_eq w (codes "seq") then Some Seq
    else if bytes_eq w (codes "lin") then Some Lin
    else None

-- `KIND NAME OPERATION`
abbrev pub command_call_of : List text_words.Word → Option WindowCall
command_call_of (kind ∷ name ∷ w ∷ ws) = text_words.both call.Command (text_words.name_of name) (op_of kind w ws)
command_call_of _ = None

-- `KIND NAME QUERY`, at this level
abbrev pub query_call_of : Level → List text_words.Word → Option WindowCall
query_call_of level (kind ∷ name ∷ w ∷ ws) = text_words.both (call.Query level) (text_words.name_of name) (query_of kind w ws)
query_call_of level _ = None

-- `LEVEL KIND NAME QUERY`
abbrev pub leveled_call_of : List text_words.Word → Option WindowCall
leveled_call_of (l ∷ ws) = option_and_then (λ level. query_call_of level ws) (level_of l)
leveled_call_of [] = None

-- `call KIND NAME OPERATION` or `query LEVEL KIND NAME QUERY`
abbrev pub call_of : List text_words.Word → Option WindowCall
call_of [] = None
call_of (w ∷ ws) =
    if bytes_eq w (codes "call") then command_call_of ws
    else if bytes_eq w (codes "query") then leveled_call_of ws
    else None
