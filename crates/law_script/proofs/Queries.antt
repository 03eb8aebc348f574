-- A query is read from its words.
use Rattle.std.proofs.Common.{◌≡◌, ◌∷◌, refl, ap}
use Rattle.std.specs.Prelude.{Some, option_map}
use Rattle.ax_types.specs.declared.ops.MapQuery.{MapQuery}
use Rattle.ax_types.specs.declared.ops.MapQuery.TheVariants as map_query
use Rattle.ax_types.specs.declared.ops.ValueQuery.{ValueQuery}
use Rattle.ax_types.specs.declared.ops.ValueQuery.TheVariants as value_query
use Rattle.ax_types.specs.declared.ops.LongQuery.{LongQuery}
use Rattle.ax_types.specs.declared.ops.LongQuery.TheVariants as long_query
use Rattle.ax_types.specs.declared.ops.LockQuery.{LockQuery}
use Rattle.ax_types.specs.declared.ops.LockQuery.TheVariants as lock_query
use Rattle.ax_types.specs.declared.ops.GroupQuery.{GroupQuery}
use Rattle.ax_types.specs.declared.ops.GroupQuery.TheVariants as group_query
use Rattle.ax_types.specs.declared.ops.SetQuery.{SetQuery}
use Rattle.ax_types.specs.declared.ops.SetQuery.TheVariants as set_query
use Rattle.ax_types.specs.declared.ops.QueueQuery.{QueueQuery}
use Rattle.ax_types.specs.declared.ops.QueueQuery.TheVariants as queue_query
use Rattle.ax_types.specs.declared.ops.MultimapQuery.{MultimapQuery}
use Rattle.ax_types.specs.declared.ops.MultimapQuery.TheVariants as multimap_query
use Rattle.ax_types.specs.declared.ops.TopicQuery.{TopicQuery}
use Rattle.ax_types.specs.declared.ops.TopicQuery.TheVariants as topic_query
use Rattle.ax_types.specs.declared.ops.Query.{Query}
use Rattle.ax_types.specs.declared.ops.Query.TheVariants as query
use Rattle.ax_types.specs.declared.ops.Level.{Level}
use Rattle.ax_types.specs.declared.ops.Level.TheVariants.{Seq, Lin}
use Rattle.ax_types.specs.declared.ops.WindowCall.TheVariants as call
use Rattle.spec_text.specs.Words as text_words
use Rattle.spec_text.specs.OperationWords as operation_words
use Rattle.spec_report.specs.CallLines as call_lines
use Rattle.spec_wire.specs.Ranges as ranges
use Rattle.law_report.proofs.Queries.{map_query_words, value_query_words, long_query_words, lock_query_words, group_query_words, set_query_words, queue_query_words, multimap_query_words, topic_query_words, query_words}
use Rattle.law_script.proofs.Parts.{both-read, read_by, name-read, pair-read, text-read}

pub map_query-read : (o : MapQuery) → ranges.FitsMapQuery o → read_by operation_words.map_query_of (map_query_words o) ≡ Some o
map_query-read (map_query.Get k) h = ap (option_map map_query.Get) (name-read k h)
map_query-read (map_query.Contains k) h = ap (option_map map_query.Contains) (name-read k h)
map_query-read map_query.Size h = refl

pub value_query-read : (o : ValueQuery) → read_by operation_words.value_query_of (value_query_words o) ≡ Some o
value_query-read value_query.Get = refl

pub long_query-read : (o : LongQuery) → read_by operation_words.long_query_of (long_query_words o) ≡ Some o
long_query-read long_query.Get = refl

pub lock_query-read : (o : LockQuery) → read_by operation_words.lock_query_of (lock_query_words o) ≡ Some o
lock_query-read lock_query.Holder = refl
lock_query-read lock_query.Waiting = refl

pub group_query-read : (o : GroupQuery) → read_by operation_words.group_query_of (group_query_words o) ≡ Some o
group_query-read group_query.Members = refl
group_query-read group_query.Leader = refl

pub set_query-read : (o : SetQuery) → ranges.FitsSetQuery o → read_by operation_words.set_query_of (set_query_words o) ≡ Some o
set_query-read (set_query.Contains v) h = ap (option_map set_query.Contains) (text-read v h)
set_query-read set_query.Size h = refl

pub queue_query-read : (o : QueueQuery) → read_by operation_words.queue_query_of (queue_query_words o) ≡ Some o
queue_query-read queue_query.Peek = refl
queue_query-read queue_query.Size = refl

pub multimap_query-read : (o : MultimapQuery) → ranges.FitsMultimapQuery o → read_by operation_words.multimap_query_of (multimap_query_words o) ≡ Some o
multimap_query-read (multimap_query.Contains k v) h = ap (option_map (λ (p : text_words.Word × text_words.Word). multimap_query.Contains p.0 p.1)) (pair-read (name-read k h.0) (text-read v h.1))
multimap_query-read (multimap_query.Count k) h = ap (option_map multimap_query.Count) (name-read k h)
multimap_query-read multimap_query.Size h = refl

pub topic_query-read : (o : TopicQuery) → read_by operation_words.topic_query_of (topic_query_words o) ≡ Some o
topic_query-read topic_query.Subscribers = refl

-- `KIND NAME QUERY`, at a level
pub query_call-read : (level : Level) (name : text_words.Word) (q : Query) → ranges.IsName name → ranges.FitsQuery q → operation_words.query_call_of level (query_words name q) ≡ Some (call.Query level name q)
query_call-read level name (query.Map (map_query.Get k)) g h = both-read (call.Query level) (name-read name g) (ap (option_map query.Map) (map_query-read (map_query.Get k) h))
query_call-read level name (query.Map (map_query.Contains k)) g h = both-read (call.Query level) (name-read name g) (ap (option_map query.Map) (map_query-read (map_query.Contains k) h))
query_call-read level name (query.Map map_query.Size) g h = both-read (call.Query level) (name-read name g) (ap (option_map query.Map) (map_query-read map_query.Size h))
query_call-read level name (query.Value value_query.Get) g h = both-read (call.Query level) (name-read name g) (ap (option_map query.Value) (value_query-read value_query.Get))
query_call-read level name (query.Long long_query.Get) g h = both-read (call.Query level) (name-read name g) (ap (option_map query.Long) (long_query-read long_query.Get))
query_call-read level name (query.Lock lock_query.Holder) g h = both-read (call.Query level) (name-read name g) (ap (option_map query.Lock) (lock_query-read lock_query.Holder))
query_call-read level name (query.Lock lock_query.Waiting) g h = both-read (call.Query level) (name-read name g) (ap (option_map query.Lock) (lock_query-read lock_query.Waiting))
query_call-read level name (query.Group group_query.Members) g h = both-read (call.Query level) (name-read name g) (ap (option_map query.Group) (group_query-read group_query.Members))
query_call-read level name (query.Group group_query.Leader) g h = both-read (call.Query level) (name-read name g) (ap (option_map query.Group) (group_query-read group_query.Leader))
query_call-read level name (query.Set (set_query.Contains v)) g h = both-read (call.Query level) (name-read name g) (ap (option_map query.Set) (set_query-read (set_query.Contains v) h))
query_call-read level name (query.Set set_query.Size) g h = both-read (call.Query level) (name-read name g) (ap (option_map query.Set) (set_query-read set_query.Size h))
query_call-read level name (query.Queue queue_query.Peek) g h = both-read (call.Query level) (name-read name g) (ap (option_map query.Queue) (queue_query-read queue_query.Peek))
query_call-read level name (query.Queue queue_query.Size) g h = both-read (call.Query level) (name-read name g) (ap (option_map query.Queue) (queue_query-read queue_query.Size))
query_call-read level name (query.Multimap (multimap_query.Contains k v)) g h = both-read (call.Query level) (name-read name g) (ap (option_map query.Multimap) (multimap_query-read (multimap_query.Contains k v) h))
query_call-read level name (query.Multimap (multimap_query.Count k)) g h = both-read (call.Query level) (name-read name g) (ap (option_map query.Multimap) (multimap_query-read (multimap_query.Count k) h))
query_call-read level name (query.Multimap multimap_query.Size) g h = both-read (call.Query level) (name-read name g) (ap (option_map query.Multimap) (multimap_query-read multimap_query.Size h))
query_call-read level name (query.Topic topic_query.Subscribers) g h = both-read (call.Query level) (name-read name g) (ap (option_map query.Topic) (topic_query-read topic_query.Subscribers))

-- `LEVEL KIND NAME QUERY`
pub leveled_call-read : (level : Level) (name : text_words.Word) (q : Query) → ranges.IsName name → ranges.FitsQuery q → operation_words.leveled_call_of (call_lines.level_text level ∷ query_words name q) ≡ Some (call.Query level name q)
leveled_call-read Seq name q g h = query_call-read Seq name q g h
leveled_call-read Lin name q g h = query_call-read Lin name q g h
