-- The readers of queries read what is spelled, and nothing else.
use Rattle.std.proofs.Common.{◌≡◌, ℕ, List, [], ◌∷◌, ◌++◌, Ok, refl, nat_eq}
use Rattle.ax_types.specs.declared.ops.MapQuery.{MapQuery}
use Rattle.ax_types.specs.declared.ops.MapQuery.TheVariants as map_query
use Rattle.ax_types.specs.declared.ops.ValueQuery.{ValueQuery}
use Rattle.ax_types.specs.declared.ops.ValueQuery.TheVariants as value_query
use Rattle.ax_types.specs.declared.ops.LongQuery.{LongQuery}
use Rattle.ax_types.specs.declared.ops.LongQuery.TheVariants as long_query
use Rattle.ax_types.specs.declared.ops.LockQuery.{LockQuery}
use Rattle.ax_types.specs.declared.ops.LockQuery.TheVariants as lock_query
use Rattle.ax_types.specs.declared.ops.GroupQuery.{GroupQuery}
use Rattle.ax_types.specs.declared.ops.GroupQuery.TheVariants as group_query
use Rattle.ax_types.specs.declared.ops.SetQuery.{SetQuery}
use Rattle.ax_types.specs.declared.ops.SetQuery.TheVariants as set_query
use Rattle.ax_types.specs.declared.ops.QueueQuery.{QueueQuery}
use Rattle.ax_types.specs.declared.ops.QueueQuery.TheVariants as queue_query
use Rattle.ax_types.specs.declared.ops.MultimapQuery.{MultimapQuery}
use Rattle.ax_types.specs.declared.ops.MultimapQuery.TheVariants as multimap_query
use Rattle.ax_types.specs.declared.ops.TopicQuery.{TopicQuery}
use Rattle.ax_types.specs.declared.ops.TopicQuery.TheVariants as topic_query
use Rattle.ax_types.specs.declared.ops.Query.{Query}
use Rattle.ax_types.specs.declared.ops.Query.TheVariants as query
use Rattle.spec_wire.specs.Ranges as ranges
use Rattle.spec_wire.specs.OperationBytes as operation_bytes
use Rattle.spec_reading.specs.ReadQueries as read_queries
use Rattle.law_reading.proofs.Readers.{Reads, exact_bind, exact_ok, exact_wrong, exact_tag, exact_byte, exact_one, exact_two, stable_bind, stable_ok, stable_wrong, stable_if, stable_byte, stable_one, stable_two, again_one, again_two}
use Rattle.law_reading.proofs.Fields.{name_reads, text_reads}

map_query_again : (x : MapQuery) (rest : List ℕ) → ranges.FitsMapQuery x → read_queries.map_query_at (operation_bytes.map_query_bytes x ++ rest) ≡ Ok (x, rest)
unfolding read_queries.map_query_at
map_query_again (map_query.Get a) rest fa = again_one map_query.Get name_reads a rest fa
map_query_again (map_query.Contains a) rest fa = again_one map_query.Contains name_reads a rest fa
map_query_again map_query.Size rest fits = refl

pub map_query_reads : Reads read_queries.map_query_at operation_bytes.map_query_bytes ranges.FitsMapQuery
unfolding read_queries.map_query_at
map_query_reads = record {
  again = map_query_again;
  exact = exact_bind _ exact_byte (λ n fn.
      exact_tag n 1 (exact_one map_query.Get name_reads (λ a. refl) (λ a fa. fa)) (
      exact_tag n 2 (exact_one map_query.Contains name_reads (λ a. refl) (λ a fa. fa)) (
      exact_tag n 3 (exact_ok map_query.Size refl tt) (
      exact_wrong))));
  stable = stable_bind _ stable_byte (λ n.
      stable_if (nat_eq n 1) (stable_one map_query.Get name_reads.stable) (
      stable_if (nat_eq n 2) (stable_one map_query.Contains name_reads.stable) (
      stable_if (nat_eq n 3) (stable_ok map_query.Size) (
      stable_wrong))));
}

abbrev AnyValueQuery : ValueQuery → Type 0
AnyValueQuery x = Unit {0}

abbrev value_query_bytes : ValueQuery → List ℕ
value_query_bytes value_query.Get = 1 ∷ []

value_query_again : (x : ValueQuery) (rest : List ℕ) → AnyValueQuery x → read_queries.value_query_at (value_query_bytes x ++ rest) ≡ Ok (x, rest)
unfolding read_queries.value_query_at
value_query_again value_query.Get rest fits = refl

pub value_query_reads : Reads read_queries.value_query_at value_query_bytes AnyValueQuery
unfolding read_queries.value_query_at
value_query_reads = record {
  again = value_query_again;
  exact = exact_bind _ exact_byte (λ n fn.
      exact_tag n 1 (exact_ok value_query.Get refl tt) (
      exact_wrong));
  stable = stable_bind _ stable_byte (λ n.
      stable_if (nat_eq n 1) (stable_ok value_query.Get) (
      stable_wrong));
}

abbrev AnyLongQuery : LongQuery → Type 0
AnyLongQuery x = Unit {0}

abbrev long_query_bytes : LongQuery → List ℕ
long_query_bytes long_query.Get = 1 ∷ []

long_query_again : (x : LongQuery) (rest : List ℕ) → AnyLongQuery x → read_queries.long_query_at (long_query_bytes x ++ rest) ≡ Ok (x, rest)
unfolding read_queries.long_query_at
long_query_again long_query.Get rest fits = refl

pub long_query_reads : Reads read_queries.long_query_at long_query_bytes AnyLongQuery
unfolding read_queries.long_query_at
long_query_reads = record {
  again = long_query_again;
  exact = exact_bind _ exact_byte (λ n fn.
      exact_tag n 1 (exact_ok long_query.Get refl tt) (
      exact_wrong));
  stable = stable_bind _ stable_byte (λ n.
      stable_if (nat_eq n 1) (stable_ok long_query.Get) (
      stable_wrong));
}

abbrev AnyLockQuery : LockQuery → Type 0
AnyLockQuery x = Unit {0}

lock_query_again : (x : LockQuery) (rest : List ℕ) → AnyLockQuery x → read_queries.lock_query_at (operation_bytes.lock_query_bytes x ++ rest) ≡ Ok (x, rest)
unfolding read_queries.lock_query_at
lock_query_again lock_query.Holder rest fits = refl
lock_query_again lock_query.Waiting rest fits = refl

pub lock_query_reads : Reads read_queries.lock_query_at operation_bytes.lock_query_bytes AnyLockQuery
unfolding read_queries.lock_query_at
lock_query_reads = record {
  again = lock_query_again;
  exact = exact_bind _ exact_byte (λ n fn.
      exact_tag n 1 (exact_ok lock_query.Holder refl tt) (
      exact_tag n 2 (exact_ok lock_query.Waiting refl tt) (
      exact_wrong)));
  stable = stable_bind _ stable_byte (λ n.
      stable_if (nat_eq n 1) (stable_ok lock_query.Holder) (
      stable_if (nat_eq n 2) (stable_ok lock_query.Waiting) (
      stable_wrong)));
}

abbrev AnyGroupQuery : GroupQuery → Type 0
AnyGroupQuery x = Unit {0}

group_query_again : (x : GroupQuery) (rest : List ℕ) → AnyGroupQuery x → read_queries.group_query_at (operation_bytes.group_query_bytes x ++ rest) ≡ Ok (x, rest)
unfolding read_queries.group_query_at
group_query_again group_query.Members rest fits = refl
group_query_again group_query.Leader rest fits = refl

pub group_query_reads : Reads read_queries.group_query_at operation_bytes.group_query_bytes AnyGroupQuery
unfolding read_queries.group_query_at
group_query_reads = record {
  again = group_query_again;
  exact = exact_bind _ exact_byte (λ n fn.
      exact_tag n 1 (exact_ok group_query.Members refl tt) (
      exact_tag n 2 (exact_ok group_query.Leader refl tt) (
      exact_wrong)));
  stable = stable_bind _ stable_byte (λ n.
      stable_if (nat_eq n 1) (stable_ok group_query.Members) (
      stable_if (nat_eq n 2) (stable_ok group_query.Leader) (
      stable_wrong)));
}

set_query_again : (x : SetQuery) (rest : List ℕ) → ranges.FitsSetQuery x → read_queries.set_query_at (operation_bytes.set_query_bytes x ++ rest) ≡ Ok (x, rest)
unfolding read_queries.set_query_at
set_query_again (set_query.Contains a) rest fa = again_one set_query.Contains text_reads a rest fa
set_query_again set_query.Size rest fits = refl

pub set_query_reads : Reads read_queries.set_query_at operation_bytes.set_query_bytes ranges.FitsSetQuery
unfolding read_queries.set_query_at
set_query_reads = record {
  again = set_query_again;
  exact = exact_bind _ exact_byte (λ n fn.
      exact_tag n 1 (exact_one set_query.Contains text_reads (λ a. refl) (λ a fa. fa)) (
      exact_tag n 2 (exact_ok set_query.Size refl tt) (
      exact_wrong)));
  stable = stable_bind _ stable_byte (λ n.
      stable_if (nat_eq n 1) (stable_one set_query.Contains text_reads.stable) (
      stable_if (nat_eq n 2) (stable_ok set_query.Size) (
      stable_wrong)));
}

abbrev AnyQueueQuery : QueueQuery → Type 0
AnyQueueQuery x = Unit {0}

queue_query_again : (x : QueueQuery) (rest : List ℕ) → AnyQueueQuery x → read_queries.queue_query_at (operation_bytes.queue_query_bytes x ++ rest) ≡ Ok (x, rest)
unfolding read_queries.queue_query_at
queue_query_again queue_query.Peek rest fits = refl
queue_query_again queue_query.Size rest fits = refl

pub queue_query_reads : Reads read_queries.queue_query_at operation_bytes.queue_query_bytes AnyQueueQuery
unfolding read_queries.queue_query_at
queue_query_reads = record {
  again = queue_query_again;
  exact = exact_bind _ exact_byte (λ n fn.
      exact_tag n 1 (exact_ok queue_query.Peek refl tt) (
      exact_tag n 2 (exact_ok queue_query.Size refl tt) (
      exact_wrong)));
  stable = stable_bind _ stable_byte (λ n.
      stable_if (nat_eq n 1) (stable_ok queue_query.Peek) (
      stable_if (nat_eq n 2) (stable_ok queue_query.Size) (
      stable_wrong)));
}

multimap_query_again : (x : MultimapQuery) (rest : List ℕ) → ranges.FitsMultimapQuery x → read_queries.multimap_query_at (operation_bytes.multimap_query_bytes x ++ rest) ≡ Ok (x, rest)
unfolding read_queries.multimap_query_at
multimap_query_again (multimap_query.Contains a b) rest (fa, fb) = again_two multimap_query.Contains name_reads text_reads a b rest fa fb
multimap_query_again (multimap_query.Count a) rest fa = again_one multimap_query.Count name_reads a rest fa
multimap_query_again multimap_query.Size rest fits = refl

pub multimap_query_reads : Reads read_queries.multimap_query_at operation_bytes.multimap_query_bytes ranges.FitsMultimapQuery
unfolding read_queries.multimap_query_at
multimap_query_reads = record {
  again = multimap_query_again;
  exact = exact_bind _ exact_byte (λ n fn.
      exact_tag n 1 (exact_two multimap_query.Contains name_reads text_reads (λ a b. refl) (λ a b fa fb. (fa, fb))) (
      exact_tag n 2 (exact_one multimap_query.Count name_reads (λ a. refl) (λ a fa. fa)) (
      exact_tag n 3 (exact_ok multimap_query.Size refl tt) (
      exact_wrong))));
  stable = stable_bind _ stable_byte (λ n.
      stable_if (nat_eq n 1) (stable_two multimap_query.Contains name_reads.stable text_reads.stable) (
      stable_if (nat_eq n 2) (stable_one multimap_query.Count name_reads.stable) (
      stable_if (nat_eq n 3) (stable_ok multimap_query.Size) (
      stable_wrong))));
}

abbrev AnyTopicQuery : TopicQuery → Type 0
AnyTopicQuery x = Unit {0}

abbrev topic_query_bytes : TopicQuery → List ℕ
topic_query_bytes topic_query.Subscribers = 1 ∷ []

topic_query_again : (x : TopicQuery) (rest : List ℕ) → AnyTopicQuery x → read_queries.topic_query_at (topic_query_bytes x ++ rest) ≡ Ok (x, rest)
unfolding read_queries.topic_query_at
topic_query_again topic_query.Subscribers rest fits = refl

pub topic_query_reads : Reads read_queries.topic_query_at topic_query_bytes AnyTopicQuery
unfolding read_queries.topic_query_at
topic_query_reads = record {
  again = topic_query_again;
  exact = exact_bind _ exact_byte (λ n fn.
      exact_tag n 1 (exact_ok topic_query.Subscribers refl tt) (
      exact_wrong));
  stable = stable_bind _ stable_byte (λ n.
      stable_if (nat_eq n 1) (stable_ok topic_query.Subscribers) (
      stable_wrong));
}

value_query_spelled : (a : ValueQuery) → 2 ∷ value_query_bytes a ≡ operation_bytes.query_bytes (query.Value a)
value_query_spelled value_query.Get = refl

long_query_spelled : (a : LongQuery) → 3 ∷ long_query_bytes a ≡ operation_bytes.query_bytes (query.Long a)
long_query_spelled long_query.Get = refl

topic_query_spelled : (a : TopicQuery) → 9 ∷ topic_query_bytes a ≡ operation_bytes.query_bytes (query.Topic a)
topic_query_spelled topic_query.Subscribers = refl

query_again : (x : Query) (rest : List ℕ) → ranges.FitsQuery x → read_queries.query_at (operation_bytes.query_bytes x ++ rest) ≡ Ok (x, rest)
unfolding read_queries.query_at read_queries.value_query_at read_queries.long_query_at read_queries.topic_query_at
query_again (query.Map a) rest fa = again_one query.Map map_query_reads a rest fa
query_again (query.Value value_query.Get) rest fa = refl
query_again (query.Long long_query.Get) rest fa = refl
query_again (query.Lock a) rest fa = again_one query.Lock lock_query_reads a rest fa
query_again (query.Group a) rest fa = again_one query.Group group_query_reads a rest fa
query_again (query.Set a) rest fa = again_one query.Set set_query_reads a rest fa
query_again (query.Queue a) rest fa = again_one query.Queue queue_query_reads a rest fa
query_again (query.Multimap a) rest fa = again_one query.Multimap multimap_query_reads a rest fa
query_again (query.Topic topic_query.Subscribers) rest fa = refl

pub query_reads : Reads read_queries.query_at operation_bytes.query_bytes ranges.FitsQuery
unfolding read_queries.query_at
query_reads = record {
  again = query_again;
  exact = exact_bind _ exact_byte (λ n fn.
      exact_tag n 1 (exact_one query.Map map_query_reads (λ a. refl) (λ a fa. fa)) (
      exact_tag n 2 (exact_one query.Value value_query_reads value_query_spelled (λ a fa. fa)) (
      exact_tag n 3 (exact_one query.Long long_query_reads long_query_spelled (λ a fa. fa)) (
      exact_tag n 4 (exact_one query.Lock lock_query_reads (λ a. refl) (λ a fa. fa)) (
      exact_tag n 5 (exact_one query.Group group_query_reads (λ a. refl) (λ a fa. fa)) (
      exact_tag n 6 (exact_one query.Set set_query_reads (λ a. refl) (λ a fa. fa)) (
      exact_tag n 7 (exact_one query.Queue queue_query_reads (λ a. refl) (λ a fa. fa)) (
      exact_tag n 8 (exact_one query.Multimap multimap_query_reads (λ a. refl) (λ a fa. fa)) (
      exact_tag n 9 (exact_one query.Topic topic_query_reads topic_query_spelled (λ a fa. fa)) (
      exact_wrong))))))))));
  stable = stable_bind _ stable_byte (λ n.
      stable_if (nat_eq n 1) (stable_one query.Map map_query_reads.stable) (
      stable_if (nat_eq n 2) (stable_one query.Value value_query_reads.stable) (
      stable_if (nat_eq n 3) (stable_one query.Long long_query_reads.stable) (
      stable_if (nat_eq n 4) (stable_one query.Lock lock_query_reads.stable) (
      stable_if (nat_eq n 5) (stable_one query.Group group_query_reads.stable) (
      stable_if (nat_eq n 6) (stable_one query.Set set_query_reads.stable) (
      stable_if (nat_eq n 7) (stable_one query.Queue queue_query_reads.stable) (
      stable_if (nat_eq n 8) (stable_one query.Multimap multimap_query_reads.stable) (
      stable_if (nat_eq n 9) (stable_one query.Topic topic_query_reads.stable) (
      stable_wrong))))))))));
}
