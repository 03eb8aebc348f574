-- The readers of operations read what is spelled, and nothing else.
use Rattle.std.proofs.Common.{◌≡◌, ℕ, List, ◌++◌, Ok, refl, nat_eq}
use Rattle.ax_types.specs.declared.ops.MapOp.{MapOp}
use Rattle.ax_types.specs.declared.ops.MapOp.TheVariants as map_op
use Rattle.ax_types.specs.declared.ops.ValueOp.{ValueOp}
use Rattle.ax_types.specs.declared.ops.ValueOp.TheVariants as value_op
use Rattle.ax_types.specs.declared.ops.LongOp.{LongOp}
use Rattle.ax_types.specs.declared.ops.LongOp.TheVariants as long_op
use Rattle.ax_types.specs.declared.ops.LockOp.{LockOp}
use Rattle.ax_types.specs.declared.ops.LockOp.TheVariants as lock_op
use Rattle.ax_types.specs.declared.ops.GroupOp.{GroupOp}
use Rattle.ax_types.specs.declared.ops.GroupOp.TheVariants as group_op
use Rattle.ax_types.specs.declared.ops.SetOp.{SetOp}
use Rattle.ax_types.specs.declared.ops.SetOp.TheVariants as set_op
use Rattle.ax_types.specs.declared.ops.QueueOp.{QueueOp}
use Rattle.ax_types.specs.declared.ops.QueueOp.TheVariants as queue_op
use Rattle.ax_types.specs.declared.ops.MultimapOp.{MultimapOp}
use Rattle.ax_types.specs.declared.ops.MultimapOp.TheVariants as multimap_op
use Rattle.ax_types.specs.declared.ops.TopicOp.{TopicOp}
use Rattle.ax_types.specs.declared.ops.TopicOp.TheVariants as topic_op
use Rattle.ax_types.specs.declared.ops.Op.{Op}
use Rattle.ax_types.specs.declared.ops.Op.TheVariants as op
use Rattle.spec_wire.specs.Ranges as ranges
use Rattle.spec_wire.specs.OperationBytes as operation_bytes
use Rattle.spec_reading.specs.ReadOperations as read_operations
use Rattle.law_reading.proofs.Readers.{Reads, exact_bind, exact_ok, exact_wrong, exact_tag, exact_byte, exact_one, exact_two, exact_three, stable_bind, stable_ok, stable_wrong, stable_if, stable_byte, stable_one, stable_two, stable_three, again_one, again_two, again_three}
use Rattle.law_reading.proofs.Fields.{name_reads, text_reads, i64_reads, life_reads}

map_op_again : (x : MapOp) (rest : List ℕ) → ranges.FitsMapOp x → read_operations.map_op_at (operation_bytes.map_op_bytes x ++ rest) ≡ Ok (x, rest)
unfolding read_operations.map_op_at
map_op_again (map_op.Put a b) rest (fa, fb) = again_two map_op.Put name_reads text_reads a b rest fa fb
map_op_again (map_op.PutIfAbsent a b) rest (fa, fb) = again_two map_op.PutIfAbsent name_reads text_reads a b rest fa fb
map_op_again (map_op.Replace a b) rest (fa, fb) = again_two map_op.Replace name_reads text_reads a b rest fa fb
map_op_again (map_op.Remove a) rest fa = again_one map_op.Remove name_reads a rest fa
map_op_again map_op.Clear rest fits = refl
map_op_again map_op.Listen rest fits = refl
map_op_again (map_op.PutFor a b c) rest (fa, fb, fc) = again_three map_op.PutFor name_reads text_reads life_reads a b c rest fa fb fc

pub map_op_reads : Reads read_operations.map_op_at operation_bytes.map_op_bytes ranges.FitsMapOp
unfolding read_operations.map_op_at
map_op_reads = record {
  again = map_op_again;
  exact = exact_bind _ exact_byte (λ n fn.
      exact_tag n 1 (exact_two map_op.Put name_reads text_reads (λ a b. refl) (λ a b fa fb. (fa, fb))) (
      exact_tag n 2 (exact_two map_op.PutIfAbsent name_reads text_reads (λ a b. refl) (λ a b fa fb. (fa, fb))) (
      exact_tag n 3 (exact_two map_op.Replace name_reads text_reads (λ a b. refl) (λ a b fa fb. (fa, fb))) (
      exact_tag n 4 (exact_one map_op.Remove name_reads (λ a. refl) (λ a fa. fa)) (
      exact_tag n 5 (exact_ok map_op.Clear refl tt) (
      exact_tag n 6 (exact_ok map_op.Listen refl tt) (
      exact_tag n 7 (exact_three map_op.PutFor name_reads text_reads life_reads (λ a b c. refl) (λ a b c fa fb fc. (fa, fb, fc))) (
      exact_wrong))))))));
  stable = stable_bind _ stable_byte (λ n.
      stable_if (nat_eq n 1) (stable_two map_op.Put name_reads.stable text_reads.stable) (
      stable_if (nat_eq n 2) (stable_two map_op.PutIfAbsent name_reads.stable text_reads.stable) (
      stable_if (nat_eq n 3) (stable_two map_op.Replace name_reads.stable text_reads.stable) (
      stable_if (nat_eq n 4) (stable_one map_op.Remove name_reads.stable) (
      stable_if (nat_eq n 5) (stable_ok map_op.Clear) (
      stable_if (nat_eq n 6) (stable_ok map_op.Listen) (
      stable_if (nat_eq n 7) (stable_three map_op.PutFor name_reads.stable text_reads.stable life_reads.stable) (
      stable_wrong))))))));
}

value_op_again : (x : ValueOp) (rest : List ℕ) → ranges.FitsValueOp x → read_operations.value_op_at (operation_bytes.value_op_bytes x ++ rest) ≡ Ok (x, rest)
unfolding read_operations.value_op_at
value_op_again (value_op.Set a) rest fa = again_one value_op.Set text_reads a rest fa
value_op_again (value_op.Cas a b) rest (fa, fb) = again_two value_op.Cas text_reads text_reads a b rest fa fb
value_op_again value_op.Clear rest fits = refl
value_op_again value_op.Listen rest fits = refl

pub value_op_reads : Reads read_operations.value_op_at operation_bytes.value_op_bytes ranges.FitsValueOp
unfolding read_operations.value_op_at
value_op_reads = record {
  again = value_op_again;
  exact = exact_bind _ exact_byte (λ n fn.
      exact_tag n 1 (exact_one value_op.Set text_reads (λ a. refl) (λ a fa. fa)) (
      exact_tag n 2 (exact_two value_op.Cas text_reads text_reads (λ a b. refl) (λ a b fa fb. (fa, fb))) (
      exact_tag n 3 (exact_ok value_op.Clear refl tt) (
      exact_tag n 4 (exact_ok value_op.Listen refl tt) (
      exact_wrong)))));
  stable = stable_bind _ stable_byte (λ n.
      stable_if (nat_eq n 1) (stable_one value_op.Set text_reads.stable) (
      stable_if (nat_eq n 2) (stable_two value_op.Cas text_reads.stable text_reads.stable) (
      stable_if (nat_eq n 3) (stable_ok value_op.Clear) (
      stable_if (nat_eq n 4) (stable_ok value_op.Listen) (
      stable_wrong)))));
}

long_op_again : (x : LongOp) (rest : List ℕ) → ranges.FitsLongOp x → read_operations.long_op_at (operation_bytes.long_op_bytes x ++ rest) ≡ Ok (x, rest)
unfolding read_operations.long_op_at
long_op_again (long_op.Add a) rest fa = again_one long_op.Add i64_reads a rest fa
long_op_again (long_op.GetAndAdd a) rest fa = again_one long_op.GetAndAdd i64_reads a rest fa
long_op_again (long_op.Set a) rest fa = again_one long_op.Set i64_reads a rest fa
long_op_again (long_op.Cas a b) rest (fa, fb) = again_two long_op.Cas i64_reads i64_reads a b rest fa fb

pub long_op_reads : Reads read_operations.long_op_at operation_bytes.long_op_bytes ranges.FitsLongOp
unfolding read_operations.long_op_at
long_op_reads = record {
  again = long_op_again;
  exact = exact_bind _ exact_byte (λ n fn.
      exact_tag n 1 (exact_one long_op.Add i64_reads (λ a. refl) (λ a fa. fa)) (
      exact_tag n 2 (exact_one long_op.GetAndAdd i64_reads (λ a. refl) (λ a fa. fa)) (
      exact_tag n 3 (exact_one long_op.Set i64_reads (λ a. refl) (λ a fa. fa)) (
      exact_tag n 4 (exact_two long_op.Cas i64_reads i64_reads (λ a b. refl) (λ a b fa fb. (fa, fb))) (
      exact_wrong)))));
  stable = stable_bind _ stable_byte (λ n.
      stable_if (nat_eq n 1) (stable_one long_op.Add i64_reads.stable) (
      stable_if (nat_eq n 2) (stable_one long_op.GetAndAdd i64_reads.stable) (
      stable_if (nat_eq n 3) (stable_one long_op.Set i64_reads.stable) (
      stable_if (nat_eq n 4) (stable_two long_op.Cas i64_reads.stable i64_reads.stable) (
      stable_wrong)))));
}

abbrev AnyLockOp : LockOp → Type 0
AnyLockOp x = Unit {0}

lock_op_again : (x : LockOp) (rest : List ℕ) → AnyLockOp x → read_operations.lock_op_at (operation_bytes.lock_op_bytes x ++ rest) ≡ Ok (x, rest)
unfolding read_operations.lock_op_at
lock_op_again lock_op.Lock rest fits = refl
lock_op_again lock_op.TryLock rest fits = refl
lock_op_again lock_op.Unlock rest fits = refl
lock_op_again lock_op.Cancel rest fits = refl

pub lock_op_reads : Reads read_operations.lock_op_at operation_bytes.lock_op_bytes AnyLockOp
unfolding read_operations.lock_op_at
lock_op_reads = record {
  again = lock_op_again;
  exact = exact_bind _ exact_byte (λ n fn.
      exact_tag n 1 (exact_ok lock_op.Lock refl tt) (
      exact_tag n 2 (exact_ok lock_op.TryLock refl tt) (
      exact_tag n 3 (exact_ok lock_op.Unlock refl tt) (
      exact_tag n 4 (exact_ok lock_op.Cancel refl tt) (
      exact_wrong)))));
  stable = stable_bind _ stable_byte (λ n.
      stable_if (nat_eq n 1) (stable_ok lock_op.Lock) (
      stable_if (nat_eq n 2) (stable_ok lock_op.TryLock) (
      stable_if (nat_eq n 3) (stable_ok lock_op.Unlock) (
      stable_if (nat_eq n 4) (stable_ok lock_op.Cancel) (
      stable_wrong)))));
}

abbrev AnyGroupOp : GroupOp → Type 0
AnyGroupOp x = Unit {0}

group_op_again : (x : GroupOp) (rest : List ℕ) → AnyGroupOp x → read_operations.group_op_at (operation_bytes.group_op_bytes x ++ rest) ≡ Ok (x, rest)
unfolding read_operations.group_op_at
group_op_again group_op.Join rest fits = refl
group_op_again group_op.Leave rest fits = refl
group_op_again group_op.Listen rest fits = refl

pub group_op_reads : Reads read_operations.group_op_at operation_bytes.group_op_bytes AnyGroupOp
unfolding read_operations.group_op_at
group_op_reads = record {
  again = group_op_again;
  exact = exact_bind _ exact_byte (λ n fn.
      exact_tag n 1 (exact_ok group_op.Join refl tt) (
      exact_tag n 2 (exact_ok group_op.Leave refl tt) (
      exact_tag n 3 (exact_ok group_op.Listen refl tt) (
      exact_wrong))));
  stable = stable_bind _ stable_byte (λ n.
      stable_if (nat_eq n 1) (stable_ok group_op.Join) (
      stable_if (nat_eq n 2) (stable_ok group_op.Leave) (
      stable_if (nat_eq n 3) (stable_ok group_op.Listen) (
      stable_wrong))));
}

set_op_again : (x : SetOp) (rest : List ℕ) → ranges.FitsSetOp x → read_operations.set_op_at (operation_bytes.set_op_bytes x ++ rest) ≡ Ok (x, rest)
unfolding read_operations.set_op_at
set_op_again (set_op.Add a) rest fa = again_one set_op.Add text_reads a rest fa
set_op_again (set_op.Remove a) rest fa = again_one set_op.Remove text_reads a rest fa
set_op_again set_op.Clear rest fits = refl

pub set_op_reads : Reads read_operations.set_op_at operation_bytes.set_op_bytes ranges.FitsSetOp
unfolding read_operations.set_op_at
set_op_reads = record {
  again = set_op_again;
  exact = exact_bind _ exact_byte (λ n fn.
      exact_tag n 1 (exact_one set_op.Add text_reads (λ a. refl) (λ a fa. fa)) (
      exact_tag n 2 (exact_one set_op.Remove text_reads (λ a. refl) (λ a fa. fa)) (
      exact_tag n 3 (exact_ok set_op.Clear refl tt) (
      exact_wrong))));
  stable = stable_bind _ stable_byte (λ n.
      stable_if (nat_eq n 1) (stable_one set_op.Add text_reads.stable) (
      stable_if (nat_eq n 2) (stable_one set_op.Remove text_reads.stable) (
      stable_if (nat_eq n 3) (stable_ok set_op.Clear) (
      stable_wrong))));
}

queue_op_again : (x : QueueOp) (rest : List ℕ) → ranges.FitsQueueOp x → read_operations.queue_op_at (operation_bytes.queue_op_bytes x ++ rest) ≡ Ok (x, rest)
unfolding read_operations.queue_op_at
queue_op_again (queue_op.Offer a) rest fa = again_one queue_op.Offer text_reads a rest fa
queue_op_again queue_op.Poll rest fits = refl

pub queue_op_reads : Reads read_operations.queue_op_at operation_bytes.queue_op_bytes ranges.FitsQueueOp
unfolding read_operations.queue_op_at
queue_op_reads = record {
  again = queue_op_again;
  exact = exact_bind _ exact_byte (λ n fn.
      exact_tag n 1 (exact_one queue_op.Offer text_reads (λ a. refl) (λ a fa. fa)) (
      exact_tag n 2 (exact_ok queue_op.Poll refl tt) (
      exact_wrong)));
  stable = stable_bind _ stable_byte (λ n.
      stable_if (nat_eq n 1) (stable_one queue_op.Offer text_reads.stable) (
      stable_if (nat_eq n 2) (stable_ok queue_op.Poll) (
      stable_wrong)));
}

multimap_op_again : (x : MultimapOp) (rest : List ℕ) → ranges.FitsMultimapOp x → read_operations.multimap_op_at (operation_bytes.multimap_op_bytes x ++ rest) ≡ Ok (x, rest)
unfolding read_operations.multimap_op_at
multimap_op_again (multimap_op.Put a b) rest (fa, fb) = again_two multimap_op.Put name_reads text_reads a b rest fa fb
multimap_op_again (multimap_op.Remove a b) rest (fa, fb) = again_two multimap_op.Remove name_reads text_reads a b rest fa fb
multimap_op_again (multimap_op.RemoveAll a) rest fa = again_one multimap_op.RemoveAll name_reads a rest fa

pub multimap_op_reads : Reads read_operations.multimap_op_at operation_bytes.multimap_op_bytes ranges.FitsMultimapOp
unfolding read_operations.multimap_op_at
multimap_op_reads = record {
  again = multimap_op_again;
  exact = exact_bind _ exact_byte (λ n fn.
      exact_tag n 1 (exact_two multimap_op.Put name_reads text_reads (λ a b. refl) (λ a b fa fb. (fa, fb))) (
      exact_tag n 2 (exact_two multimap_op.Remove name_reads text_reads (λ a b. refl) (λ a b fa fb. (fa, fb))) (
      exact_tag n 3 (exact_one multimap_op.RemoveAll name_reads (λ a. refl) (λ a fa. fa)) (
      exact_wrong))));
  stable = stable_bind _ stable_byte (λ n.
      stable_if (nat_eq n 1) (stable_two multimap_op.Put name_reads.stable text_reads.stable) (
      stable_if (nat_eq n 2) (stable_two multimap_op.Remove name_reads.stable text_reads.stable) (
      stable_if (nat_eq n 3) (stable_one multimap_op.RemoveAll name_reads.stable) (
      stable_wrong))));
}

topic_op_again : (x : TopicOp) (rest : List ℕ) → ranges.FitsTopicOp x → read_operations.topic_op_at (operation_bytes.topic_op_bytes x ++ rest) ≡ Ok (x, rest)
unfolding read_operations.topic_op_at
topic_op_again topic_op.Subscribe rest fits = refl
topic_op_again topic_op.Unsubscribe rest fits = refl
topic_op_again (topic_op.Publish a) rest fa = again_one topic_op.Publish text_reads a rest fa

pub topic_op_reads : Reads read_operations.topic_op_at operation_bytes.topic_op_bytes ranges.FitsTopicOp
unfolding read_operations.topic_op_at
topic_op_reads = record {
  again = topic_op_again;
  exact = exact_bind _ exact_byte (λ n fn.
      exact_tag n 1 (exact_ok topic_op.Subscribe refl tt) (
      exact_tag n 2 (exact_ok topic_op.Unsubscribe refl tt) (
      exact_tag n 3 (exact_one topic_op.Publish text_reads (λ a. refl) (λ a fa. fa)) (
      exact_wrong))));
  stable = stable_bind _ stable_byte (λ n.
      stable_if (nat_eq n 1) (stable_ok topic_op.Subscribe) (
      stable_if (nat_eq n 2) (stable_ok topic_op.Unsubscribe) (
      stable_if (nat_eq n 3) (stable_one topic_op.Publish text_reads.stable) (
      stable_wrong))));
}

op_again : (x : Op) (rest : List ℕ) → ranges.FitsOp x → read_operations.op_at (operation_bytes.op_bytes x ++ rest) ≡ Ok (x, rest)
unfolding read_operations.op_at
op_again (op.Map a) rest fa = again_one op.Map map_op_reads a rest fa
op_again (op.Value a) rest fa = again_one op.Value value_op_reads a rest fa
op_again (op.Long a) rest fa = again_one op.Long long_op_reads a rest fa
op_again (op.Lock a) rest fa = again_one op.Lock lock_op_reads a rest fa
op_again (op.Group a) rest fa = again_one op.Group group_op_reads a rest fa
op_again (op.Set a) rest fa = again_one op.Set set_op_reads a rest fa
op_again (op.Queue a) rest fa = again_one op.Queue queue_op_reads a rest fa
op_again (op.Multimap a) rest fa = again_one op.Multimap multimap_op_reads a rest fa
op_again (op.Topic a) rest fa = again_one op.Topic topic_op_reads a rest fa

pub op_reads : Reads read_operations.op_at operation_bytes.op_bytes ranges.FitsOp
unfolding read_operations.op_at
op_reads = record {
  again = op_again;
  exact = exact_bind _ exact_byte (λ n fn.
      exact_tag n 1 (exact_one op.Map map_op_reads (λ a. refl) (λ a fa. fa)) (
      exact_tag n 2 (exact_one op.Value value_op_reads (λ a. refl) (λ a fa. fa)) (
      exact_tag n 3 (exact_one op.Long long_op_reads (λ a. refl) (λ a fa. fa)) (
      exact_tag n 4 (exact_one op.Lock lock_op_reads (λ a. refl) (λ a fa. fa)) (
      exact_tag n 5 (exact_one op.Group group_op_reads (λ a. refl) (λ a fa. fa)) (
      exact_tag n 6 (exact_one op.Set set_op_reads (λ a. refl) (λ a fa. fa)) (
      exact_tag n 7 (exact_one op.Queue queue_op_reads (λ a. refl) (λ a fa. fa)) (
      exact_tag n 8 (exact_one op.Multimap multimap_op_reads (λ a. refl) (λ a fa. fa)) (
      exact_tag n 9 (exact_one op.Topic topic_op_reads (λ a. refl) (λ a fa. fa)) (
      exact_wrong))))))))));
  stable = stable_bind _ stable_byte (λ n.
      stable_if (nat_eq n 1) (stable_one op.Map map_op_reads.stable) (
      stable_if (nat_eq n 2) (stable_one op.Value value_op_reads.stable) (
      stable_if (nat_eq n 3) (stable_one op.Long long_op_reads.stable) (
      stable_if (nat_eq n 4) (stable_one op.Lock lock_op_reads.stable) (
      stable_if (nat_eq n 5) (stable_one op.Group group_op_reads.stable) (
      stable_if (nat_eq n 6) (stable_one op.Set set_op_reads.stable) (
      stable_if (nat_eq n 7) (stable_one op.Queue queue_op_reads.stable) (
      stable_if (nat_eq n 8) (stable_one op.Multimap multimap_op_reads.stable) (
      stable_if (nat_eq n 9) (stable_one op.Topic topic_op_reads.stable) (
      stable_wrong))))))))));
}
