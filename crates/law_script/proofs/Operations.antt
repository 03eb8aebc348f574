-- An operation is read from its words.
use Rattle.std.proofs.Common.{◌≡◌, ℕ, ℤ, refl, ap, lit<}
use Rattle.std.specs.Prelude.{Some, option_map}
use Rattle.ax_types.specs.declared.ops.MapOp.{MapOp}
use Rattle.ax_types.specs.declared.ops.MapOp.TheVariants as map_op
use Rattle.ax_types.specs.declared.ops.ValueOp.{ValueOp}
use Rattle.ax_types.specs.declared.ops.ValueOp.TheVariants as value_op
use Rattle.ax_types.specs.declared.ops.LongOp.{LongOp}
use Rattle.ax_types.specs.declared.ops.LongOp.TheVariants as long_op
use Rattle.ax_types.specs.declared.ops.LockOp.{LockOp}
use Rattle.ax_types.specs.declared.ops.LockOp.TheVariants as lock_op
use Rattle.ax_types.specs.declared.ops.GroupOp.{GroupOp}
use Rattle.ax_types.specs.declared.ops.GroupOp.TheVariants as group_op
use Rattle.ax_types.specs.declared.ops.SetOp.{SetOp}
use Rattle.ax_types.specs.declared.ops.SetOp.TheVariants as set_op
use Rattle.ax_types.specs.declared.ops.QueueOp.{QueueOp}
use Rattle.ax_types.specs.declared.ops.QueueOp.TheVariants as queue_op
use Rattle.ax_types.specs.declared.ops.MultimapOp.{MultimapOp}
use Rattle.ax_types.specs.declared.ops.MultimapOp.TheVariants as multimap_op
use Rattle.ax_types.specs.declared.ops.TopicOp.{TopicOp}
use Rattle.ax_types.specs.declared.ops.TopicOp.TheVariants as topic_op
use Rattle.ax_types.specs.declared.ops.Op.{Op}
use Rattle.ax_types.specs.declared.ops.Op.TheVariants as op
use Rattle.ax_types.specs.declared.ops.WindowCall.TheVariants as call
use Rattle.spec_text.specs.Words as text_words
use Rattle.spec_text.specs.OperationWords as operation_words
use Rattle.spec_wire.specs.Ranges as ranges
use Rattle.law_report.proofs.Operations.{map_op_words, value_op_words, long_op_words, lock_op_words, group_op_words, set_op_words, queue_op_words, multimap_op_words, topic_op_words, op_words}
use Rattle.law_script.specs.StepForms as step_forms
use Rattle.law_script.proofs.Numbers.{number_within-read, signed-read}
use Rattle.law_script.proofs.Parts.{both-read, read_by, name-read, pair-read, text-read}

pub map_op-read : (o : MapOp) → ranges.FitsMapOp o → step_forms.HasLife (op.Map o) → read_by operation_words.map_op_of (map_op_words o) ≡ Some o
map_op-read (map_op.Put k v) h l = ap (option_map (λ (p : text_words.Word × text_words.Word). map_op.Put p.0 p.1)) (pair-read (name-read k h.0) (text-read v h.1))
map_op-read (map_op.PutIfAbsent k v) h l = ap (option_map (λ (p : text_words.Word × text_words.Word). map_op.PutIfAbsent p.0 p.1)) (pair-read (name-read k h.0) (text-read v h.1))
map_op-read (map_op.Replace k v) h l = ap (option_map (λ (p : text_words.Word × text_words.Word). map_op.Replace p.0 p.1)) (pair-read (name-read k h.0) (text-read v h.1))
map_op-read (map_op.Remove k) h l = ap (option_map map_op.Remove) (name-read k h)
map_op-read map_op.Clear h l = refl
map_op-read map_op.Listen h l = refl
map_op-read (map_op.PutFor k v life) h l = ap (option_map (λ (p : text_words.Word × text_words.Word × ℕ). map_op.PutFor p.0 p.1 p.2)) (both-read (λ (entry : text_words.Word × text_words.Word) (life : ℕ). (entry.0, entry.1, life)) (pair-read (name-read k h.0) (text-read v h.1)) (number_within-read 1 1000000000 life (lit< tt) l))

pub value_op-read : (o : ValueOp) → ranges.FitsValueOp o → read_by operation_words.value_op_of (value_op_words o) ≡ Some o
value_op-read (value_op.Set v) h = ap (option_map value_op.Set) (text-read v h)
value_op-read (value_op.Cas e v) h = ap (option_map (λ (p : text_words.Word × text_words.Word). value_op.Cas p.0 p.1)) (pair-read (text-read e h.0) (text-read v h.1))
value_op-read value_op.Clear h = refl
value_op-read value_op.Listen h = refl

pub long_op-read : (o : LongOp) → ranges.FitsLongOp o → read_by operation_words.long_op_of (long_op_words o) ≡ Some o
long_op-read (long_op.Add n) h = ap (option_map long_op.Add) (signed-read n h)
long_op-read (long_op.GetAndAdd n) h = ap (option_map long_op.GetAndAdd) (signed-read n h)
long_op-read (long_op.Set n) h = ap (option_map long_op.Set) (signed-read n h)
long_op-read (long_op.Cas e n) h = ap (option_map (λ (p : ℤ × ℤ). long_op.Cas p.0 p.1)) (pair-read (signed-read e h.0) (signed-read n h.1))

pub lock_op-read : (o : LockOp) → read_by operation_words.lock_op_of (lock_op_words o) ≡ Some o
lock_op-read lock_op.Lock = refl
lock_op-read lock_op.TryLock = refl
lock_op-read lock_op.Unlock = refl
lock_op-read lock_op.Cancel = refl

pub group_op-read : (o : GroupOp) → read_by operation_words.group_op_of (group_op_words o) ≡ Some o
group_op-read group_op.Join = refl
group_op-read group_op.Leave = refl
group_op-read group_op.Listen = refl

pub set_op-read : (o : SetOp) → ranges.FitsSetOp o → read_by operation_words.set_op_of (set_op_words o) ≡ Some o
set_op-read (set_op.Add v) h = ap (option_map set_op.Add) (text-read v h)
set_op-read (set_op.Remove v) h = ap (option_map set_op.Remove) (text-read v h)
set_op-read set_op.Clear h = refl

pub queue_op-read : (o : QueueOp) → ranges.FitsQueueOp o → read_by operation_words.queue_op_of (queue_op_words o) ≡ Some o
queue_op-read (queue_op.Offer v) h = ap (option_map queue_op.Offer) (text-read v h)
queue_op-read queue_op.Poll h = refl

pub multimap_op-read : (o : MultimapOp) → ranges.FitsMultimapOp o → read_by operation_words.multimap_op_of (multimap_op_words o) ≡ Some o
multimap_op-read (multimap_op.Put k v) h = ap (option_map (λ (p : text_words.Word × text_words.Word). multimap_op.Put p.0 p.1)) (pair-read (name-read k h.0) (text-read v h.1))
multimap_op-read (multimap_op.Remove k v) h = ap (option_map (λ (p : text_words.Word × text_words.Word). multimap_op.Remove p.0 p.1)) (pair-read (name-read k h.0) (text-read v h.1))
multimap_op-read (multimap_op.RemoveAll k) h = ap (option_map multimap_op.RemoveAll) (name-read k h)

pub topic_op-read : (o : TopicOp) → ranges.FitsTopicOp o → read_by operation_words.topic_op_of (topic_op_words o) ≡ Some o
topic_op-read topic_op.Subscribe h = refl
topic_op-read topic_op.Unsubscribe h = refl
topic_op-read (topic_op.Publish v) h = ap (option_map topic_op.Publish) (text-read v h)

-- `KIND NAME OPERATION`
pub command_call-read : (name : text_words.Word) (o : Op) → ranges.IsName name → ranges.FitsOp o → step_forms.HasLife o → operation_words.command_call_of (op_words name o) ≡ Some (call.Command name o)
command_call-read name (op.Map (map_op.Put k v)) g h l = both-read call.Command (name-read name g) (ap (option_map op.Map) (map_op-read (map_op.Put k v) h l))
command_call-read name (op.Map (map_op.PutIfAbsent k v)) g h l = both-read call.Command (name-read name g) (ap (option_map op.Map) (map_op-read (map_op.PutIfAbsent k v) h l))
command_call-read name (op.Map (map_op.Replace k v)) g h l = both-read call.Command (name-read name g) (ap (option_map op.Map) (map_op-read (map_op.Replace k v) h l))
command_call-read name (op.Map (map_op.Remove k)) g h l = both-read call.Command (name-read name g) (ap (option_map op.Map) (map_op-read (map_op.Remove k) h l))
command_call-read name (op.Map map_op.Clear) g h l = both-read call.Command (name-read name g) (ap (option_map op.Map) (map_op-read map_op.Clear h l))
command_call-read name (op.Map map_op.Listen) g h l = both-read call.Command (name-read name g) (ap (option_map op.Map) (map_op-read map_op.Listen h l))
command_call-read name (op.Map (map_op.PutFor k v life)) g h l = both-read call.Command (name-read name g) (ap (option_map op.Map) (map_op-read (map_op.PutFor k v life) h l))
command_call-read name (op.Value (value_op.Set v)) g h l = both-read call.Command (name-read name g) (ap (option_map op.Value) (value_op-read (value_op.Set v) h))
command_call-read name (op.Value (value_op.Cas e v)) g h l = both-read call.Command (name-read name g) (ap (option_map op.Value) (value_op-read (value_op.Cas e v) h))
command_call-read name (op.Value value_op.Clear) g h l = both-read call.Command (name-read name g) (ap (option_map op.Value) (value_op-read value_op.Clear h))
command_call-read name (op.Value value_op.Listen) g h l = both-read call.Command (name-read name g) (ap (option_map op.Value) (value_op-read value_op.Listen h))
command_call-read name (op.Long (long_op.Add n)) g h l = both-read call.Command (name-read name g) (ap (option_map op.Long) (long_op-read (long_op.Add n) h))
command_call-read name (op.Long (long_op.GetAndAdd n)) g h l = both-read call.Command (name-read name g) (ap (option_map op.Long) (long_op-read (long_op.GetAndAdd n) h))
command_call-read name (op.Long (long_op.Set n)) g h l = both-read call.Command (name-read name g) (ap (option_map op.Long) (long_op-read (long_op.Set n) h))
command_call-read name (op.Long (long_op.Cas e n)) g h l = both-read call.Command (name-read name g) (ap (option_map op.Long) (long_op-read (long_op.Cas e n) h))
command_call-read name (op.Lock lock_op.Lock) g h l = both-read call.Command (name-read name g) (ap (option_map op.Lock) (lock_op-read lock_op.Lock))
command_call-read name (op.Lock lock_op.TryLock) g h l = both-read call.Command (name-read name g) (ap (option_map op.Lock) (lock_op-read lock_op.TryLock))
command_call-read name (op.Lock lock_op.Unlock) g h l = both-read call.Command (name-read name g) (ap (option_map op.Lock) (lock_op-read lock_op.Unlock))
command_call-read name (op.Lock lock_op.Cancel) g h l = both-read call.Command (name-read name g) (ap (option_map op.Lock) (lock_op-read lock_op.Cancel))
command_call-read name (op.Group group_op.Join) g h l = both-read call.Command (name-read name g) (ap (option_map op.Group) (group_op-read group_op.Join))
command_call-read name (op.Group group_op.Leave) g h l = both-read call.Command (name-read name g) (ap (option_map op.Group) (group_op-read group_op.Leave))
command_call-read name (op.Group group_op.Listen) g h l = both-read call.Command (name-read name g) (ap (option_map op.Group) (group_op-read group_op.Listen))
command_call-read name (op.Set (set_op.Add v)) g h l = both-read call.Command (name-read name g) (ap (option_map op.Set) (set_op-read (set_op.Add v) h))
command_call-read name (op.Set (set_op.Remove v)) g h l = both-read call.Command (name-read name g) (ap (option_map op.Set) (set_op-read (set_op.Remove v) h))
command_call-read name (op.Set set_op.Clear) g h l = both-read call.Command (name-read name g) (ap (option_map op.Set) (set_op-read set_op.Clear h))
command_call-read name (op.Queue (queue_op.Offer v)) g h l = both-read call.Command (name-read name g) (ap (option_map op.Queue) (queue_op-read (queue_op.Offer v) h))
command_call-read name (op.Queue queue_op.Poll) g h l = both-read call.Command (name-read name g) (ap (option_map op.Queue) (queue_op-read queue_op.Poll h))
command_call-read name (op.Multimap (multimap_op.Put k v)) g h l = both-read call.Command (name-read name g) (ap (option_map op.Multimap) (multimap_op-read (multimap_op.Put k v) h))
command_call-read name (op.Multimap (multimap_op.Remove k v)) g h l = both-read call.Command (name-read name g) (ap (option_map op.Multimap) (multimap_op-read (multimap_op.Remove k v) h))
command_call-read name (op.Multimap (multimap_op.RemoveAll k)) g h l = both-read call.Command (name-read name g) (ap (option_map op.Multimap) (multimap_op-read (multimap_op.RemoveAll k) h))
command_call-read name (op.Topic topic_op.Subscribe) g h l = both-read call.Command (name-read name g) (ap (option_map op.Topic) (topic_op-read topic_op.Subscribe h))
command_call-read name (op.Topic topic_op.Unsubscribe) g h l = both-read call.Command (name-read name g) (ap (option_map op.Topic) (topic_op-read topic_op.Unsubscribe h))
command_call-read name (op.Topic (topic_op.Publish v)) g h l = both-read call.Command (name-read name g) (ap (option_map op.Topic) (topic_op-read (topic_op.Publish v) h))
