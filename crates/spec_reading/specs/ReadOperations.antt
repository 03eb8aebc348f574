-- Reading an operation: its kind, its number and its operands.
use Rattle.std.specs.Prelude.{ℕ, List, Ok, Err, nat_eq, if◌then◌else◌}
use Rattle.ax_types.specs.declared.ops.MapOp.{MapOp}
use Rattle.ax_types.specs.declared.ops.MapOp.TheVariants as map_op
use Rattle.ax_types.specs.declared.ops.ValueOp.{ValueOp}
use Rattle.ax_types.specs.declared.ops.ValueOp.TheVariants as value_op
use Rattle.ax_types.specs.declared.ops.LongOp.{LongOp}
use Rattle.ax_types.specs.declared.ops.LongOp.TheVariants as long_op
use Rattle.ax_types.specs.declared.ops.LockOp.{LockOp}
use Rattle.ax_types.specs.declared.ops.LockOp.TheVariants as lock_op
use Rattle.ax_types.specs.declared.ops.GroupOp.{GroupOp}
use Rattle.ax_types.specs.declared.ops.GroupOp.TheVariants as group_op
use Rattle.ax_types.specs.declared.ops.SetOp.{SetOp}
use Rattle.ax_types.specs.declared.ops.SetOp.TheVariants as set_op
use Rattle.ax_types.specs.declared.ops.QueueOp.{QueueOp}
use Rattle.ax_types.specs.declared.ops.QueueOp.TheVariants as queue_op
use Rattle.ax_types.specs.declared.ops.MultimapOp.{MultimapOp}
use Rattle.ax_types.specs.declared.ops.MultimapOp.TheVariants as multimap_op
use Rattle.ax_types.specs.declared.ops.TopicOp.{TopicOp}
use Rattle.ax_types.specs.declared.ops.TopicOp.TheVariants as topic_op
use Rattle.ax_types.specs.declared.ops.Op.{Op}
use Rattle.ax_types.specs.declared.ops.Op.TheVariants as op
use Rattle.spec_reading.specs.Reading.{◌>>=◌}
use Rattle.spec_reading.specs.Reading as reading

unfoldable pub map_op_at : List ℕ → reading.Reading MapOp
map_op_at bytes = do
  number ← reading.byte_at bytes
  if nat_eq number.0 1 then reading.two_fields reading.name_at reading.text_at map_op.Put number.1 else
      if nat_eq number.0 2 then reading.two_fields reading.name_at reading.text_at map_op.PutIfAbsent number.1 else
      if nat_eq number.0 3 then reading.two_fields reading.name_at reading.text_at map_op.Replace number.1 else
      if nat_eq number.0 4 then reading.one_field reading.name_at map_op.Remove number.1 else
      if nat_eq number.0 5 then Ok (map_op.Clear, number.1) else
      if nat_eq number.0 6 then Ok (map_op.Listen, number.1) else
      if nat_eq number.0 7 then reading.three_fields reading.name_at reading.text_at reading.life_at map_op.PutFor number.1 else
      Err reading.Wrong

unfoldable pub value_op_at : List ℕ → reading.Reading ValueOp
value_op_at bytes = do
  number ← reading.byte_at bytes
  if nat_eq number.0 1 then reading.one_field reading.text_at value_op.Set number.1 else
      if nat_eq number.0 2 then reading.two_fields reading.text_at reading.text_at value_op.Cas number.1 else
      if nat_eq number.0 3 then Ok (value_op.Clear, number.1) else
      if nat_eq number.0 4 then Ok (value_op.Listen, number.1) else
      Err reading.Wrong

unfoldable pub long_op_at : List ℕ → reading.Reading LongOp
long_op_at bytes = do
  number ← reading.byte_at bytes
  if nat_eq number.0 1 then reading.one_field reading.i64_at long_op.Add number.1 else
      if nat_eq number.0 2 then reading.one_field reading.i64_at long_op.GetAndAdd number.1 else
      if nat_eq number.0 3 then reading.one_field reading.i64_at long_op.Set number.1 else
      if nat_eq number.0 4 then reading.two_fields reading.i64_at reading.i64_at long_op.Cas number.1 else
      Err reading.Wrong

unfoldable pub lock_op_at : List ℕ → reading.Reading LockOp
lock_op_at bytes = do
  number ← reading.byte_at bytes
  if nat_eq number.0 1 then Ok (lock_op.Lock, number.1) else
      if nat_eq number.0 2 then Ok (lock_op.TryLock, number.1) else
      if nat_eq number.0 3 then Ok (lock_op.Unlock, number.1) else
      if nat_eq number.0 4 then Ok (lock_op.Cancel, number.1) else
      Err reading.Wrong

unfoldable pub group_op_at : List ℕ → reading.Reading GroupOp
group_op_at bytes = do
  number ← reading.byte_at bytes
  if nat_eq number.0 1 then Ok (group_op.Join, number.1) else
      if nat_eq number.0 2 then Ok (group_op.Leave, number.1) else
      if nat_eq number.0 3 then Ok (group_op.Listen, number.1) else
      Err reading.Wrong

unfoldable pub set_op_at : List ℕ → reading.Reading SetOp
set_op_at bytes = do
  number ← reading.byte_at bytes
  if nat_eq number.0 1 then reading.one_field reading.text_at set_op.Add number.1 else
      if nat_eq number.0 2 then reading.one_field reading.text_at set_op.Remove number.1 else
      if nat_eq number.0 3 then Ok (set_op.Clear, number.1) else
      Err reading.Wrong

unfoldable pub queue_op_at : List ℕ → reading.Reading QueueOp
queue_op_at bytes = do
  number ← reading.byte_at bytes
  if nat_eq number.0 1 then reading.one_field reading.text_at queue_op.Offer number.1 else
      if nat_eq number.0 2 then Ok (queue_op.Poll, number.1) else
      Err reading.Wrong

unfoldable pub multimap_op_at : List ℕ → reading.Reading MultimapOp
multimap_op_at bytes = do
  number ← reading.byte_at bytes
  if nat_eq number.0 1 then reading.two_fields reading.name_at reading.text_at multimap_op.Put number.1 else
      if nat_eq number.0 2 then reading.two_fields reading.name_at reading.text_at multimap_op.Remove number.1 else
      if nat_eq number.0 3 then reading.one_field reading.name_at multimap_op.RemoveAll number.1 else
      Err reading.Wrong

unfoldable pub topic_op_at : List ℕ → reading.Reading TopicOp
topic_op_at bytes = do
  number ← reading.byte_at bytes
  if nat_eq number.0 1 then Ok (topic_op.Subscribe, number.1) else
      if nat_eq number.0 2 then Ok (topic_op.Unsubscribe, number.1) else
      if nat_eq number.0 3 then reading.one_field reading.text_at topic_op.Publish number.1 else
      Err reading.Wrong

-- an operation of any kind
unfoldable pub op_at : List ℕ → reading.Reading Op
op_at bytes = do
  number ← reading.byte_at bytes
  if nat_eq number.0 1 then reading.one_field map_op_at op.Map number.1 else
      if nat_eq number.0 2 then reading.one_field value_op_at op.Value number.1 else
      if nat_eq number.0 3 then reading.one_field long_op_at op.Long number.1 else
      if nat_eq number.0 4 then reading.one_field lock_op_at op.Lock number.1 else
      if nat_eq number.0 5 then reading.one_field group_op_at op.Group number.1 else
      if nat_eq number.0 6 then reading.one_field set_op_at op.Set number.1 else
      if nat_eq number.0 7 then reading.one_field queue_op_at op.Queue number.1 else
      if nat_eq number.0 8 then reading.one_field multimap_op_at op.Multimap number.1 else
      if nat_eq number.0 9 then reading.one_field topic_op_at op.Topic number.1 else
      Err reading.Wrong
