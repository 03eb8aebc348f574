-- Reading a query: its kind, its number and its operands.
use Rattle.std.specs.Prelude.{ℕ, List, Ok, Err, nat_eq, if◌then◌else◌}
use Rattle.ax_types.specs.declared.ops.MapQuery.{MapQuery}
use Rattle.ax_types.specs.declared.ops.MapQuery.TheVariants as map_query
use Rattle.ax_types.specs.declared.ops.ValueQuery.{ValueQuery}
use Rattle.ax_types.specs.declared.ops.ValueQuery.TheVariants as value_query
use Rattle.ax_types.specs.declared.ops.LongQuery.{LongQuery}
use Rattle.ax_types.specs.declared.ops.LongQuery.TheVariants as long_query
use Rattle.ax_types.specs.declared.ops.LockQuery.{LockQuery}
use Rattle.ax_types.specs.declared.ops.LockQuery.TheVariants as lock_query
use Rattle.ax_types.specs.declared.ops.GroupQuery.{GroupQuery}
use Rattle.ax_types.specs.declared.ops.GroupQuery.TheVariants as group_query
use Rattle.ax_types.specs.declared.ops.SetQuery.{SetQuery}
use Rattle.ax_types.specs.declared.ops.SetQuery.TheVariants as set_query
use Rattle.ax_types.specs.declared.ops.QueueQuery.{QueueQuery}
use Rattle.ax_types.specs.declared.ops.QueueQuery.TheVariants as queue_query
use Rattle.ax_types.specs.declared.ops.MultimapQuery.{MultimapQuery}
use Rattle.ax_types.specs.declared.ops.MultimapQuery.TheVariants as multimap_query
use Rattle.ax_types.specs.declared.ops.TopicQuery.{TopicQuery}
use Rattle.ax_types.specs.declared.ops.TopicQuery.TheVariants as topic_query
use Rattle.ax_types.specs.declared.ops.Query.{Query}
use Rattle.ax_types.specs.declared.ops.Query.TheVariants as query
use Rattle.spec_reading.specs.Reading.{◌>>=◌}
use Rattle.spec_reading.specs.Reading as reading

unfoldable pub map_query_at : List ℕ → reading.Reading MapQuery
map_query_at bytes = do
  number ← reading.byte_at bytes
  if nat_eq number.0 1 then reading.one_field reading.name_at map_query.Get number.1 else
      if nat_eq number.0 2 then reading.one_field reading.name_at map_query.Contains number.1 else
      if nat_eq number.0 3 then Ok (map_query.Size, number.1) else
      Err reading.Wrong

unfoldable pub value_query_at : List ℕ → reading.Reading ValueQuery
value_query_at bytes = do
  number ← reading.byte_at bytes
  if nat_eq number.0 1 then Ok (value_query.Get, number.1) else
      Err reading.Wrong

unfoldable pub long_query_at : List ℕ → reading.Reading LongQuery
long_query_at bytes = do
  number ← reading.byte_at bytes
  if nat_eq number.0 1 then Ok (long_query.Get, number.1) else
      Err reading.Wrong

unfoldable pub lock_query_at : List ℕ → reading.Reading LockQuery
lock_query_at bytes = do
  number ← reading.byte_at bytes
  if nat_eq number.0 1 then Ok (lock_query.Holder, number.1) else
      if nat_eq number.0 2 then Ok (lock_query.Waiting, number.1) else
      Err reading.Wrong

unfoldable pub group_query_at : List ℕ → reading.Reading GroupQuery
group_query_at bytes = do
  number ← reading.byte_at bytes
  if nat_eq number.0 1 then Ok (group_query.Members, number.1) else
      if nat_eq number.0 2 then Ok (group_query.Leader, number.1) else
      Err reading.Wrong

unfoldable pub set_query_at : List ℕ → reading.Reading SetQuery
set_query_at bytes = do
  number ← reading.byte_at bytes
  if nat_eq number.0 1 then reading.one_field reading.text_at set_query.Contains number.1 else
      if nat_eq number.0 2 then Ok (set_query.Size, number.1) else
      Err reading.Wrong

unfoldable pub queue_query_at : List ℕ → reading.Reading QueueQuery
queue_query_at bytes = do
  number ← reading.byte_at bytes
  if nat_eq number.0 1 then Ok (queue_query.Peek, number.1) else
      if nat_eq number.0 2 then Ok (queue_query.Size, number.1) else
      Err reading.Wrong

unfoldable pub multimap_query_at : List ℕ → reading.Reading MultimapQuery
multimap_query_at bytes = do
  number ← reading.byte_at bytes
  if nat_eq number.0 1 then reading.two_fields reading.name_at reading.text_at multimap_query.Contains number.1 else
      if nat_eq number.0 2 then reading.one_field reading.name_at multimap_query.Count number.1 else
      if nat_eq number.0 3 then Ok (multimap_query.Size, number.1) else
      Err reading.Wrong

unfoldable pub topic_query_at : List ℕ → reading.Reading TopicQuery
topic_query_at bytes = do
  number ← reading.byte_at bytes
  if nat_eq number.0 1 then Ok (topic_query.Subscribers, number.1) else
      Err reading.Wrong

-- a query of any kind
unfoldable pub query_at : List ℕ → reading.Reading Query
query_at bytes = do
  number ← reading.byte_at bytes
  if nat_eq number.0 1 then reading.one_field map_query_at query.Map number.1 else
      if nat_eq number.0 2 then reading.one_field value_query_at query.Value number.1 else
      if nat_eq number.0 3 then reading.one_field long_query_at query.Long number.1 else
      if nat_eq number.0 4 then reading.one_field lock_query_at query.Lock number.1 else
      if nat_eq number.0 5 then reading.one_field group_query_at query.Group number.1 else
      if nat_eq number.0 6 then reading.one_field set_query_at query.Set number.1 else
      if nat_eq number.0 7 then reading.one_field queue_query_at query.Queue number.1 else
      if nat_eq number.0 8 then reading.one_field multimap_query_at query.Multimap number.1 else
      if nat_eq number.0 9 then reading.one_field topic_query_at query.Topic number.1 else
      Err reading.Wrong
