-- Whether two values of a report are the same, as tests that compute.
use Rattle.std.specs.Prelude.{ℕ, nat_eq, Bool, true, false, ◌&&◌, List, [], ◌∷◌}
use Rattle.std.specs.Ordering.{int_eq}
use Rattle.ax_types.specs.declared.ops.MapOp.{MapOp}
use Rattle.ax_types.specs.declared.ops.MapOp.TheVariants as map_op
use Rattle.ax_types.specs.declared.ops.ValueOp.{ValueOp}
use Rattle.ax_types.specs.declared.ops.ValueOp.TheVariants as value_op
use Rattle.ax_types.specs.declared.ops.LongOp.{LongOp}
use Rattle.ax_types.specs.declared.ops.LongOp.TheVariants as long_op
use Rattle.ax_types.specs.declared.ops.LockOp.{LockOp}
use Rattle.ax_types.specs.declared.ops.LockOp.TheVariants as lock_op
use Rattle.ax_types.specs.declared.ops.GroupOp.{GroupOp}
use Rattle.ax_types.specs.declared.ops.GroupOp.TheVariants as group_op
use Rattle.ax_types.specs.declared.ops.SetOp.{SetOp}
use Rattle.ax_types.specs.declared.ops.SetOp.TheVariants as set_op
use Rattle.ax_types.specs.declared.ops.QueueOp.{QueueOp}
use Rattle.ax_types.specs.declared.ops.QueueOp.TheVariants as queue_op
use Rattle.ax_types.specs.declared.ops.MultimapOp.{MultimapOp}
use Rattle.ax_types.specs.declared.ops.MultimapOp.TheVariants as multimap_op
use Rattle.ax_types.specs.declared.ops.TopicOp.{TopicOp}
use Rattle.ax_types.specs.declared.ops.TopicOp.TheVariants as topic_op
use Rattle.ax_types.specs.declared.ops.Op.{Op}
use Rattle.ax_types.specs.declared.ops.Op.TheVariants as op
use Rattle.ax_types.specs.declared.ops.Level.{Level}
use Rattle.ax_types.specs.declared.ops.Level.TheVariants as level
use Rattle.ax_types.specs.declared.replies.Reply.{Reply}
use Rattle.ax_types.specs.declared.replies.Reply.TheVariants as reply
use Rattle.ax_types.specs.declared.replies.Event.{Event}
use Rattle.ax_types.specs.declared.replies.Event.TheVariants as event
use Rattle.spec_book.specs.History as histories

abbrev pub are_same : {T : Type 0} → (T → T → Bool) → List T → List T → Bool
are_same same [] [] = true
are_same same (x ∷ xs) (y ∷ ys) = same x y && are_same same xs ys
are_same same _ _ = false

-- the first list begins the second
abbrev pub begins : {T : Type 0} → (T → T → Bool) → List T → List T → Bool
begins same [] ys = true
begins same (x ∷ xs) (y ∷ ys) = same x y && begins same xs ys
begins same (x ∷ xs) [] = false

abbrev pub is_same_text : List ℕ → List ℕ → Bool
is_same_text a b = are_same nat_eq a b

abbrev pub is_same_map_op : MapOp → MapOp → Bool
is_same_map_op (map_op.Put k t) (map_op.Put l u) = is_same_text k l && is_same_text t u
is_same_map_op (map_op.PutIfAbsent k t) (map_op.PutIfAbsent l u) = is_same_text k l && is_same_text t u
is_same_map_op (map_op.Replace k t) (map_op.Replace l u) = is_same_text k l && is_same_text t u
is_same_map_op (map_op.Remove k) (map_op.Remove l) = is_same_text k l
is_same_map_op map_op.Clear map_op.Clear = true
is_same_map_op map_op.Listen map_op.Listen = true
is_same_map_op (map_op.PutFor k t a) (map_op.PutFor l u b) = is_same_text k l && is_same_text t u && nat_eq a b
is_same_map_op _ _ = false

abbrev pub is_same_value_op : ValueOp → ValueOp → Bool
is_same_value_op (value_op.Set t) (value_op.Set u) = is_same_text t u
is_same_value_op (value_op.Cas e t) (value_op.Cas f u) = is_same_text e f && is_same_text t u
is_same_value_op value_op.Clear value_op.Clear = true
is_same_value_op value_op.Listen value_op.Listen = true
is_same_value_op _ _ = false

abbrev pub is_same_long_op : LongOp → LongOp → Bool
is_same_long_op (long_op.Add d) (long_op.Add e) = int_eq d e
is_same_long_op (long_op.GetAndAdd d) (long_op.GetAndAdd e) = int_eq d e
is_same_long_op (long_op.Set n) (long_op.Set m) = int_eq n m
is_same_long_op (long_op.Cas e n) (long_op.Cas f m) = int_eq e f && int_eq n m
is_same_long_op _ _ = false

abbrev pub is_same_lock_op : LockOp → LockOp → Bool
is_same_lock_op lock_op.Lock lock_op.Lock = true
is_same_lock_op lock_op.TryLock lock_op.TryLock = true
is_same_lock_op lock_op.Unlock lock_op.Unlock = true
is_same_lock_op lock_op.Cancel lock_op.Cancel = true
is_same_lock_op _ _ = false

abbrev pub is_same_group_op : GroupOp → GroupOp → Bool
is_same_group_op group_op.Join group_op.Join = true
is_same_group_op group_op.Leave group_op.Leave = true
is_same_group_op group_op.Listen group_op.Listen = true
is_same_group_op _ _ = false

abbrev pub is_same_set_op : SetOp → SetOp → Bool
is_same_set_op (set_op.Add t) (set_op.Add u) = is_same_text t u
is_same_set_op (set_op.Remove t) (set_op.Remove u) = is_same_text t u
is_same_set_op set_op.Clear set_op.Clear = true
is_same_set_op _ _ = false

abbrev pub is_same_queue_op : QueueOp → QueueOp → Bool
is_same_queue_op (queue_op.Offer t) (queue_op.Offer u) = is_same_text t u
is_same_queue_op queue_op.Poll queue_op.Poll = true
is_same_queue_op _ _ = false

abbrev pub is_same_multimap_op : MultimapOp → MultimapOp → Bool
is_same_multimap_op (multimap_op.Put k t) (multimap_op.Put l u) = is_same_text k l && is_same_text t u
is_same_multimap_op (multimap_op.Remove k t) (multimap_op.Remove l u) = is_same_text k l && is_same_text t u
is_same_multimap_op (multimap_op.RemoveAll k) (multimap_op.RemoveAll l) = is_same_text k l
is_same_multimap_op _ _ = false

abbrev pub is_same_topic_op : TopicOp → TopicOp → Bool
is_same_topic_op topic_op.Subscribe topic_op.Subscribe = true
is_same_topic_op topic_op.Unsubscribe topic_op.Unsubscribe = true
is_same_topic_op (topic_op.Publish t) (topic_op.Publish u) = is_same_text t u
is_same_topic_op _ _ = false

abbrev pub is_same_op : Op → Op → Bool
is_same_op (op.Map a) (op.Map b) = is_same_map_op a b
is_same_op (op.Value a) (op.Value b) = is_same_value_op a b
is_same_op (op.Long a) (op.Long b) = is_same_long_op a b
is_same_op (op.Lock a) (op.Lock b) = is_same_lock_op a b
is_same_op (op.Group a) (op.Group b) = is_same_group_op a b
is_same_op (op.Set a) (op.Set b) = is_same_set_op a b
is_same_op (op.Queue a) (op.Queue b) = is_same_queue_op a b
is_same_op (op.Multimap a) (op.Multimap b) = is_same_multimap_op a b
is_same_op (op.Topic a) (op.Topic b) = is_same_topic_op a b
is_same_op _ _ = false

-- the same operation on the resource of the same name
abbrev pub is_same_command : List ℕ × Op → List ℕ × Op → Bool
is_same_command a b = is_same_text a.0 b.0 && is_same_op a.1 b.1

abbrev pub is_same_level : Level → Level → Bool
is_same_level level.Seq level.Seq = true
is_same_level level.Lin level.Lin = true
is_same_level _ _ = false

abbrev pub is_same_reply : Reply → Reply → Bool
is_same_reply reply.Done reply.Done = true
is_same_reply reply.Nothing reply.Nothing = true
is_same_reply (reply.Found t) (reply.Found u) = is_same_text t u
is_same_reply reply.Yes reply.Yes = true
is_same_reply reply.No reply.No = true
is_same_reply (reply.Number n) (reply.Number m) = int_eq n m
is_same_reply (reply.Fence f) (reply.Fence g) = nat_eq f g
is_same_reply (reply.Holder s f) (reply.Holder t g) = nat_eq s t && nat_eq f g
is_same_reply (reply.Leader s f) (reply.Leader t g) = nat_eq s t && nat_eq f g
is_same_reply (reply.Members ss) (reply.Members ts) = are_same nat_eq ss ts
is_same_reply reply.Busy reply.Busy = true
is_same_reply reply.Already reply.Already = true
is_same_reply reply.NotHolder reply.NotHolder = true
is_same_reply reply.NotMember reply.NotMember = true
is_same_reply reply.Overflow reply.Overflow = true
is_same_reply reply.Full reply.Full = true
is_same_reply reply.WrongKind reply.WrongKind = true
is_same_reply _ _ = false

abbrev pub is_same_event : Event → Event → Bool
is_same_event (event.Changed n k t) (event.Changed m l u) = is_same_text n m && is_same_text k l && is_same_text t u
is_same_event (event.Removed n k) (event.Removed m l) = is_same_text n m && is_same_text k l
is_same_event (event.Set n t) (event.Set m u) = is_same_text n m && is_same_text t u
is_same_event (event.Cleared n) (event.Cleared m) = is_same_text n m
is_same_event (event.Granted n f) (event.Granted m g) = is_same_text n m && nat_eq f g
is_same_event (event.Joined n s) (event.Joined m t) = is_same_text n m && nat_eq s t
is_same_event (event.Left n s) (event.Left m t) = is_same_text n m && nat_eq s t
is_same_event (event.Elected n s f) (event.Elected m t g) = is_same_text n m && nat_eq s t && nat_eq f g
is_same_event (event.Message n t) (event.Message m u) = is_same_text n m && is_same_text t u
is_same_event _ _ = false

-- the same batch of events
abbrev pub is_same_heard : histories.Heard → histories.Heard → Bool
is_same_heard a b = nat_eq a.place b.place && nat_eq a.prev b.prev && are_same is_same_event a.events b.events
