-- Each value is the same as itself.
use Rattle.std.proofs.Common.{◌≡◌, ℕ, Bool, true, List, [], ◌∷◌, ◌++◌, refl, ℤ}
use Rattle.std.specs.Ordering.{int_eq}
use Rattle.std.proofs.lemmas.Cmp.{int_eq_equiv}
use Rattle.ax_types.specs.declared.ops.Op.{Op}
use Rattle.ax_types.specs.declared.ops.Op.TheVariants as op
use Rattle.ax_types.specs.declared.ops.MapOp.{MapOp}
use Rattle.ax_types.specs.declared.ops.MapOp.TheVariants as map_op
use Rattle.ax_types.specs.declared.ops.ValueOp.{ValueOp}
use Rattle.ax_types.specs.declared.ops.ValueOp.TheVariants as value_op
use Rattle.ax_types.specs.declared.ops.LongOp.{LongOp}
use Rattle.ax_types.specs.declared.ops.LongOp.TheVariants as long_op
use Rattle.ax_types.specs.declared.ops.LockOp.{LockOp}
use Rattle.ax_types.specs.declared.ops.LockOp.TheVariants as lock_op
use Rattle.ax_types.specs.declared.ops.GroupOp.{GroupOp}
use Rattle.ax_types.specs.declared.ops.GroupOp.TheVariants as group_op
use Rattle.ax_types.specs.declared.ops.SetOp.{SetOp}
use Rattle.ax_types.specs.declared.ops.SetOp.TheVariants as set_op
use Rattle.ax_types.specs.declared.ops.QueueOp.{QueueOp}
use Rattle.ax_types.specs.declared.ops.QueueOp.TheVariants as queue_op
use Rattle.ax_types.specs.declared.ops.MultimapOp.{MultimapOp}
use Rattle.ax_types.specs.declared.ops.MultimapOp.TheVariants as multimap_op
use Rattle.ax_types.specs.declared.ops.TopicOp.{TopicOp}
use Rattle.ax_types.specs.declared.ops.TopicOp.TheVariants as topic_op
use Rattle.ax_types.specs.declared.ops.Level.{Level}
use Rattle.ax_types.specs.declared.ops.Level.TheVariants as level
use Rattle.ax_types.specs.declared.replies.Reply.{Reply}
use Rattle.ax_types.specs.declared.replies.Reply.TheVariants as reply
use Rattle.ax_types.specs.declared.replies.Event.{Event}
use Rattle.ax_types.specs.declared.replies.Event.TheVariants as event
use Rattle.spec_book.specs.History as histories
use Rattle.spec_audit.specs.SameValues as same_values
use Rattle.law_audit.proofs.Tests.{nat_same, both}

pub are_same : {A : Type 0} (same : A → A → Bool) → ((x : A) → same x x ≡ true) → (xs : List A) → same_values.are_same same xs xs ≡ true
are_same same h [] = refl
are_same same h (x ∷ xs) = both (same x x) _ (h x) (are_same same h xs)

pub begins : {A : Type 0} (same : A → A → Bool) → ((x : A) → same x x ≡ true) → (xs ys : List A) → same_values.begins same xs (xs ++ ys) ≡ true
begins same h [] ys = refl
begins same h (x ∷ xs) ys = both (same x x) _ (h x) (begins same h xs ys)

pub text : (t : List ℕ) → same_values.is_same_text t t ≡ true
text t = are_same _ nat_same t

int : (n : ℤ) → int_eq n n ≡ true
int n = int_eq_equiv.refl n

map : (o : MapOp) → same_values.is_same_map_op o o ≡ true
map (map_op.Put k t) = both _ _ (text k) (text t)
map (map_op.PutIfAbsent k t) = both _ _ (text k) (text t)
map (map_op.Replace k t) = both _ _ (text k) (text t)
map (map_op.Remove k) = text k
map map_op.Clear = refl
map map_op.Listen = refl
map (map_op.PutFor k t l) = both _ _ (both _ _ (text k) (text t)) (nat_same l)

value : (o : ValueOp) → same_values.is_same_value_op o o ≡ true
value (value_op.Set t) = text t
value (value_op.Cas e t) = both _ _ (text e) (text t)
value value_op.Clear = refl
value value_op.Listen = refl

long : (o : LongOp) → same_values.is_same_long_op o o ≡ true
long (long_op.Add d) = int d
long (long_op.GetAndAdd d) = int d
long (long_op.Set n) = int n
long (long_op.Cas e n) = both _ _ (int e) (int n)

lock : (o : LockOp) → same_values.is_same_lock_op o o ≡ true
lock lock_op.Lock = refl
lock lock_op.TryLock = refl
lock lock_op.Unlock = refl
lock lock_op.Cancel = refl

group : (o : GroupOp) → same_values.is_same_group_op o o ≡ true
group group_op.Join = refl
group group_op.Leave = refl
group group_op.Listen = refl

set : (o : SetOp) → same_values.is_same_set_op o o ≡ true
set (set_op.Add t) = text t
set (set_op.Remove t) = text t
set set_op.Clear = refl

queue : (o : QueueOp) → same_values.is_same_queue_op o o ≡ true
queue (queue_op.Offer t) = text t
queue queue_op.Poll = refl

multimap : (o : MultimapOp) → same_values.is_same_multimap_op o o ≡ true
multimap (multimap_op.Put k t) = both _ _ (text k) (text t)
multimap (multimap_op.Remove k t) = both _ _ (text k) (text t)
multimap (multimap_op.RemoveAll k) = text k

topic : (o : TopicOp) → same_values.is_same_topic_op o o ≡ true
topic topic_op.Subscribe = refl
topic topic_op.Unsubscribe = refl
topic (topic_op.Publish t) = text t

operation : (o : Op) → same_values.is_same_op o o ≡ true
operation (op.Map o) = map o
operation (op.Value o) = value o
operation (op.Long o) = long o
operation (op.Lock o) = lock o
operation (op.Group o) = group o
operation (op.Set o) = set o
operation (op.Queue o) = queue o
operation (op.Multimap o) = multimap o
operation (op.Topic o) = topic o

pub command : (c : List ℕ × Op) → same_values.is_same_command c c ≡ true
command c = both _ _ (text c.0) (operation c.1)

pub level_same : (l : Level) → same_values.is_same_level l l ≡ true
level_same level.Seq = refl
level_same level.Lin = refl

pub reply_same : (r : Reply) → same_values.is_same_reply r r ≡ true
reply_same (reply.Found t) = text t
reply_same (reply.Number n) = int n
reply_same (reply.Fence f) = nat_same f
reply_same (reply.Holder s f) = both _ _ (nat_same s) (nat_same f)
reply_same (reply.Leader s f) = both _ _ (nat_same s) (nat_same f)
reply_same (reply.Members ss) = are_same _ nat_same ss
reply_same reply.Done = refl
reply_same reply.Nothing = refl
reply_same reply.Yes = refl
reply_same reply.No = refl
reply_same reply.Busy = refl
reply_same reply.Already = refl
reply_same reply.NotHolder = refl
reply_same reply.NotMember = refl
reply_same reply.Overflow = refl
reply_same reply.Full = refl
reply_same reply.WrongKind = refl

event_same : (e : Event) → same_values.is_same_event e e ≡ true
event_same (event.Changed n k t) = both _ _ (both _ _ (text n) (text k)) (text t)
event_same (event.Removed n k) = both _ _ (text n) (text k)
event_same (event.Set n t) = both _ _ (text n) (text t)
event_same (event.Cleared n) = text n
event_same (event.Granted n f) = both _ _ (text n) (nat_same f)
event_same (event.Joined n s) = both _ _ (text n) (nat_same s)
event_same (event.Left n s) = both _ _ (text n) (nat_same s)
event_same (event.Elected n s f) = both _ _ (both _ _ (text n) (nat_same s)) (nat_same f)
event_same (event.Message n t) = both _ _ (text n) (text t)

pub heard_same : (x : histories.Heard) → same_values.is_same_heard x x ≡ true
heard_same x = both _ _ (both _ _ (nat_same x.place) (nat_same x.prev)) (are_same _ event_same x.events)
