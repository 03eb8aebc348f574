-- An operation is read back from its words.
use Rattle.std.proofs.Common.{◌≡◌, ℕ, cond, List, [], ◌∷◌, drop, codes, refl}
use Rattle.std.specs.Fmt.{decimal, signed_decimal}
use Rattle.ax_types.specs.declared.ops.MapOp.{MapOp}
use Rattle.ax_types.specs.declared.ops.MapOp.TheVariants as map_op
use Rattle.ax_types.specs.declared.ops.ValueOp.{ValueOp}
use Rattle.ax_types.specs.declared.ops.ValueOp.TheVariants as value_op
use Rattle.ax_types.specs.declared.ops.LongOp.{LongOp}
use Rattle.ax_types.specs.declared.ops.LongOp.TheVariants as long_op
use Rattle.ax_types.specs.declared.ops.LockOp.{LockOp}
use Rattle.ax_types.specs.declared.ops.LockOp.TheVariants as lock_op
use Rattle.ax_types.specs.declared.ops.GroupOp.{GroupOp}
use Rattle.ax_types.specs.declared.ops.GroupOp.TheVariants as group_op
use Rattle.ax_types.specs.declared.ops.SetOp.{SetOp}
use Rattle.ax_types.specs.declared.ops.SetOp.TheVariants as set_op
use Rattle.ax_types.specs.declared.ops.QueueOp.{QueueOp}
use Rattle.ax_types.specs.declared.ops.QueueOp.TheVariants as queue_op
use Rattle.ax_types.specs.declared.ops.MultimapOp.{MultimapOp}
use Rattle.ax_types.specs.declared.ops.MultimapOp.TheVariants as multimap_op
use Rattle.ax_types.specs.declared.ops.TopicOp.{TopicOp}
use Rattle.ax_types.specs.declared.ops.TopicOp.TheVariants as topic_op
use Rattle.ax_types.specs.declared.ops.Op.{Op}
use Rattle.ax_types.specs.declared.ops.Op.TheVariants as op
use Rattle.spec_report.specs.CallLines as call_lines
use Rattle.spec_wire.specs.Ranges as ranges
use Rattle.law_report.proofs.Words.{IsLine, word, join, at, is_word}
use Rattle.law_report.proofs.Numbers.{number_back, number-back, integer_back, integer-back, number_line, integer_line, name_line, text_line, life_is_number}

abbrev pub map_op_words : MapOp → List (List ℕ)
map_op_words (map_op.Put key text) = codes "put" ∷ key ∷ text ∷ []
map_op_words (map_op.PutIfAbsent key text) = codes "put_if_absent" ∷ key ∷ text ∷ []
map_op_words (map_op.Replace key text) = codes "replace" ∷ key ∷ text ∷ []
map_op_words (map_op.Remove key) = codes "remove" ∷ key ∷ []
map_op_words map_op.Clear = codes "clear" ∷ []
map_op_words map_op.Listen = codes "listen" ∷ []
map_op_words (map_op.PutFor key text life) = codes "put_for" ∷ key ∷ text ∷ decimal life ∷ []

abbrev pub map_op_back : List (List ℕ) → MapOp
map_op_back ws =
    cond (is_word (at 0 ws) (codes "put")) (map_op.Put (at 1 ws) (at 2 ws)) (
    cond (is_word (at 0 ws) (codes "put_if_absent")) (map_op.PutIfAbsent (at 1 ws) (at 2 ws)) (
    cond (is_word (at 0 ws) (codes "replace")) (map_op.Replace (at 1 ws) (at 2 ws)) (
    cond (is_word (at 0 ws) (codes "remove")) (map_op.Remove (at 1 ws)) (
    cond (is_word (at 0 ws) (codes "clear")) map_op.Clear (
    cond (is_word (at 0 ws) (codes "listen")) map_op.Listen (
    (map_op.PutFor (at 1 ws) (at 2 ws) (number_back (at 3 ws)))))))))

pub map_op-line : (o : MapOp) → ranges.FitsMapOp o → IsLine (call_lines.map_op_text o) (map_op_words o)
map_op-line (map_op.Put key text) h = join (word (codes "put") refl) (join (name_line key h.0) (text_line text h.1))
map_op-line (map_op.PutIfAbsent key text) h = join (word (codes "put_if_absent") refl) (join (name_line key h.0) (text_line text h.1))
map_op-line (map_op.Replace key text) h = join (word (codes "replace") refl) (join (name_line key h.0) (text_line text h.1))
map_op-line (map_op.Remove key) h = join (word (codes "remove") refl) (name_line key h)
map_op-line map_op.Clear h = word (codes "clear") refl
map_op-line map_op.Listen h = word (codes "listen") refl
map_op-line (map_op.PutFor key text life) h = join (word (codes "put_for") refl) (join (name_line key h.0) (join (text_line text h.1) (number_line life)))

pub map_op-back : (o : MapOp) → ranges.FitsMapOp o → map_op_back (map_op_words o) ≡ o
map_op-back (map_op.Put key text) h = refl
map_op-back (map_op.PutIfAbsent key text) h = refl
map_op-back (map_op.Replace key text) h = refl
map_op-back (map_op.Remove key) h = refl
map_op-back map_op.Clear h = refl
map_op-back map_op.Listen h = refl
map_op-back (map_op.PutFor key text life) h = λ i. map_op.PutFor key text (number-back life (life_is_number life h.2) i)

abbrev pub value_op_words : ValueOp → List (List ℕ)
value_op_words (value_op.Set text) = codes "set" ∷ text ∷ []
value_op_words (value_op.Cas expected text) = codes "cas" ∷ expected ∷ text ∷ []
value_op_words value_op.Clear = codes "clear" ∷ []
value_op_words value_op.Listen = codes "listen" ∷ []

abbrev pub value_op_back : List (List ℕ) → ValueOp
value_op_back ws =
    cond (is_word (at 0 ws) (codes "set")) (value_op.Set (at 1 ws)) (
    cond (is_word (at 0 ws) (codes "cas")) (value_op.Cas (at 1 ws) (at 2 ws)) (
    cond (is_word (at 0 ws) (codes "clear")) value_op.Clear (
    value_op.Listen)))

pub value_op-line : (o : ValueOp) → ranges.FitsValueOp o → IsLine (call_lines.value_op_text o) (value_op_words o)
value_op-line (value_op.Set text) h = join (word (codes "set") refl) (text_line text h)
value_op-line (value_op.Cas expected text) h = join (word (codes "cas") refl) (join (text_line expected h.0) (text_line text h.1))
value_op-line value_op.Clear h = word (codes "clear") refl
value_op-line value_op.Listen h = word (codes "listen") refl

pub value_op-back : (o : ValueOp) → ranges.FitsValueOp o → value_op_back (value_op_words o) ≡ o
value_op-back (value_op.Set text) h = refl
value_op-back (value_op.Cas expected text) h = refl
value_op-back value_op.Clear h = refl
value_op-back value_op.Listen h = refl

abbrev pub long_op_words : LongOp → List (List ℕ)
long_op_words (long_op.Add delta) = codes "add" ∷ signed_decimal delta ∷ []
long_op_words (long_op.GetAndAdd delta) = codes "get_and_add" ∷ signed_decimal delta ∷ []
long_op_words (long_op.Set number) = codes "set" ∷ signed_decimal number ∷ []
long_op_words (long_op.Cas expected number) = codes "cas" ∷ signed_decimal expected ∷ signed_decimal number ∷ []

abbrev pub long_op_back : List (List ℕ) → LongOp
long_op_back ws =
    cond (is_word (at 0 ws) (codes "add")) (long_op.Add (integer_back (at 1 ws))) (
    cond (is_word (at 0 ws) (codes "get_and_add")) (long_op.GetAndAdd (integer_back (at 1 ws))) (
    cond (is_word (at 0 ws) (codes "set")) (long_op.Set (integer_back (at 1 ws))) (
    (long_op.Cas (integer_back (at 1 ws)) (integer_back (at 2 ws))))))

pub long_op-line : (o : LongOp) → ranges.FitsLongOp o → IsLine (call_lines.long_op_text o) (long_op_words o)
long_op-line (long_op.Add delta) h = join (word (codes "add") refl) (integer_line delta)
long_op-line (long_op.GetAndAdd delta) h = join (word (codes "get_and_add") refl) (integer_line delta)
long_op-line (long_op.Set number) h = join (word (codes "set") refl) (integer_line number)
long_op-line (long_op.Cas expected number) h = join (word (codes "cas") refl) (join (integer_line expected) (integer_line number))

pub long_op-back : (o : LongOp) → ranges.FitsLongOp o → long_op_back (long_op_words o) ≡ o
long_op-back (long_op.Add delta) h = λ i. long_op.Add (integer-back delta h i)
long_op-back (long_op.GetAndAdd delta) h = λ i. long_op.GetAndAdd (integer-back delta h i)
long_op-back (long_op.Set number) h = λ i. long_op.Set (integer-back number h i)
long_op-back (long_op.Cas expected number) h = λ i. long_op.Cas (integer-back expected h.0 i) (integer-back number h.1 i)

abbrev pub lock_op_words : LockOp → List (List ℕ)
lock_op_words lock_op.Lock = codes "lock" ∷ []
lock_op_words lock_op.TryLock = codes "try_lock" ∷ []
lock_op_words lock_op.Unlock = codes "unlock" ∷ []
lock_op_words lock_op.Cancel = codes "cancel" ∷ []

abbrev pub lock_op_back : List (List ℕ) → LockOp
lock_op_back ws =
    cond (is_word (at 0 ws) (codes "lock")) lock_op.Lock (
    cond (is_word (at 0 ws) (codes "try_lock")) lock_op.TryLock (
    cond (is_word (at 0 ws) (codes "unlock")) lock_op.Unlock (
    lock_op.Cancel)))

pub lock_op-line : (o : LockOp) → IsLine (call_lines.lock_op_text o) (lock_op_words o)
lock_op-line lock_op.Lock = word (codes "lock") refl
lock_op-line lock_op.TryLock = word (codes "try_lock") refl
lock_op-line lock_op.Unlock = word (codes "unlock") refl
lock_op-line lock_op.Cancel = word (codes "cancel") refl

pub lock_op-back : (o : LockOp) → lock_op_back (lock_op_words o) ≡ o
lock_op-back lock_op.Lock = refl
lock_op-back lock_op.TryLock = refl
lock_op-back lock_op.Unlock = refl
lock_op-back lock_op.Cancel = refl

abbrev pub group_op_words : GroupOp → List (List ℕ)
group_op_words group_op.Join = codes "join" ∷ []
group_op_words group_op.Leave = codes "leave" ∷ []
group_op_words group_op.Listen = codes "listen" ∷ []

abbrev pub group_op_back : List (List ℕ) → GroupOp
group_op_back ws =
    cond (is_word (at 0 ws) (codes "join")) group_op.Join (
    cond (is_word (at 0 ws) (codes "leave")) group_op.Leave (
    group_op.Listen))

pub group_op-line : (o : GroupOp) → IsLine (call_lines.group_op_text o) (group_op_words o)
group_op-line group_op.Join = word (codes "join") refl
group_op-line group_op.Leave = word (codes "leave") refl
group_op-line group_op.Listen = word (codes "listen") refl

pub group_op-back : (o : GroupOp) → group_op_back (group_op_words o) ≡ o
group_op-back group_op.Join = refl
group_op-back group_op.Leave = refl
group_op-back group_op.Listen = refl

abbrev pub set_op_words : SetOp → List (List ℕ)
set_op_words (set_op.Add text) = codes "add" ∷ text ∷ []
set_op_words (set_op.Remove text) = codes "remove" ∷ text ∷ []
set_op_words set_op.Clear = codes "clear" ∷ []

abbrev pub set_op_back : List (List ℕ) → SetOp
set_op_back ws =
    cond (is_word (at 0 ws) (codes "add")) (set_op.Add (at 1 ws)) (
    cond (is_word (at 0 ws) (codes "remove")) (set_op.Remove (at 1 ws)) (
    set_op.Clear))

pub set_op-line : (o : SetOp) → ranges.FitsSetOp o → IsLine (call_lines.set_op_text o) (set_op_words o)
set_op-line (set_op.Add text) h = join (word (codes "add") refl) (text_line text h)
set_op-line (set_op.Remove text) h = join (word (codes "remove") refl) (text_line text h)
set_op-line set_op.Clear h = word (codes "clear") refl

pub set_op-back : (o : SetOp) → ranges.FitsSetOp o → set_op_back (set_op_words o) ≡ o
set_op-back (set_op.Add text) h = refl
set_op-back (set_op.Remove text) h = refl
set_op-back set_op.Clear h = refl

abbrev pub queue_op_words : QueueOp → List (List ℕ)
queue_op_words (queue_op.Offer text) = codes "offer" ∷ text ∷ []
queue_op_words queue_op.Poll = codes "poll" ∷ []

abbrev pub queue_op_back : List (List ℕ) → QueueOp
queue_op_back ws =
    cond (is_word (at 0 ws) (codes "offer")) (queue_op.Offer (at 1 ws)) (
    queue_op.Poll)

pub queue_op-line : (o : QueueOp) → ranges.FitsQueueOp o → IsLine (call_lines.queue_op_text o) (queue_op_words o)
queue_op-line (queue_op.Offer text) h = join (word (codes "offer") refl) (text_line text h)
queue_op-line queue_op.Poll h = word (codes "poll") refl

pub queue_op-back : (o : QueueOp) → ranges.FitsQueueOp o → queue_op_back (queue_op_words o) ≡ o
queue_op-back (queue_op.Offer text) h = refl
queue_op-back queue_op.Poll h = refl

abbrev pub multimap_op_words : MultimapOp → List (List ℕ)
multimap_op_words (multimap_op.Put key text) = codes "put" ∷ key ∷ text ∷ []
multimap_op_words (multimap_op.Remove key text) = codes "remove" ∷ key ∷ text ∷ []
multimap_op_words (multimap_op.RemoveAll key) = codes "remove_all" ∷ key ∷ []

abbrev pub multimap_op_back : List (List ℕ) → MultimapOp
multimap_op_back ws =
    cond (is_word (at 0 ws) (codes "put")) (multimap_op.Put (at 1 ws) (at 2 ws)) (
    cond (is_word (at 0 ws) (codes "remove")) (multimap_op.Remove (at 1 ws) (at 2 ws)) (
    (multimap_op.RemoveAll (at 1 ws))))

pub multimap_op-line : (o : MultimapOp) → ranges.FitsMultimapOp o → IsLine (call_lines.multimap_op_text o) (multimap_op_words o)
multimap_op-line (multimap_op.Put key text) h = join (word (codes "put") refl) (join (name_line key h.0) (text_line text h.1))
multimap_op-line (multimap_op.Remove key text) h = join (word (codes "remove") refl) (join (name_line key h.0) (text_line text h.1))
multimap_op-line (multimap_op.RemoveAll key) h = join (word (codes "remove_all") refl) (name_line key h)

pub multimap_op-back : (o : MultimapOp) → ranges.FitsMultimapOp o → multimap_op_back (multimap_op_words o) ≡ o
multimap_op-back (multimap_op.Put key text) h = refl
multimap_op-back (multimap_op.Remove key text) h = refl
multimap_op-back (multimap_op.RemoveAll key) h = refl

abbrev pub topic_op_words : TopicOp → List (List ℕ)
topic_op_words topic_op.Subscribe = codes "subscribe" ∷ []
topic_op_words topic_op.Unsubscribe = codes "unsubscribe" ∷ []
topic_op_words (topic_op.Publish text) = codes "publish" ∷ text ∷ []

abbrev pub topic_op_back : List (List ℕ) → TopicOp
topic_op_back ws =
    cond (is_word (at 0 ws) (codes "subscribe")) topic_op.Subscribe (
    cond (is_word (at 0 ws) (codes "unsubscribe")) topic_op.Unsubscribe (
    (topic_op.Publish (at 1 ws))))

pub topic_op-line : (o : TopicOp) → ranges.FitsTopicOp o → IsLine (call_lines.topic_op_text o) (topic_op_words o)
topic_op-line topic_op.Subscribe h = word (codes "subscribe") refl
topic_op-line topic_op.Unsubscribe h = word (codes "unsubscribe") refl
topic_op-line (topic_op.Publish text) h = join (word (codes "publish") refl) (text_line text h)

pub topic_op-back : (o : TopicOp) → ranges.FitsTopicOp o → topic_op_back (topic_op_words o) ≡ o
topic_op-back topic_op.Subscribe h = refl
topic_op-back topic_op.Unsubscribe h = refl
topic_op-back (topic_op.Publish text) h = refl

abbrev pub op_words : List ℕ → Op → List (List ℕ)
op_words bs (op.Map o) = codes "map" ∷ bs ∷ map_op_words o
op_words bs (op.Value o) = codes "value" ∷ bs ∷ value_op_words o
op_words bs (op.Long o) = codes "long" ∷ bs ∷ long_op_words o
op_words bs (op.Lock o) = codes "lock" ∷ bs ∷ lock_op_words o
op_words bs (op.Group o) = codes "group" ∷ bs ∷ group_op_words o
op_words bs (op.Set o) = codes "set" ∷ bs ∷ set_op_words o
op_words bs (op.Queue o) = codes "queue" ∷ bs ∷ queue_op_words o
op_words bs (op.Multimap o) = codes "multimap" ∷ bs ∷ multimap_op_words o
op_words bs (op.Topic o) = codes "topic" ∷ bs ∷ topic_op_words o

abbrev pub op_back : List (List ℕ) → Op
op_back ws =
    cond (is_word (at 0 ws) (codes "map")) (op.Map (map_op_back (drop 2 ws))) (
    cond (is_word (at 0 ws) (codes "value")) (op.Value (value_op_back (drop 2 ws))) (
    cond (is_word (at 0 ws) (codes "long")) (op.Long (long_op_back (drop 2 ws))) (
    cond (is_word (at 0 ws) (codes "lock")) (op.Lock (lock_op_back (drop 2 ws))) (
    cond (is_word (at 0 ws) (codes "group")) (op.Group (group_op_back (drop 2 ws))) (
    cond (is_word (at 0 ws) (codes "set")) (op.Set (set_op_back (drop 2 ws))) (
    cond (is_word (at 0 ws) (codes "queue")) (op.Queue (queue_op_back (drop 2 ws))) (
    cond (is_word (at 0 ws) (codes "multimap")) (op.Multimap (multimap_op_back (drop 2 ws))) (
    (op.Topic (topic_op_back (drop 2 ws)))))))))))

pub op-line : (bs : List ℕ) (o : Op) → ranges.IsName bs → ranges.FitsOp o → IsLine (call_lines.op_text bs o) (op_words bs o)
op-line bs (op.Map o) g h = join (word (codes "map") refl) (join (name_line bs g) (map_op-line o h))
op-line bs (op.Value o) g h = join (word (codes "value") refl) (join (name_line bs g) (value_op-line o h))
op-line bs (op.Long o) g h = join (word (codes "long") refl) (join (name_line bs g) (long_op-line o h))
op-line bs (op.Lock o) g h = join (word (codes "lock") refl) (join (name_line bs g) (lock_op-line o))
op-line bs (op.Group o) g h = join (word (codes "group") refl) (join (name_line bs g) (group_op-line o))
op-line bs (op.Set o) g h = join (word (codes "set") refl) (join (name_line bs g) (set_op-line o h))
op-line bs (op.Queue o) g h = join (word (codes "queue") refl) (join (name_line bs g) (queue_op-line o h))
op-line bs (op.Multimap o) g h = join (word (codes "multimap") refl) (join (name_line bs g) (multimap_op-line o h))
op-line bs (op.Topic o) g h = join (word (codes "topic") refl) (join (name_line bs g) (topic_op-line o h))

pub op-back : (bs : List ℕ) (o : Op) → ranges.FitsOp o → op_back (op_words bs o) ≡ o
op-back bs (op.Map o) h = λ i. op.Map (map_op-back o h i)
op-back bs (op.Value o) h = λ i. op.Value (value_op-back o h i)
op-back bs (op.Long o) h = λ i. op.Long (long_op-back o h i)
op-back bs (op.Lock o) h = λ i. op.Lock (lock_op-back o i)
op-back bs (op.Group o) h = λ i. op.Group (group_op-back o i)
op-back bs (op.Set o) h = λ i. op.Set (set_op-back o h i)
op-back bs (op.Queue o) h = λ i. op.Queue (queue_op-back o h i)
op-back bs (op.Multimap o) h = λ i. op.Multimap (multimap_op-back o h i)
op-back bs (op.Topic o) h = λ i. op.Topic (topic_op-back o h i)
