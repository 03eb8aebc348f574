-- A query is read back from its words.
use Rattle.std.proofs.Common.{◌≡◌, ℕ, cond, List, [], ◌∷◌, drop, codes, refl}
use Rattle.ax_types.specs.declared.ops.MapQuery.{MapQuery}
use Rattle.ax_types.specs.declared.ops.MapQuery.TheVariants as map_query
use Rattle.ax_types.specs.declared.ops.ValueQuery.{ValueQuery}
use Rattle.ax_types.specs.declared.ops.ValueQuery.TheVariants as value_query
use Rattle.ax_types.specs.declared.ops.LongQuery.{LongQuery}
use Rattle.ax_types.specs.declared.ops.LongQuery.TheVariants as long_query
use Rattle.ax_types.specs.declared.ops.LockQuery.{LockQuery}
use Rattle.ax_types.specs.declared.ops.LockQuery.TheVariants as lock_query
use Rattle.ax_types.specs.declared.ops.GroupQuery.{GroupQuery}
use Rattle.ax_types.specs.declared.ops.GroupQuery.TheVariants as group_query
use Rattle.ax_types.specs.declared.ops.SetQuery.{SetQuery}
use Rattle.ax_types.specs.declared.ops.SetQuery.TheVariants as set_query
use Rattle.ax_types.specs.declared.ops.QueueQuery.{QueueQuery}
use Rattle.ax_types.specs.declared.ops.QueueQuery.TheVariants as queue_query
use Rattle.ax_types.specs.declared.ops.MultimapQuery.{MultimapQuery}
use Rattle.ax_types.specs.declared.ops.MultimapQuery.TheVariants as multimap_query
use Rattle.ax_types.specs.declared.ops.TopicQuery.{TopicQuery}
use Rattle.ax_types.specs.declared.ops.TopicQuery.TheVariants as topic_query
use Rattle.ax_types.specs.declared.ops.Query.{Query}
use Rattle.ax_types.specs.declared.ops.Query.TheVariants as query
use Rattle.spec_report.specs.CallLines as call_lines
use Rattle.spec_wire.specs.Ranges as ranges
use Rattle.law_report.proofs.Words.{IsLine, word, join, at, is_word}
use Rattle.law_report.proofs.Numbers.{name_line, text_line}

abbrev pub map_query_words : MapQuery → List (List ℕ)
map_query_words (map_query.Get key) = codes "get" ∷ key ∷ []
map_query_words (map_query.Contains key) = codes "contains" ∷ key ∷ []
map_query_words map_query.Size = codes "size" ∷ []

abbrev pub map_query_back : List (List ℕ) → MapQuery
map_query_back ws =
    cond (is_word (at 0 ws) (codes "get")) (map_query.Get (at 1 ws)) (
    cond (is_word (at 0 ws) (codes "contains")) (map_query.Contains (at 1 ws)) (
    map_query.Size))

pub map_query-line : (o : MapQuery) → ranges.FitsMapQuery o → IsLine (call_lines.map_query_text o) (map_query_words o)
map_query-line (map_query.Get key) h = join (word (codes "get") refl) (name_line key h)
map_query-line (map_query.Contains key) h = join (word (codes "contains") refl) (name_line key h)
map_query-line map_query.Size h = word (codes "size") refl

pub map_query-back : (o : MapQuery) → ranges.FitsMapQuery o → map_query_back (map_query_words o) ≡ o
map_query-back (map_query.Get key) h = refl
map_query-back (map_query.Contains key) h = refl
map_query-back map_query.Size h = refl

abbrev pub value_query_words : ValueQuery → List (List ℕ)
value_query_words value_query.Get = codes "get" ∷ []

abbrev pub value_query_back : List (List ℕ) → ValueQuery
value_query_back ws =
    value_query.Get

pub value_query-line : (o : ValueQuery) → IsLine (call_lines.value_query_text o) (value_query_words o)
value_query-line value_query.Get = word (codes "get") refl

pub value_query-back : (o : ValueQuery) → value_query_back (value_query_words o) ≡ o
value_query-back value_query.Get = refl

abbrev pub long_query_words : LongQuery → List (List ℕ)
long_query_words long_query.Get = codes "get" ∷ []

abbrev pub long_query_back : List (List ℕ) → LongQuery
long_query_back ws =
    long_query.Get

pub long_query-line : (o : LongQuery) → IsLine (call_lines.long_query_text o) (long_query_words o)
long_query-line long_query.Get = word (codes "get") refl

pub long_query-back : (o : LongQuery) → long_query_back (long_query_words o) ≡ o
long_query-back long_query.Get = refl

abbrev pub lock_query_words : LockQuery → List (List ℕ)
lock_query_words lock_query.Holder = codes "holder" ∷ []
lock_query_words lock_query.Waiting = codes "waiting" ∷ []

abbrev pub lock_query_back : List (List ℕ) → LockQuery
lock_query_back ws =
    cond (is_word (at 0 ws) (codes "holder")) lock_query.Holder (
    lock_query.Waiting)

pub lock_query-line : (o : LockQuery) → IsLine (call_lines.lock_query_text o) (lock_query_words o)
lock_query-line lock_query.Holder = word (codes "holder") refl
lock_query-line lock_query.Waiting = word (codes "waiting") refl

pub lock_query-back : (o : LockQuery) → lock_query_back (lock_query_words o) ≡ o
lock_query-back lock_query.Holder = refl
lock_query-back lock_query.Waiting = refl

abbrev pub group_query_words : GroupQuery → List (List ℕ)
group_query_words group_query.Members = codes "members" ∷ []
group_query_words group_query.Leader = codes "leader" ∷ []

abbrev pub group_query_back : List (List ℕ) → GroupQuery
group_query_back ws =
    cond (is_word (at 0 ws) (codes "members")) group_query.Members (
    group_query.Leader)

pub group_query-line : (o : GroupQuery) → IsLine (call_lines.group_query_text o) (group_query_words o)
group_query-line group_query.Members = word (codes "members") refl
group_query-line group_query.Leader = word (codes "leader") refl

pub group_query-back : (o : GroupQuery) → group_query_back (group_query_words o) ≡ o
group_query-back group_query.Members = refl
group_query-back group_query.Leader = refl

abbrev pub set_query_words : SetQuery → List (List ℕ)
set_query_words (set_query.Contains text) = codes "contains" ∷ text ∷ []
set_query_words set_query.Size = codes "size" ∷ []

abbrev pub set_query_back : List (List ℕ) → SetQuery
set_query_back ws =
    cond (is_word (at 0 ws) (codes "contains")) (set_query.Contains (at 1 ws)) (
    set_query.Size)

pub set_query-line : (o : SetQuery) → ranges.FitsSetQuery o → IsLine (call_lines.set_query_text o) (set_query_words o)
set_query-line (set_query.Contains text) h = join (word (codes "contains") refl) (text_line text h)
set_query-line set_query.Size h = word (codes "size") refl

pub set_query-back : (o : SetQuery) → ranges.FitsSetQuery o → set_query_back (set_query_words o) ≡ o
set_query-back (set_query.Contains text) h = refl
set_query-back set_query.Size h = refl

abbrev pub queue_query_words : QueueQuery → List (List ℕ)
queue_query_words queue_query.Peek = codes "peek" ∷ []
queue_query_words queue_query.Size = codes "size" ∷ []

abbrev pub queue_query_back : List (List ℕ) → QueueQuery
queue_query_back ws =
    cond (is_word (at 0 ws) (codes "peek")) queue_query.Peek (
    queue_query.Size)

pub queue_query-line : (o : QueueQuery) → IsLine (call_lines.queue_query_text o) (queue_query_words o)
queue_query-line queue_query.Peek = word (codes "peek") refl
queue_query-line queue_query.Size = word (codes "size") refl

pub queue_query-back : (o : QueueQuery) → queue_query_back (queue_query_words o) ≡ o
queue_query-back queue_query.Peek = refl
queue_query-back queue_query.Size = refl

abbrev pub multimap_query_words : MultimapQuery → List (List ℕ)
multimap_query_words (multimap_query.Contains key text) = codes "contains" ∷ key ∷ text ∷ []
multimap_query_words (multimap_query.Count key) = codes "count" ∷ key ∷ []
multimap_query_words multimap_query.Size = codes "size" ∷ []

abbrev pub multimap_query_back : List (List ℕ) → MultimapQuery
multimap_query_back ws =
    cond (is_word (at 0 ws) (codes "contains")) (multimap_query.Contains (at 1 ws) (at 2 ws)) (
    cond (is_word (at 0 ws) (codes "count")) (multimap_query.Count (at 1 ws)) (
    multimap_query.Size))

pub multimap_query-line : (o : MultimapQuery) → ranges.FitsMultimapQuery o → IsLine (call_lines.multimap_query_text o) (multimap_query_words o)
multimap_query-line (multimap_query.Contains key text) h = join (word (codes "contains") refl) (join (name_line key h.0) (text_line text h.1))
multimap_query-line (multimap_query.Count key) h = join (word (codes "count") refl) (name_line key h)
multimap_query-line multimap_query.Size h = word (codes "size") refl

pub multimap_query-back : (o : MultimapQuery) → ranges.FitsMultimapQuery o → multimap_query_back (multimap_query_words o) ≡ o
multimap_query-back (multimap_query.Contains key text) h = refl
multimap_query-back (multimap_query.Count key) h = refl
multimap_query-back multimap_query.Size h = refl

abbrev pub topic_query_words : TopicQuery → List (List ℕ)
topic_query_words topic_query.Subscribers = codes "subscribers" ∷ []

abbrev pub topic_query_back : List (List ℕ) → TopicQuery
topic_query_back ws =
    topic_query.Subscribers

pub topic_query-line : (o : TopicQuery) → IsLine (call_lines.topic_query_text o) (topic_query_words o)
topic_query-line topic_query.Subscribers = word (codes "subscribers") refl

pub topic_query-back : (o : TopicQuery) → topic_query_back (topic_query_words o) ≡ o
topic_query-back topic_query.Subscribers = refl

abbrev pub query_words : List ℕ → Query → List (List ℕ)
query_words bs (query.Map q) = codes "map" ∷ bs ∷ map_query_words q
query_words bs (query.Value q) = codes "value" ∷ bs ∷ value_query_words q
query_words bs (query.Long q) = codes "long" ∷ bs ∷ long_query_words q
query_words bs (query.Lock q) = codes "lock" ∷ bs ∷ lock_query_words q
query_words bs (query.Group q) = codes "group" ∷ bs ∷ group_query_words q
query_words bs (query.Set q) = codes "set" ∷ bs ∷ set_query_words q
query_words bs (query.Queue q) = codes "queue" ∷ bs ∷ queue_query_words q
query_words bs (query.Multimap q) = codes "multimap" ∷ bs ∷ multimap_query_words q
query_words bs (query.Topic q) = codes "topic" ∷ bs ∷ topic_query_words q

abbrev pub query_back : List (List ℕ) → Query
query_back ws =
    cond (is_word (at 0 ws) (codes "map")) (query.Map (map_query_back (drop 2 ws))) (
    cond (is_word (at 0 ws) (codes "value")) (query.Value (value_query_back (drop 2 ws))) (
    cond (is_word (at 0 ws) (codes "long")) (query.Long (long_query_back (drop 2 ws))) (
    cond (is_word (at 0 ws) (codes "lock")) (query.Lock (lock_query_back (drop 2 ws))) (
    cond (is_word (at 0 ws) (codes "group")) (query.Group (group_query_back (drop 2 ws))) (
    cond (is_word (at 0 ws) (codes "set")) (query.Set (set_query_back (drop 2 ws))) (
    cond (is_word (at 0 ws) (codes "queue")) (query.Queue (queue_query_back (drop 2 ws))) (
    cond (is_word (at 0 ws) (codes "multimap")) (query.Multimap (multimap_query_back (drop 2 ws))) (
    (query.Topic (topic_query_back (drop 2 ws)))))))))))

pub query-line : (bs : List ℕ) (q : Query) → ranges.IsName bs → ranges.FitsQuery q → IsLine (call_lines.query_text bs q) (query_words bs q)
query-line bs (query.Map q) g h = join (word (codes "map") refl) (join (name_line bs g) (map_query-line q h))
query-line bs (query.Value q) g h = join (word (codes "value") refl) (join (name_line bs g) (value_query-line q))
query-line bs (query.Long q) g h = join (word (codes "long") refl) (join (name_line bs g) (long_query-line q))
query-line bs (query.Lock q) g h = join (word (codes "lock") refl) (join (name_line bs g) (lock_query-line q))
query-line bs (query.Group q) g h = join (word (codes "group") refl) (join (name_line bs g) (group_query-line q))
query-line bs (query.Set q) g h = join (word (codes "set") refl) (join (name_line bs g) (set_query-line q h))
query-line bs (query.Queue q) g h = join (word (codes "queue") refl) (join (name_line bs g) (queue_query-line q))
query-line bs (query.Multimap q) g h = join (word (codes "multimap") refl) (join (name_line bs g) (multimap_query-line q h))
query-line bs (query.Topic q) g h = join (word (codes "topic") refl) (join (name_line bs g) (topic_query-line q))

pub query-back : (bs : List ℕ) (q : Query) → ranges.FitsQuery q → query_back (query_words bs q) ≡ q
query-back bs (query.Map q) h = λ i. query.Map (map_query-back q h i)
query-back bs (query.Value q) h = λ i. query.Value (value_query-back q i)
query-back bs (query.Long q) h = λ i. query.Long (long_query-back q i)
query-back bs (query.Lock q) h = λ i. query.Lock (lock_query-back q i)
query-back bs (query.Group q) h = λ i. query.Group (group_query-back q i)
query-back bs (query.Set q) h = λ i. query.Set (set_query-back q h i)
query-back bs (query.Queue q) h = λ i. query.Queue (queue_query-back q i)
query-back bs (query.Multimap q) h = λ i. query.Multimap (multimap_query-back q h i)
query-back bs (query.Topic q) h = λ i. query.Topic (topic_query-back q i)
