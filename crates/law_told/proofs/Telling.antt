-- Whom an act at a book tells: sessions that the book names.
use Rattle.std.proofs.Common.{◌≡◌, ◌≢◌, ℕ, Bool, true, false, cond, List, [], ◌∷◌, ◌++◌, Option, Some, None, ℤ, ◌+ℤ◌, refl, filter}
use Rattle.std.specs.List.{AllByRecursion}
use Rattle.std.specs.declared.cmp.Ordering.{Ordering}
use Rattle.std.specs.declared.cmp.Ordering.TheVariants.{Less, Equal, Greater}
use Rattle.std.specs.Ordering.{match_ordering, int_eq}
use Rattle.std.specs.BTreeMap.{is_at}
use Rattle.std.specs.BTreeSet.{insert_key}
use Rattle.std.specs.Set.{remove_key}
use Rattle.ax_types.specs.declared.ops.Op.{Op}
use Rattle.ax_types.specs.declared.ops.Op.TheVariants as op
use Rattle.ax_types.specs.declared.ops.MapOp.{MapOp}
use Rattle.ax_types.specs.declared.ops.MapOp.TheVariants as map_op
use Rattle.ax_types.specs.declared.ops.ValueOp.{ValueOp}
use Rattle.ax_types.specs.declared.ops.ValueOp.TheVariants as value
use Rattle.ax_types.specs.declared.ops.LongOp.{LongOp}
use Rattle.ax_types.specs.declared.ops.LongOp.TheVariants as long
use Rattle.ax_types.specs.declared.ops.LockOp.{LockOp}
use Rattle.ax_types.specs.declared.ops.LockOp.TheVariants as lock
use Rattle.ax_types.specs.declared.ops.GroupOp.{GroupOp}
use Rattle.ax_types.specs.declared.ops.GroupOp.TheVariants as group
use Rattle.ax_types.specs.declared.ops.SetOp.{SetOp}
use Rattle.ax_types.specs.declared.ops.SetOp.TheVariants as set
use Rattle.ax_types.specs.declared.ops.QueueOp.{QueueOp}
use Rattle.ax_types.specs.declared.ops.QueueOp.TheVariants as queue
use Rattle.ax_types.specs.declared.ops.MultimapOp.{MultimapOp}
use Rattle.ax_types.specs.declared.ops.MultimapOp.TheVariants as multimap
use Rattle.ax_types.specs.declared.ops.TopicOp.{TopicOp}
use Rattle.ax_types.specs.declared.ops.TopicOp.TheVariants as topic
use Rattle.ax_types.specs.declared.entries.Act.TheVariants as act
use Rattle.ax_types.specs.declared.replies.Reply.{Reply}
use Rattle.ax_types.specs.declared.replies.Reply.TheVariants as reply
use Rattle.ax_types.specs.declared.replies.Event.{Event}
use Rattle.ax_types.specs.declared.replies.Event.TheVariants as event
use Rattle.spec_book.specs.Limits as limits
use Rattle.spec_book.specs.Dict as dicts
use Rattle.spec_book.specs.Resources as resources
use Rattle.spec_book.specs.Scalars as scalars
use Rattle.spec_book.specs.MapTurn as map_turns
use Rattle.spec_book.specs.Owners as owners
use Rattle.spec_book.specs.Collections as collections
use Rattle.spec_book.specs.Book as books
use Rattle.law_told.proofs.Lists.{by_test, all_since, all_append}
use Rattle.law_told.proofs.Apart.{AreApart, apart_since, apart_all, not_there, apart_end, apart_with, apart_without}

-- the sessions that a resource may tell: those that listen, and those that wait for a lock
abbrev pub MayTell : (ℕ → Type 0) → resources.Resource → Type 0
MayTell P (resources.AMap s) = AreApart P s.listeners
MayTell P (resources.AValue s) = AreApart P s.listeners
MayTell P (resources.ALock s) = AreApart P s.waiting
MayTell P (resources.AGroup s) = AreApart P s.listeners
MayTell P (resources.ATopic s) = AreApart P s
MayTell P r = Unit {0}

abbrev pub AllMayTell : (ℕ → Type 0) → books.Book → Type 0
AllMayTell P book = AllByRecursion (λ e. MayTell P e.1) book

abbrev pub AreTold : (ℕ → Type 0) → List (ℕ × Event) → Type 0
AreTold P told = AllByRecursion (λ t. P t.0) told

-- what an act gives: the state keeps to those, and tells them alone
abbrev pub Gives : {S : Type 0} → (S → Type 0) → (ℕ → Type 0) → resources.Acted S → Type 0
Gives N P a = N a.state × AreTold P a.turn.told

telling : (P : ℕ → Type 0) (xs : List ℕ) (e : Event) → AllByRecursion P xs → AreTold P (resources.tell xs e)
telling P [] e h = tt
telling P (x ∷ xs) e h = (h.0, telling P xs e h.1)

tell_apart : (P : ℕ → Type 0) (xs : List ℕ) (e : Event) → AreApart P xs → AreTold P (resources.tell xs e)
tell_apart P xs e h = telling P xs e (apart_all P xs h)

removed : (P : ℕ → Type 0) (name : List ℕ) (xs : List ℕ) (es : List (List ℕ × resources.MapItem)) → AreApart P xs → AreTold P (map_turns.tell_removed name xs es)
removed P name xs [] h = tt
removed P name xs (e ∷ es) h = all_append (λ t. P t.0) (resources.tell xs (event.Removed name e.0)) (map_turns.tell_removed name xs es) (tell_apart P xs (event.Removed name e.0) h) (removed P name xs es h)

-- a session listens too
listening : (P : ℕ → Type 0) (xs : List ℕ) (s : ℕ) → P s → AreApart P xs → AreApart P (scalars.listen_after xs s)
listening P xs s k h =
    by_test (AreApart P) (dicts.has_session xs s) xs (cond (limits.is_full xs) xs (dicts.with_session xs s)) (λ e. h)
    (λ e. by_test (AreApart P) (limits.is_full xs) xs (dicts.with_session xs s) (λ f. h) (λ f. apart_with P s xs k (not_there s xs e) h))

-- maps
abbrev MapTells : (ℕ → Type 0) → resources.MapState → Type 0
MapTells P s = AreApart P s.listeners

map_set : (P : ℕ → Type 0) (name key : List ℕ) (item : resources.MapItem) (r : Reply) (s : resources.MapState) → MapTells P s → Gives (MapTells P) P (map_turns.set_item name key item r s)
map_set P name key item r s h = (h, tell_apart P s.listeners (event.Changed name key item.text) h)

map_put : (P : ℕ → Type 0) (name key : List ℕ) (item : resources.MapItem) (old : Option resources.MapItem) (s : resources.MapState) → MapTells P s → Gives (MapTells P) P (map_turns.put_item name key item old s)
map_put P name key item None s h = by_test (Gives (MapTells P) P) (limits.is_full s.entries) _ _ (λ e. (h, tt)) (λ e. map_set P name key item reply.Nothing s h)
map_put P name key item (Some old) s h = map_set P name key item (reply.Found old.text) s h

map_absent : (P : ℕ → Type 0) (name key : List ℕ) (item : resources.MapItem) (old : Option resources.MapItem) (s : resources.MapState) → MapTells P s → Gives (MapTells P) P (map_turns.put_absent name key item old s)
map_absent P name key item None s h = map_put P name key item None s h
map_absent P name key item (Some old) s h = (h, tt)

map_replace : (P : ℕ → Type 0) (name key : List ℕ) (item : resources.MapItem) (old : Option resources.MapItem) (s : resources.MapState) → MapTells P s → Gives (MapTells P) P (map_turns.replace_item name key item old s)
map_replace P name key item None s h = (h, tt)
map_replace P name key item (Some old) s h = map_set P name key item (reply.Found old.text) s h

map_remove : (P : ℕ → Type 0) (name key : List ℕ) (old : Option resources.MapItem) (s : resources.MapState) → MapTells P s → Gives (MapTells P) P (map_turns.remove_item name key old s)
map_remove P name key None s h = (h, tt)
map_remove P name key (Some old) s h = (h, tell_apart P s.listeners (event.Removed name key) h)

map_tells : (P : ℕ → Type 0) (name : List ℕ) (time s : ℕ) (o : MapOp) (x : resources.MapState) → P s → MapTells P x → Gives (MapTells P) P (map_turns.map_act name time s o x)
map_tells P name time s (map_op.Put k v) x p h = map_put P name k (map_turns.lasting v) (dicts.found x.entries k) x h
map_tells P name time s (map_op.PutIfAbsent k v) x p h = map_absent P name k (map_turns.lasting v) (dicts.found x.entries k) x h
map_tells P name time s (map_op.Replace k v) x p h = map_replace P name k (map_turns.lasting v) (dicts.found x.entries k) x h
map_tells P name time s (map_op.Remove k) x p h = map_remove P name k (dicts.found x.entries k) x h
map_tells P name time s map_op.Clear x p h = (h, removed P name x.listeners x.entries h)
map_tells P name time s map_op.Listen x p h = (listening P x.listeners s p h, tt)
map_tells P name time s (map_op.PutFor k v life) x p h = map_put P name k (map_turns.living v time life) (dicts.found x.entries k) x h

-- values
abbrev ValueTells : (ℕ → Type 0) → resources.ValueState → Type 0
ValueTells P s = AreApart P s.listeners

value_clear : (P : ℕ → Type 0) (name : List ℕ) (s : ℕ) (t : Option (List ℕ)) (x : resources.ValueState) → x.text ≡ t → ValueTells P x → Gives (ValueTells P) P (scalars.value_act name s value.Clear x)
value_clear P name s None x e h = rw e (h, tt)
value_clear P name s (Some v) x e h = rw e (h, tell_apart P x.listeners (event.Cleared name) h)

value_tells : (P : ℕ → Type 0) (name : List ℕ) (s : ℕ) (o : ValueOp) (x : resources.ValueState) → P s → ValueTells P x → Gives (ValueTells P) P (scalars.value_act name s o x)
value_tells P name s (value.Set v) x p h = (h, tell_apart P x.listeners (event.Set name v) h)
value_tells P name s (value.Cas e v) x p h = by_test (Gives (ValueTells P) P) (scalars.holds_text x.text e) _ _ (λ z. (h, tell_apart P x.listeners (event.Set name v) h)) (λ z. (h, tt))
value_tells P name s value.Clear x p h = value_clear P name s x.text x refl h
value_tells P name s value.Listen x p h = (listening P x.listeners s p h, tt)

-- locks
abbrev LockTells : (ℕ → Type 0) → resources.LockState → Type 0
LockTells P s = AreApart P s.waiting

lock_free : (P : ℕ → Type 0) (name : List ℕ) (place : ℕ) (r : Reply) (xs : List ℕ) → AreApart P xs → Gives (LockTells P) P (owners.lock_freed name place r xs)
lock_free P name place r [] h = (tt, tt)
lock_free P name place r (x ∷ xs) h = (h.2, (h.0, tt))

lock_take : (P : ℕ → Type 0) (name : List ℕ) (place s : ℕ) (o : Option resources.Holder) (x : resources.LockState) → P s → AllByRecursion (λ y. s ≢ y) x.waiting → LockTells P x → Gives (LockTells P) P (owners.lock_taken name place s o x)
lock_take P name place s None x p n h = (h, (p, tt))
lock_take P name place s (Some k) x p n h = by_test (Gives (LockTells P) P) (limits.is_full x.waiting) _ _ (λ e. (h, tt)) (λ e. (apart_end P s x.waiting p n h, tt))

lock_try : (P : ℕ → Type 0) (place s : ℕ) (o : Option resources.Holder) (x : resources.LockState) → LockTells P x → Gives (LockTells P) P (owners.lock_tried place s o x)
lock_try P place s None x h = (h, tt)
lock_try P place s (Some k) x h = (h, tt)

no_part : (x : resources.LockState) (s : ℕ) → owners.has_part x s ≡ false → dicts.has_session x.waiting s ≡ false
no_part x s e = go (owners.is_holder x.holder s) e
  where
    go : (b : Bool) → cond b true (dicts.has_session x.waiting s) ≡ false → dicts.has_session x.waiting s ≡ false
    go true z = absurd (cc)
    go false z = z

lock_tells : (P : ℕ → Type 0) (name : List ℕ) (place s : ℕ) (o : LockOp) (x : resources.LockState) → P s → LockTells P x → Gives (LockTells P) P (owners.lock_act name place s o x)
lock_tells P name place s lock.Lock x p h = by_test (Gives (LockTells P) P) (owners.has_part x s) _ _ (λ e. (h, tt)) (λ e. lock_take P name place s x.holder x p (not_there s x.waiting (no_part x s e)) h)
lock_tells P name place s lock.TryLock x p h = by_test (Gives (LockTells P) P) (owners.has_part x s) _ _ (λ e. (h, tt)) (λ e. lock_try P place s x.holder x h)
lock_tells P name place s lock.Unlock x p h = by_test (Gives (LockTells P) P) (owners.is_holder x.holder s) _ _ (λ e. lock_free P name place reply.Done x.waiting h) (λ e. (h, tt))
lock_tells P name place s lock.Cancel x p h =
    by_test (Gives (LockTells P) P) (dicts.has_session x.waiting s) _ _ (λ e. (apart_since (λ t. P t × (s ≢ t)) P (λ t z. z.0) (dicts.without_session x.waiting s) (apart_without P s x.waiting h), tt)) (λ e. (h, tt))

-- groups
abbrev GroupTells : (ℕ → Type 0) → resources.GroupState → Type 0
GroupTells P s = AreApart P s.listeners

elected_told : (P : ℕ → Type 0) (name : List ℕ) (place : ℕ) (members : List ℕ) (l : Option resources.GroupLeader) (xs : List ℕ) → AreApart P xs → AreTold P (owners.tell_elected name place members l xs)
elected_told P name place [] l xs h = tt
elected_told P name place (first ∷ members) l xs h = by_test (AreTold P) (owners.leads_group l first) _ _ (λ e. tt) (λ e. tell_apart P xs (event.Elected name first place) h)

group_change : (P : ℕ → Type 0) (name : List ℕ) (place : ℕ) (members : List ℕ) (e : Event) (x : resources.GroupState) → GroupTells P x → Gives (GroupTells P) P (owners.members_changed name place members e x)
group_change P name place members e x h = (h, all_append (λ t. P t.0) (resources.tell x.listeners e) (owners.tell_elected name place members x.leader x.listeners) (tell_apart P x.listeners e h) (elected_told P name place members x.leader x.listeners h))

group_tells : (P : ℕ → Type 0) (name : List ℕ) (place s : ℕ) (o : GroupOp) (x : resources.GroupState) → P s → GroupTells P x → Gives (GroupTells P) P (owners.group_act name place s o x)
group_tells P name place s group.Join x p h =
    by_test (Gives (GroupTells P) P) (dicts.has_session x.members s) _ _ (λ e. (h, tt))
    (λ e. by_test (Gives (GroupTells P) P) (limits.is_full x.members) _ _ (λ f. (h, tt)) (λ f. group_change P name place (x.members ++ s ∷ []) (event.Joined name s) x h))
group_tells P name place s group.Leave x p h =
    by_test (Gives (GroupTells P) P) (dicts.has_session x.members s) _ _ (λ e. group_change P name place (dicts.without_session x.members s) (event.Left name s) x h) (λ e. (h, tt))
group_tells P name place s group.Listen x p h = (listening P x.listeners s p h, tt)

-- topics
topic_tells : (P : ℕ → Type 0) (name : List ℕ) (s : ℕ) (o : TopicOp) (x : List ℕ) → P s → AreApart P x → Gives (AreApart P) P (collections.topic_act name s o x)
topic_tells P name s topic.Subscribe x p h = (listening P x s p h, tt)
topic_tells P name s topic.Unsubscribe x p h =
    by_test (Gives (AreApart P) P) (dicts.has_session x s) _ _ (λ e. (apart_since (λ t. P t × (s ≢ t)) P (λ t z. z.0) (dicts.without_session x s) (apart_without P s x h), tt)) (λ e. (h, tt))
topic_tells P name s (topic.Publish v) x p h = (h, tell_apart P x (event.Message name v) h)

-- what tells nobody
quiet : {S : Type 0} (P : ℕ → Type 0) (b : Bool) (x y : resources.Acted S) → AreTold P x.turn.told → AreTold P y.turn.told → AreTold P (cond b x y).turn.told
quiet P b x y h k = by_test (λ a. AreTold P a.turn.told) b x y (λ e. h) (λ e. k)

long_quiet : (P : ℕ → Type 0) (o : LongOp) (x : ℤ) → AreTold P (scalars.long_act o x).turn.told
long_quiet P (long.Add d) x = quiet P (scalars.fits_i64 (x +ℤ d)) (resources.replied (x +ℤ d) (reply.Number (x +ℤ d))) (resources.replied x reply.Overflow) tt tt
long_quiet P (long.GetAndAdd d) x = quiet P (scalars.fits_i64 (x +ℤ d)) (resources.replied (x +ℤ d) (reply.Number x)) (resources.replied x reply.Overflow) tt tt
long_quiet P (long.Set n) x = tt
long_quiet P (long.Cas e n) x = quiet P (int_eq x e) (resources.replied n reply.Yes) (resources.replied x reply.No) tt tt

abbrev Texts : Type 0
Texts = List (List ℕ)

set_quiet : (P : ℕ → Type 0) (o : SetOp) (x : Texts) → AreTold P (collections.set_act o x).turn.told
set_quiet P (set.Add v) x =
    let full : resources.Acted Texts = resources.replied x reply.Full in
    let more : resources.Acted Texts = resources.replied (dicts.with_text x v) reply.Yes in
    quiet P (dicts.has_text x v) (resources.replied x reply.No) (cond (limits.is_full x) full more) tt (quiet P (limits.is_full x) full more tt tt)
set_quiet P (set.Remove v) x = quiet P (dicts.has_text x v) (resources.replied (dicts.without_text x v) reply.Yes) (resources.replied x reply.No) tt tt
set_quiet P set.Clear x = tt

queue_quiet : (P : ℕ → Type 0) (o : QueueOp) (x : Texts) → AreTold P (collections.queue_act o x).turn.told
queue_quiet P (queue.Offer v) x = quiet P (limits.is_full x) (resources.replied x reply.Full) (resources.replied (x ++ v ∷ []) reply.Yes) tt tt
queue_quiet P queue.Poll x = tt

abbrev Pairs : Type 0
Pairs = List (List ℕ × List ℕ)

multimap_quiet : (P : ℕ → Type 0) (o : MultimapOp) (x : Pairs) → AreTold P (collections.multimap_act o x).turn.told
multimap_quiet P (multimap.Put k v) x =
    let full : resources.Acted Pairs = resources.replied x reply.Full in
    let more : resources.Acted Pairs = resources.replied (insert_key collections.pair_cmp x (k, v)) reply.Yes in
    quiet P (collections.has_pair x (k, v)) (resources.replied x reply.No) (cond (limits.is_full x) full more) tt (quiet P (limits.is_full x) full more tt tt)
multimap_quiet P (multimap.Remove k v) x =
    quiet P (collections.has_pair x (k, v)) (resources.replied (remove_key (is_at (collections.pair_cmp (k, v))) x) reply.Yes) (resources.replied x reply.No) tt tt
multimap_quiet P (multimap.RemoveAll k) x = tt

-- an operation at a resource, at a name, at the book
resource_tells : (P : ℕ → Type 0) (name : List ℕ) (place time s : ℕ) (o : Op) (r : resources.Resource) → P s → MayTell P r → Gives (MayTell P) P (books.resource_act name place time s o r)
resource_tells P name place time s (op.Map o) (resources.AMap x) p h = map_tells P name time s o x p h
resource_tells P name place time s (op.Value o) (resources.AValue x) p h = value_tells P name s o x p h
resource_tells P name place time s (op.Long o) (resources.ALong x) p h = (tt, long_quiet P o x)
resource_tells P name place time s (op.Lock o) (resources.ALock x) p h = lock_tells P name place s o x p h
resource_tells P name place time s (op.Group o) (resources.AGroup x) p h = group_tells P name place s o x p h
resource_tells P name place time s (op.Set o) (resources.ASet x) p h = (tt, set_quiet P o x)
resource_tells P name place time s (op.Queue o) (resources.AQueue x) p h = (tt, queue_quiet P o x)
resource_tells P name place time s (op.Multimap o) (resources.AMultimap x) p h = (tt, multimap_quiet P o x)
resource_tells P name place time s (op.Topic o) (resources.ATopic x) p h = topic_tells P name s o x p h
resource_tells P name place time s o r p h = (h, tt)

new_tells : (P : ℕ → Type 0) (o : Op) → MayTell P (resources.new_resource (books.op_kind o))
new_tells P (op.Map o) = tt
new_tells P (op.Value o) = tt
new_tells P (op.Long o) = tt
new_tells P (op.Lock o) = tt
new_tells P (op.Group o) = tt
new_tells P (op.Set o) = tt
new_tells P (op.Queue o) = tt
new_tells P (op.Multimap o) = tt
new_tells P (op.Topic o) = tt

abbrev MayTellAt : (ℕ → Type 0) → Option resources.Resource → Type 0
MayTellAt P None = Unit {0}
MayTellAt P (Some r) = MayTell P r

found_tells : (P : ℕ → Type 0) (book : books.Book) (name : List ℕ) → AllMayTell P book → MayTellAt P (dicts.found book name)
found_tells P [] name h = tt
found_tells P (e ∷ book) name h = by_test (MayTellAt P) _ (Some e.1) (dicts.found book name) (λ z. h.0) (λ z. found_tells P book name h.1)

with_tells : (P : ℕ → Type 0) (book : books.Book) (name : List ℕ) (r : resources.Resource) → MayTell P r → AllMayTell P book → AllMayTell P (dicts.with_entry book name r)
with_tells P [] name r k h = (k, tt)
with_tells P (e ∷ book) name r k h = by_order (dicts.bytes_cmp name e.0) (with_tells P book name r k h.1)
  where
    by_order : (o : Ordering) → AllMayTell P (dicts.with_entry book name r) → AllMayTell P (match_ordering o ((name, r) ∷ e ∷ book) ((e.0, r) ∷ book) (e ∷ dicts.with_entry book name r))
    by_order Less z = (k, h)
    by_order Equal z = (k, h.1)
    by_order Greater z = (h.0, z)

turn_at_tells : (P : ℕ → Type 0) (book : books.Book) (place time s : ℕ) (name : List ℕ) (o : Op) (x : Option resources.Resource) → P s → AllMayTell P book → MayTellAt P x → Gives (AllMayTell P) P (books.turn_at book place time s name o x)
turn_at_tells P book place time s name o None p h k =
    by_test (Gives (AllMayTell P) P) (limits.is_full book) _ _ (λ e. (h, tt))
    (λ e. let g = resource_tells P name place time s o (resources.new_resource (books.op_kind o)) p (new_tells P o) in (with_tells P book name _ g.0 h, g.1))
turn_at_tells P book place time s name o (Some r) p h k =
    let g = resource_tells P name place time s o r p k in (with_tells P book name _ g.0 h, g.1)

-- lives that end
pass_tells : (P : ℕ → Type 0) (time : ℕ) (r : resources.Resource) → MayTell P r → MayTell P (books.resource_pass time r)
pass_tells P time (resources.AMap s) h = h
pass_tells P time r h = h

passed_told : (P : ℕ → Type 0) (name : List ℕ) (time : ℕ) (r : resources.Resource) → MayTell P r → AreTold P (books.resource_passed name time r)
passed_told P name time (resources.AMap s) h = removed P name s.listeners (filter (λ e. map_turns.life_ended time e.1.life) s.entries) h
passed_told P name time r h = tt

book_pass : (P : ℕ → Type 0) (time : ℕ) (book : books.Book) → AllMayTell P book → AllMayTell P (books.pass time book)
book_pass P time [] h = tt
book_pass P time (e ∷ book) h = (pass_tells P time e.1 h.0, book_pass P time book h.1)

book_passed : (P : ℕ → Type 0) (time : ℕ) (book : books.Book) → AllMayTell P book → AreTold P (books.passed time book)
book_passed P time [] h = tt
book_passed P time (e ∷ book) h = all_append (λ t. P t.0) (books.resource_passed e.0 time e.1) (books.passed time book) (passed_told P e.0 time e.1 h.0) (book_passed P time book h.1)

-- the end of a session, which is none of those that are told from then on
abbrev ButOne : (ℕ → Type 0) → ℕ → ℕ → Type 0
ButOne P s t = P t × (s ≢ t)

-- before the session leaves the queues of locks, these may have it still
abbrev MayTellYet : (ℕ → Type 0) → ℕ → resources.Resource → Type 0
MayTellYet P s (resources.ALock x) = AreApart P x.waiting
MayTellYet P s r = MayTell (ButOne P s) r

abbrev AllMayTellYet : (ℕ → Type 0) → ℕ → books.Book → Type 0
AllMayTellYet P s book = AllByRecursion (λ e. MayTellYet P s e.1) book

unlistened_tells : (P : ℕ → Type 0) (s : ℕ) (r : resources.Resource) → MayTell P r → MayTellYet P s (books.unlistened s r)
unlistened_tells P s (resources.AMap x) h = apart_without P s x.listeners h
unlistened_tells P s (resources.AValue x) h = apart_without P s x.listeners h
unlistened_tells P s (resources.AGroup x) h = apart_without P s x.listeners h
unlistened_tells P s (resources.ATopic x) h = apart_without P s x h
unlistened_tells P s (resources.ALock x) h = h
unlistened_tells P s r h = tt

all_unlistened : (P : ℕ → Type 0) (s : ℕ) (book : books.Book) → AllMayTell P book → AllMayTellYet P s (books.all_unlistened s book)
all_unlistened P s [] h = tt
all_unlistened P s (e ∷ book) h = (unlistened_tells P s e.1 h.0, all_unlistened P s book h.1)

yet_pass : (P : ℕ → Type 0) (s time : ℕ) (r : resources.Resource) → MayTellYet P s r → MayTellYet P s (books.resource_pass time r)
yet_pass P s time (resources.AMap x) h = h
yet_pass P s time r h = h

yet_passed : (P : ℕ → Type 0) (s : ℕ) (name : List ℕ) (time : ℕ) (r : resources.Resource) → MayTellYet P s r → AreTold (ButOne P s) (books.resource_passed name time r)
yet_passed P s name time (resources.AMap x) h = removed (ButOne P s) name x.listeners (filter (λ e. map_turns.life_ended time e.1.life) x.entries) h
yet_passed P s name time r h = tt

all_yet_pass : (P : ℕ → Type 0) (s time : ℕ) (book : books.Book) → AllMayTellYet P s book → AllMayTellYet P s (books.pass time book)
all_yet_pass P s time [] h = tt
all_yet_pass P s time (e ∷ book) h = (yet_pass P s time e.1 h.0, all_yet_pass P s time book h.1)

all_yet_passed : (P : ℕ → Type 0) (s time : ℕ) (book : books.Book) → AllMayTellYet P s book → AreTold (ButOne P s) (books.passed time book)
all_yet_passed P s time [] h = tt
all_yet_passed P s time (e ∷ book) h = all_append (λ t. ButOne P s t.0) (books.resource_passed e.0 time e.1) (books.passed time book) (yet_passed P s e.0 time e.1 h.0) (all_yet_passed P s time book h.1)

end_tells : (P : ℕ → Type 0) (name : List ℕ) (place s : ℕ) (r : resources.Resource) → MayTellYet P s r → Gives (MayTell (ButOne P s)) (ButOne P s) (books.resource_end name place s r)
end_tells P name place s (resources.ALock x) h =
    let w = apart_without P s x.waiting h in
    by_test (λ (a : resources.Acted resources.LockState). Gives (MayTell (ButOne P s)) (ButOne P s) (books.at_kind resources.ALock a)) (owners.is_holder x.holder s) _ _ (λ e. lock_free (ButOne P s) name place reply.Done (dicts.without_session x.waiting s) w) (λ e. (w, tt))
end_tells P name place s (resources.AGroup x) h =
    by_test (λ (a : resources.Acted resources.GroupState). Gives (MayTell (ButOne P s)) (ButOne P s) (books.at_kind resources.AGroup a)) (dicts.has_session x.members s) _ _
    (λ e. group_change (ButOne P s) name place (dicts.without_session x.members s) (event.Left name s) x h) (λ e. (h, tt))
end_tells P name place s r h = (h, tt)

all_end : (P : ℕ → Type 0) (place s : ℕ) (book : books.Book) → AllMayTellYet P s book → AllMayTell (ButOne P s) (books.left_by place s book)
all_end P place s [] h = tt
all_end P place s (e ∷ book) h = ((end_tells P e.0 place s e.1 h.0).0, all_end P place s book h.1)

all_end_told : (P : ℕ → Type 0) (place s : ℕ) (book : books.Book) → AllMayTellYet P s book → AreTold (ButOne P s) (books.left_told place s book)
all_end_told P place s [] h = tt
all_end_told P place s (e ∷ book) h = all_append (λ t. ButOne P s t.0) (books.resource_end e.0 place s e.1).turn.told (books.left_told place s book) (end_tells P e.0 place s e.1 h.0).1 (all_end_told P place s book h.1)

pub ended_tells : (P : ℕ → Type 0) (place time s : ℕ) (book : books.Book) → AllMayTell P book → Gives (AllMayTell (ButOne P s)) (ButOne P s) (books.ended book place time s)
ended_tells P place time s book h =
    let q = all_unlistened P s book h in
    let l = all_yet_pass P s time (books.all_unlistened s book) q in (
      all_end P place s (books.pass time (books.all_unlistened s book)) l,
      all_append (λ t. ButOne P s t.0) (books.passed time (books.all_unlistened s book)) (books.left_told place s (books.pass time (books.all_unlistened s book))) (all_yet_passed P s time (books.all_unlistened s book) q)
          (all_end_told P place s (books.pass time (books.all_unlistened s book)) l),
    )

-- a command of a session, and an act of none
pub turn_tells : (P : ℕ → Type 0) (place time s : ℕ) (name : List ℕ) (o : Op) (book : books.Book) → P s → AllMayTell P book → Gives (AllMayTell P) P (books.acted book place time (act.Do s name o))
turn_tells P place time s name o book p h =
    let b = book_pass P time book h in
    let g = turn_at_tells P (books.pass time book) place time s name o (dicts.found (books.pass time book) name) p b (found_tells P (books.pass time book) name b) in
    (g.0, all_append (λ t. P t.0) (books.passed time book) (books.turn (books.pass time book) place time s name o).turn.told (book_passed P time book h) g.1)

pub other_tells : (P : ℕ → Type 0) (time : ℕ) (book : books.Book) → AllMayTell P book → Gives (AllMayTell P) P (resources.told_too (books.pass time book) reply.Done (books.passed time book))
other_tells P time book h = (book_pass P time book h, book_passed P time book h)

-- what passes is told
pub may_since : (P R : ℕ → Type 0) → ((s : ℕ) → P s → R s) → (r : resources.Resource) → MayTell P r → MayTell R r
may_since P R f (resources.AMap x) h = apart_since P R f x.listeners h
may_since P R f (resources.AValue x) h = apart_since P R f x.listeners h
may_since P R f (resources.ALock x) h = apart_since P R f x.waiting h
may_since P R f (resources.AGroup x) h = apart_since P R f x.listeners h
may_since P R f (resources.ATopic x) h = apart_since P R f x h
may_since P R f r h = tt

pub gives_since : (P R : ℕ → Type 0) → ((s : ℕ) → P s → R s) → (a : resources.Acted books.Book) → Gives (AllMayTell P) P a → Gives (AllMayTell R) R a
gives_since P R f a g = (
  all_since (λ e. MayTell P e.1) (λ e. MayTell R e.1) (λ e h. may_since P R f e.1 h) a.state g.0,
  all_since (λ t. P t.0) (λ t. R t.0) (λ t h. f t.0 h) a.turn.told g.1,
)
