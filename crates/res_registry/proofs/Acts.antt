-- What an act may make of the sessions of a resource, by its kind: what holds of each of these holds after the act.
use Rattle.std.proofs.Common.{◌≡◌, ℕ, Bool, true, false, cond, List, [], ◌∷◌, ◌++◌, Option, Some, None, refl, sym, subst}
use Rattle.ax_types.specs.declared.ops.Op.TheVariants as op
use Rattle.ax_types.specs.declared.ops.MapOp.{MapOp}
use Rattle.ax_types.specs.declared.ops.MapOp.TheVariants as map_op
use Rattle.ax_types.specs.declared.ops.ValueOp.{ValueOp}
use Rattle.ax_types.specs.declared.ops.ValueOp.TheVariants as value_op
use Rattle.ax_types.specs.declared.ops.LockOp.{LockOp}
use Rattle.ax_types.specs.declared.ops.LockOp.TheVariants as lock_op
use Rattle.ax_types.specs.declared.ops.GroupOp.{GroupOp}
use Rattle.ax_types.specs.declared.ops.GroupOp.TheVariants as group_op
use Rattle.ax_types.specs.declared.ops.TopicOp.{TopicOp}
use Rattle.ax_types.specs.declared.ops.TopicOp.TheVariants as topic_op
use Rattle.ax_types.specs.declared.replies.Reply.TheVariants as reply
use Rattle.ax_types.specs.declared.replies.Event.TheVariants as event
use Rattle.spec_book.specs.Limits as limits
use Rattle.spec_book.specs.Dict as dicts
use Rattle.spec_book.specs.Resources as resources
use Rattle.spec_book.specs.Scalars as scalars
use Rattle.spec_book.specs.MapTurn as map_turns
use Rattle.spec_book.specs.Owners as owners
use Rattle.spec_book.specs.Collections as collections
use Rattle.res_registry.specs.Indexes as indexes
use Rattle.res_registry.proofs.Sessions.{either}

-- ---- maps
put-listeners : (name key : List ℕ) (item : resources.MapItem) (old : Option resources.MapItem) (m : resources.MapState) → (map_turns.put_item name key item old m).state.listeners ≡ m.listeners
put-listeners name key item None m =
    either (λ (a : resources.Acted resources.MapState). a.state.listeners ≡ m.listeners) (limits.is_full m.entries) (resources.replied m reply.Full) (map_turns.set_item name key item reply.Nothing m) refl refl
put-listeners name key item (Some old) m = refl

put_absent-listeners : (name key : List ℕ) (item : resources.MapItem) (old : Option resources.MapItem) (m : resources.MapState) → (map_turns.put_absent name key item old m).state.listeners ≡ m.listeners
put_absent-listeners name key item None m = put-listeners name key item None m
put_absent-listeners name key item (Some old) m = refl

replace-listeners : (name key : List ℕ) (item : resources.MapItem) (old : Option resources.MapItem) (m : resources.MapState) → (map_turns.replace_item name key item old m).state.listeners ≡ m.listeners
replace-listeners name key item None m = refl
replace-listeners name key item (Some old) m = refl

remove-listeners : (name key : List ℕ) (old : Option resources.MapItem) (m : resources.MapState) → (map_turns.remove_item name key old m).state.listeners ≡ m.listeners
remove-listeners name key None m = refl
remove-listeners name key (Some old) m = refl

-- the listeners are those before, or those after the session listens
pub after_map : (P : List ℕ → Type 0) (name : List ℕ) (time session : ℕ) (o : MapOp) (m : resources.MapState)
    → P m.listeners
    → (indexes.concerns (op.Map o) ≡ true → P (scalars.listen_after m.listeners session))
    → P (map_turns.map_act name time session o m).state.listeners
after_map P name time session (map_op.Put k v) m same more = subst P (sym (put-listeners name k (map_turns.lasting v) (dicts.found m.entries k) m)) same
after_map P name time session (map_op.PutIfAbsent k v) m same more =
    subst P (sym (put_absent-listeners name k (map_turns.lasting v) (dicts.found m.entries k) m)) same
after_map P name time session (map_op.Replace k v) m same more = subst P (sym (replace-listeners name k (map_turns.lasting v) (dicts.found m.entries k) m)) same
after_map P name time session (map_op.Remove k) m same more = subst P (sym (remove-listeners name k (dicts.found m.entries k) m)) same
after_map P name time session map_op.Clear m same more = same
after_map P name time session map_op.Listen m same more = more refl
after_map P name time session (map_op.PutFor k v life) m same more =
    subst P (sym (put-listeners name k (map_turns.living v time life) (dicts.found m.entries k) m)) same

-- ---- values
pub after_value : (P : List ℕ → Type 0) (name : List ℕ) (session : ℕ) (o : ValueOp) (text : Option (List ℕ)) (ls : List ℕ)
    → P ls
    → (indexes.concerns (op.Value o) ≡ true → P (scalars.listen_after ls session))
    → P (scalars.value_act name session o (record { text = text; listeners = ls })).state.listeners
after_value P name session (value_op.Set v) text ls same more = same
after_value P name session (value_op.Cas e v) text ls same more =
    let before : resources.ValueState = record { text = text; listeners = ls } in
    let after : resources.ValueState = record { text = Some v; listeners = ls } in
    either (λ (a : resources.Acted resources.ValueState). P a.state.listeners) (scalars.holds_text text e) (resources.told_too after reply.Yes (resources.tell ls (event.Set name v))) (resources.replied before reply.No)
    same same
after_value P name session value_op.Clear None ls same more = same
after_value P name session value_op.Clear (Some v) ls same more = same
after_value P name session value_op.Listen text ls same more = more refl

-- ---- topics
pub after_topic : (P : List ℕ → Type 0) (name : List ℕ) (session : ℕ) (o : TopicOp) (s : List ℕ)
    → P s
    → (indexes.concerns (op.Topic o) ≡ true → P (scalars.listen_after s session))
    → (indexes.concerns (op.Topic o) ≡ true → P (dicts.without_session s session))
    → P (collections.topic_act name session o s).state
after_topic P name session topic_op.Subscribe s same more less = more refl
after_topic P name session topic_op.Unsubscribe s same more less =
    either (λ (a : resources.Acted (List ℕ)). P a.state) (dicts.has_session s session) (resources.replied (dicts.without_session s session) reply.Yes) (resources.replied s reply.No) (less refl) same
after_topic P name session (topic_op.Publish v) s same more less = same

-- ---- locks
-- what holds of both holds of whichever is taken, where the test is known in each
either_by : {A : Type 0} (P : A → Type 0) (b : Bool) (x y : A) → (b ≡ true → P x) → (b ≡ false → P y) → P (cond b x y)
either_by P true x y p q = p refl
either_by P false x y p q = q refl

lock_taken-after : (P : resources.LockState → Type 0) (name : List ℕ) (place session : ℕ) (holder : Option resources.Holder) (l : resources.LockState)
    → P l
    → (holder ≡ None → P (record l { holder = owners.held_from place session }))
    → P (record l { waiting = l.waiting ++ session ∷ [] })
    → P (owners.lock_taken name place session holder l).state
lock_taken-after P name place session None l same holds waits = holds refl
lock_taken-after P name place session (Some h) l same holds waits =
    either (λ (a : resources.Acted resources.LockState). P a.state) (limits.is_full l.waiting) (resources.replied l reply.Full) (resources.replied (record l { waiting = l.waiting ++ session ∷ [] }) reply.Done)
    same waits

lock_tried-after : (P : resources.LockState → Type 0) (place session : ℕ) (holder : Option resources.Holder) (l : resources.LockState)
    → P l
    → (holder ≡ None → P (record l { holder = owners.held_from place session }))
    → P (owners.lock_tried place session holder l).state
lock_tried-after P place session None l same holds = holds refl
lock_tried-after P place session (Some h) l same holds = same

pub after_lock : (P : resources.LockState → Type 0) (name : List ℕ) (place session : ℕ) (o : LockOp) (l : resources.LockState)
    → P l
    → (l.holder ≡ None → P (record l { holder = owners.held_from place session }))
    → (owners.has_part l session ≡ false → P (record l { waiting = l.waiting ++ session ∷ [] }))
    → (owners.is_holder l.holder session ≡ true → P (owners.lock_freed name place reply.Done l.waiting).state)
    → P (record l { waiting = dicts.without_session l.waiting session })
    → P (owners.lock_act name place session o l).state
after_lock P name place session lock_op.Lock l same holds waits freed less =
    either_by (λ (a : resources.Acted resources.LockState). P a.state) (owners.has_part l session) (resources.replied l reply.Already) (owners.lock_taken name place session l.holder l)
    (λ known. same) (λ apart. lock_taken-after P name place session l.holder l same holds (waits apart))
after_lock P name place session lock_op.TryLock l same holds waits freed less =
    either (λ (a : resources.Acted resources.LockState). P a.state) (owners.has_part l session) (resources.replied l reply.Already) (owners.lock_tried place session l.holder l)
    same (lock_tried-after P place session l.holder l same holds)
after_lock P name place session lock_op.Unlock l same holds waits freed less =
    either_by (λ (a : resources.Acted resources.LockState). P a.state) (owners.is_holder l.holder session) (owners.lock_freed name place reply.Done l.waiting) (resources.replied l reply.NotHolder)
    freed (λ apart. same)
after_lock P name place session lock_op.Cancel l same holds waits freed less =
    either (λ (a : resources.Acted resources.LockState). P a.state) (dicts.has_session l.waiting session) (resources.replied (record l { waiting = dicts.without_session l.waiting session }) reply.Yes)
    (resources.replied l reply.No) less same

-- ---- groups, by their members and listeners
pub after_group : (P : List ℕ → List ℕ → Type 0) (name : List ℕ) (place session : ℕ) (o : GroupOp) (g : resources.GroupState)
    → P g.members g.listeners
    → (dicts.has_session g.members session ≡ false → P (g.members ++ session ∷ []) g.listeners)
    → P (dicts.without_session g.members session) g.listeners
    → P g.members (scalars.listen_after g.listeners session)
    → P (owners.group_act name place session o g).state.members (owners.group_act name place session o g).state.listeners
after_group P name place session group_op.Join g same joins leaves listens =
    let Q : resources.Acted resources.GroupState → Type 0 = λ a. P a.state.members a.state.listeners in
    let joined : resources.Acted resources.GroupState = owners.members_changed name place (g.members ++ session ∷ []) (event.Joined name session) g in
    either_by Q (dicts.has_session g.members session) (resources.replied g reply.Already) (cond (limits.is_full g.members) (resources.replied g reply.Full) joined)
    (λ known. same) (λ apart. either Q (limits.is_full g.members) (resources.replied g reply.Full) joined same (joins apart))
after_group P name place session group_op.Leave g same joins leaves listens =
    let Q : resources.Acted resources.GroupState → Type 0 = λ a. P a.state.members a.state.listeners in
    let left : resources.Acted resources.GroupState = owners.members_changed name place (dicts.without_session g.members session) (event.Left name session) g in
    either Q (dicts.has_session g.members session) left (resources.replied g reply.NotMember) leaves same
after_group P name place session group_op.Listen g same joins leaves listens = listens
