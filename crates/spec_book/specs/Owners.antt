-- Locks with fencing numbers, and groups with an elected leader.
use Rattle.std.specs.Prelude.{ℕ, Bool, true, false, if◌then◌else◌, nat_eq, List, [], ◌∷◌, ◌++◌, length, Option, Some, None, pos}
use Rattle.ax_types.specs.declared.ops.LockOp.{LockOp}
use Rattle.ax_types.specs.declared.ops.LockOp.TheVariants as lock
use Rattle.ax_types.specs.declared.ops.LockQuery.{LockQuery}
use Rattle.ax_types.specs.declared.ops.LockQuery.TheVariants as lock_query
use Rattle.ax_types.specs.declared.ops.GroupOp.{GroupOp}
use Rattle.ax_types.specs.declared.ops.GroupOp.TheVariants as group
use Rattle.ax_types.specs.declared.ops.GroupQuery.{GroupQuery}
use Rattle.ax_types.specs.declared.ops.GroupQuery.TheVariants as group_query
use Rattle.ax_types.specs.declared.replies.Reply.{Reply}
use Rattle.ax_types.specs.declared.replies.Reply.TheVariants as reply
use Rattle.ax_types.specs.declared.replies.Event.{Event}
use Rattle.ax_types.specs.declared.replies.Event.TheVariants as event
use Rattle.spec_book.specs.Limits as limits
use Rattle.spec_book.specs.Dict as dicts
use Rattle.spec_book.specs.Resources as resources
use Rattle.spec_book.specs.Scalars as scalars

-- whether the session holds the lock
abbrev pub is_holder : Option resources.Holder → ℕ → Bool
is_holder None session = false
is_holder (Some h) session = nat_eq session h.session

-- whether the session holds the lock or waits for it
abbrev pub has_part : resources.LockState → ℕ → Bool
has_part s session = if is_holder s.holder session then true else dicts.has_session s.waiting session

-- the lock is the session's from this place on
abbrev pub held_from : ℕ → ℕ → Option resources.Holder
held_from place session = Some (record { session = session; fence = place })

-- `granted` to the new holder alone
abbrev pub tell_granted : List ℕ → ℕ → ℕ → List (ℕ × Event)
tell_granted name place session = (session, event.Granted name place) ∷ []

-- the holder lets the lock go: it is granted to the first that waits
abbrev pub lock_freed : List ℕ → ℕ → Reply → List ℕ → resources.Acted resources.LockState
lock_freed name place r [] = resources.replied (record { holder = None; waiting = [] }) r
lock_freed name place r (next ∷ waiting) =
    resources.told_too (record { holder = held_from place next; waiting = waiting }) r (tell_granted name place next)

-- `lock`, by a session that neither holds the lock nor waits for it
abbrev pub lock_taken : List ℕ → ℕ → ℕ → Option resources.Holder → resources.LockState → resources.Acted resources.LockState
lock_taken name place session None s =
    resources.told_too (record s { holder = held_from place session }) reply.Done (tell_granted name place session)
lock_taken name place session (Some h) s =
    if limits.is_full s.waiting then resources.replied s reply.Full else resources.replied (record s { waiting = s.waiting ++ session ∷ [] }) reply.Done

-- `try_lock`, by a session that neither holds the lock nor waits for it: nobody is told
abbrev pub lock_tried : ℕ → ℕ → Option resources.Holder → resources.LockState → resources.Acted resources.LockState
lock_tried place session None s = resources.replied (record s { holder = held_from place session }) (reply.Fence place)
lock_tried place session (Some h) s = resources.replied s reply.Busy

abbrev pub lock_act : List ℕ → ℕ → ℕ → LockOp → resources.LockState → resources.Acted resources.LockState
lock_act name place session lock.Lock s = if has_part s session then resources.replied s reply.Already else lock_taken name place session s.holder s
lock_act name place session lock.TryLock s = if has_part s session then resources.replied s reply.Already else lock_tried place session s.holder s
lock_act name place session lock.Unlock s =
    if is_holder s.holder session then lock_freed name place reply.Done s.waiting else resources.replied s reply.NotHolder
lock_act name place session lock.Cancel s =
    if dicts.has_session s.waiting session then resources.replied (record s { waiting = dicts.without_session s.waiting session }) reply.Yes
    else resources.replied s reply.No

abbrev pub lock_ask : LockQuery → resources.LockState → Reply
lock_ask lock_query.Holder s = holder_reply s.holder
  where
    holder_reply : Option resources.Holder → Reply
    holder_reply None = reply.Nothing
    holder_reply (Some h) = reply.Holder h.session h.fence
lock_ask lock_query.Waiting s = reply.Number (pos (length s.waiting))

-- the session ended: it leaves the queue, and the lock that it holds is freed
abbrev pub lock_end : List ℕ → ℕ → ℕ → resources.LockState → resources.Acted resources.LockState
lock_end name place session s =
    if is_holder s.holder session then lock_freed name place reply.Done (dicts.without_session s.waiting session)
    else resources.replied (record s { waiting = dicts.without_session s.waiting session }) reply.Done

-- whether the session leads the group
abbrev pub leads_group : Option resources.GroupLeader → ℕ → Bool
leads_group None session = false
leads_group (Some l) session = nat_eq session l.session

-- the leader after a change of members: the earliest member, with the place of the change where it is a new one
abbrev pub leader_of : ℕ → List ℕ → Option resources.GroupLeader → Option resources.GroupLeader
leader_of place [] leader = None
leader_of place (first ∷ members) leader =
    if leads_group leader first then leader else Some (record { session = first; term = place })

-- `elected`, where a change of members made a new leader
abbrev pub tell_elected : List ℕ → ℕ → List ℕ → Option resources.GroupLeader → List ℕ → List (ℕ × Event)
tell_elected name place [] leader listeners = []
tell_elected name place (first ∷ members) leader listeners =
    if leads_group leader first then [] else resources.tell listeners (event.Elected name first place)

-- the members after a change, of which the listeners are told, then of a new leader
abbrev pub members_changed : List ℕ → ℕ → List ℕ → Event → resources.GroupState → resources.Acted resources.GroupState
members_changed name place members change s =
    resources.told_too (record s { members = members; leader = leader_of place members s.leader }) reply.Done
    (resources.tell s.listeners change ++ tell_elected name place members s.leader s.listeners)

abbrev pub group_act : List ℕ → ℕ → ℕ → GroupOp → resources.GroupState → resources.Acted resources.GroupState
group_act name place session group.Join s =
    if dicts.has_session s.members session then resources.replied s reply.Already
    else (if limits.is_full s.members then resources.replied s reply.Full
    else members_changed name place (s.members ++ session ∷ []) (event.Joined name session) s)
group_act name place session group.Leave s =
    if dicts.has_session s.members session
    then members_changed name place (dicts.without_session s.members session) (event.Left name session) s
    else resources.replied s reply.NotMember
group_act name place session group.Listen s =
    resources.replied (record s { listeners = scalars.listen_after s.listeners session }) (scalars.listen_reply s.listeners session)

abbrev pub group_ask : GroupQuery → resources.GroupState → Reply
group_ask group_query.Members s = reply.Members s.members
group_ask group_query.Leader s = leader_reply s.leader
  where
    leader_reply : Option resources.GroupLeader → Reply
    leader_reply None = reply.Nothing
    leader_reply (Some l) = reply.Leader l.session l.term

abbrev pub group_unlistened : ℕ → resources.GroupState → resources.GroupState
group_unlistened session s = record s { listeners = dicts.without_session s.listeners session }

-- the session ended, and is no listener any more: it leaves as by `leave`
abbrev pub group_end : List ℕ → ℕ → ℕ → resources.GroupState → resources.Acted resources.GroupState
group_end name place session s =
    if dicts.has_session s.members session
    then members_changed name place (dicts.without_session s.members session) (event.Left name session) s
    else resources.replied s reply.Done
