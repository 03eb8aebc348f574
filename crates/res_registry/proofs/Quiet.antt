-- What changes nothing: the end of a session that a resource does not know, and a time before the first end of a life.
use Rattle.std.proofs.Common.{◌≡◌, ℕ, ◌<◌, Bool, true, false, cond, List, [], IfSome, refl, sym, ap}
use Rattle.std.specs.Ordering.{nat_cmp}
use Rattle.std.specs.BTreeMap.{is_at}
use Rattle.std.proofs.lemmas.Bool.{false≢true, or_parts}
use Rattle.ax_types.specs.declared.replies.Reply.TheVariants as reply
use Rattle.ax_types.specs.declared.replies.Event.TheVariants as event
use Rattle.spec_book.specs.Dict as dicts
use Rattle.spec_book.specs.Resources as resources
use Rattle.spec_book.specs.Owners as owners
use Rattle.spec_book.specs.Book as books
use Rattle.res_map.proofs.Idle.{map_pass-idle, map_passed-idle}
use Rattle.res_sessions.proofs.Sessions.{remove_key-absent}
use Rattle.res_registry.specs.Indexes as indexes

-- ---- the end of a session that is not known
absent_without : (session : ℕ) (xs : List ℕ) → dicts.has_session xs session ≡ false → dicts.without_session xs session ≡ xs
absent_without session xs h = remove_key-absent (is_at (nat_cmp session)) xs h

pub quiet-unlistened : (session : ℕ) (r : resources.Resource) → indexes.knows r session ≡ false → books.unlistened session r ≡ r
quiet-unlistened session (resources.AMap m) h = ap (λ (ls : List ℕ). resources.AMap (record m { listeners = ls })) (absent_without session m.listeners h)
quiet-unlistened session (resources.AValue v) h = ap (λ (ls : List ℕ). resources.AValue (record v { listeners = ls })) (absent_without session v.listeners h)
quiet-unlistened session (resources.AGroup g) h =
    ap (λ (ls : List ℕ). resources.AGroup (record g { listeners = ls })) (absent_without session g.listeners (or_parts (dicts.has_session g.members session) (dicts.has_session g.listeners session) h).1)
quiet-unlistened session (resources.ATopic t) h = ap resources.ATopic (absent_without session t h)
quiet-unlistened session r h = refl

quiet_lock : (name : List ℕ) (place session : ℕ) (l : resources.LockState) (b : Bool) → cond b true (dicts.has_session l.waiting session) ≡ false
    → books.at_kind resources.ALock (cond b (owners.lock_freed name place reply.Done (dicts.without_session l.waiting session)) (resources.replied (record l { waiting = dicts.without_session l.waiting session }) reply.Done))
    ≡ resources.replied (resources.ALock l) reply.Done
quiet_lock name place session l true h = absurd (false≢true (sym h))
quiet_lock name place session l false h = ap (λ (w : List ℕ). resources.replied (resources.ALock (record l { waiting = w })) reply.Done) (absent_without session l.waiting h)

quiet_group : (name : List ℕ) (place session : ℕ) (g : resources.GroupState) (b : Bool) → b ≡ false
    → books.at_kind resources.AGroup (cond b (owners.members_changed name place (dicts.without_session g.members session) (event.Left name session) g) (resources.replied g reply.Done))
    ≡ resources.replied (resources.AGroup g) reply.Done
quiet_group name place session g true h = absurd (false≢true (sym h))
quiet_group name place session g false h = refl

pub quiet-end : (name : List ℕ) (place session : ℕ) (r : resources.Resource) → indexes.knows r session ≡ false → books.resource_end name place session r ≡ resources.replied r reply.Done
quiet-end name place session (resources.ALock l) h = quiet_lock name place session l (owners.is_holder l.holder session) h
quiet-end name place session (resources.AGroup g) h =
    quiet_group name place session g (dicts.has_session g.members session) (or_parts (dicts.has_session g.members session) (dicts.has_session g.listeners session) h).0
quiet-end name place session r h = refl

-- ---- a time before the first end
pub quiet-pass : (name : List ℕ) (time : ℕ) (r : resources.Resource) → IfSome (indexes.next_end r) (λ end. time < end)
    → (books.resource_pass time r ≡ r) × (books.resource_passed name time r ≡ [])
quiet-pass name time (resources.AMap m) h = (ap resources.AMap (map_pass-idle time m h), map_passed-idle name time m h)
quiet-pass name time r h = (refl, refl)

-- ---- the end of a session ends no life
pub ends-unlistened : (session : ℕ) (r : resources.Resource) → indexes.next_end (books.unlistened session r) ≡ indexes.next_end r
ends-unlistened session (resources.AMap m) = refl
ends-unlistened session (resources.AValue v) = refl
ends-unlistened session (resources.AGroup g) = refl
ends-unlistened session (resources.ATopic t) = refl
ends-unlistened session r = refl

pub ends-end : (name : List ℕ) (place session : ℕ) (r : resources.Resource) → indexes.next_end (books.resource_end name place session r).state ≡ indexes.next_end r
ends-end name place session (resources.ALock l) = refl
ends-end name place session (resources.AGroup g) = refl
ends-end name place session r = refl
