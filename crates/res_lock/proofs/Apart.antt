-- The holder of a lock does not wait for it.
use Rattle.std.proofs.Common.{◌≡◌, ℕ, true, false, List, Option, Some, None, refl, arith}
use Rattle.std.proofs.lemmas.Bool.{false≢true}
use Rattle.std.proofs.lemmas.Bool.Decides.{nat_tests}
use Rattle.std.specs.BTreeMap.{is_at}
use Rattle.std.specs.Ordering.{nat_cmp}
use Rattle.ax_types.specs.declared.replies.Reply.TheVariants as reply
use Rattle.spec_book.specs.Dict as dicts
use Rattle.spec_book.specs.Resources as resources
use Rattle.spec_book.specs.Owners as owners
use Rattle.res_sessions.proofs.Sessions.{absent_after_removal, remove_key-absent}
use Rattle.res_lock.specs.HolderApart as holder_apart

-- a session that goes from those that wait brings the holder no nearer
pub apart_after_removal : (holder : Option resources.Holder) (waiting : List ℕ) (s : ℕ) → holder_apart.HolderApart holder waiting
    → holder_apart.HolderApart holder (dicts.without_session waiting s)
apart_after_removal None waiting s apart = tt
apart_after_removal (Some h) waiting s apart = absent_after_removal waiting s h.session apart

-- those that wait, without the holder, are those that wait
pub holder_waits_not : (holder : Option resources.Holder) (waiting : List ℕ) (s : ℕ) → owners.is_holder holder s ≡ true → holder_apart.HolderApart holder waiting
    → dicts.without_session waiting s ≡ waiting
holder_waits_not None waiting s is apart = absurd (false≢true is)
holder_waits_not (Some h) waiting s is apart =
    let same : s ≡ h.session = grind (arith, nat_tests) in
    let absent : dicts.has_session waiting s ≡ false = rw same apart in
    remove_key-absent (is_at (nat_cmp s)) waiting absent

-- the end of the holder frees the lock, with the queue as it is
pub end_of_holder : (name : List ℕ) (place session : ℕ) (s : resources.LockState) → owners.is_holder s.holder session ≡ true
    → holder_apart.HolderApart s.holder s.waiting → (owners.lock_end name place session s).state ≡ (owners.lock_freed name place reply.Done s.waiting).state
end_of_holder name place session s is apart = rw (is, holder_waits_not s.holder s.waiting session is apart) refl
