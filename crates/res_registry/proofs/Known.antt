-- Whom a resource knows: nobody else after an act, but for the session of an act that registers it. What a session that it
-- does not know, or a time before the first end, changes: nothing.
use Rattle.std.proofs.Common.{◌≡◌, ℕ, Bool, true, false, cond, ◌||◌, nat_eq, List, [], ◌∷◌, ◌++◌, ◌⊎◌, inl, inr, refl, ap, ◌∙◌}
use Rattle.std.specs.Ordering.{nat_cmp}
use Rattle.std.specs.BTreeMap.{is_at}
use Rattle.std.proofs.lemmas.Bool.{false≢true, or_left, or_right}
use Rattle.ax_types.specs.declared.ops.Op.{Op}
use Rattle.ax_types.specs.declared.ops.Op.TheVariants as op
use Rattle.ax_types.specs.declared.ops.Kind.{Kind}
use Rattle.ax_types.specs.declared.ops.Kind.TheVariants as kind
use Rattle.ax_types.specs.declared.ops.LockOp.{LockOp}
use Rattle.ax_types.specs.declared.ops.GroupOp.{GroupOp}
use Rattle.ax_types.specs.declared.replies.Reply.{Reply}
use Rattle.ax_types.specs.declared.replies.Reply.TheVariants as reply
use Rattle.ax_types.specs.declared.replies.Event.TheVariants as event
use Rattle.spec_book.specs.Dict as dicts
use Rattle.spec_book.specs.Resources as resources
use Rattle.spec_book.specs.Scalars as scalars
use Rattle.spec_book.specs.Owners as owners
use Rattle.spec_book.specs.Book as books
use Rattle.res_registry.specs.Indexes as indexes
use Rattle.res_registry.proofs.Sessions.{either, or_either, same_session, is_at-nat_eq, among_push, among_listen, among_without}
use Rattle.res_registry.proofs.Acts.{after_map, after_value, after_topic, after_lock, after_group}

-- ---- a new resource knows nobody
pub known-new : (k : Kind) (s : ℕ) → indexes.knows (resources.new_resource k) s ≡ false
known-new kind.Map s = refl
known-new kind.Value s = refl
known-new kind.Long s = refl
known-new kind.Lock s = refl
known-new kind.Group s = refl
known-new kind.Set s = refl
known-new kind.Queue s = refl
known-new kind.Multimap s = refl
known-new kind.Topic s = refl

-- ---- who is known after an act
-- a session that was known, or the one that an act registers
abbrev pub WasKnown : Op → ℕ → Bool → ℕ → Type 0
WasKnown o session was s = (was ≡ true) ⊎ ((s ≡ session) × (indexes.registers o ≡ true))

-- among the sessions after it, a session was known
abbrev Stays : Op → ℕ → Bool → ℕ → Bool → Type 0
Stays o session was s now = now ≡ true → WasKnown o session was s

registered : (o : Op) (session : ℕ) (was : Bool) (s : ℕ) → indexes.registers o ≡ true → (was ≡ true) ⊎ (s ≡ session) → WasKnown o session was s
registered o session was s r (inl h) = inl h
registered o session was s r (inr h) = inr (h, r)

-- of two tests, the second was so
first_known : (o : Op) (session : ℕ) (a b c : Bool) (s : ℕ) → Stays o session a s c → Stays o session (a || b) s (c || b)
first_known o session a b c s f h = by_either (or_either c b h)
  where
    by_known : WasKnown o session a s → WasKnown o session (a || b) s
    by_known (inl e) = inl (or_left a b e)
    by_known (inr e) = inr e

    by_either : (c ≡ true) ⊎ (b ≡ true) → WasKnown o session (a || b) s
    by_either (inl e) = by_known (f e)
    by_either (inr e) = inl (or_right a b e)

second_known : (o : Op) (session : ℕ) (a b c : Bool) (s : ℕ) → Stays o session b s c → Stays o session (a || b) s (a || c)
second_known o session a b c s f h = by_either (or_either a c h)
  where
    by_known : WasKnown o session b s → WasKnown o session (a || b) s
    by_known (inl e) = inl (or_right a b e)
    by_known (inr e) = inr e

    by_either : (a ≡ true) ⊎ (c ≡ true) → WasKnown o session (a || b) s
    by_either (inl e) = inl (or_left a b e)
    by_either (inr e) = by_known (f e)

-- who has a part in a lock: its holder, and those that wait
part_cases : (l : resources.LockState) (s : ℕ) → owners.has_part l s ≡ true → (owners.is_holder l.holder s ≡ true) ⊎ (dicts.has_session l.waiting s ≡ true)
part_cases l s h = by_test (owners.is_holder l.holder s) refl h
  where
    by_test : (b : Bool) → owners.is_holder l.holder s ≡ b → cond b true (dicts.has_session l.waiting s) ≡ true → (owners.is_holder l.holder s ≡ true) ⊎ (dicts.has_session l.waiting s ≡ true)
    by_test true e h = inl e
    by_test false e h = inr h

part_holds : (l : resources.LockState) (s : ℕ) → owners.is_holder l.holder s ≡ true → owners.has_part l s ≡ true
part_holds l s e = ap (λ (b : Bool). cond b true (dicts.has_session l.waiting s)) e

part_waits : (l : resources.LockState) (s : ℕ) → dicts.has_session l.waiting s ≡ true → owners.has_part l s ≡ true
part_waits l s e = either (λ (b : Bool). b ≡ true) (owners.is_holder l.holder s) true (dicts.has_session l.waiting s) refl e

-- who has a part in a lock that was let go waited for it
pub part_freed : (name : List ℕ) (place : ℕ) (r : Reply) (waiting : List ℕ) (s : ℕ) → owners.has_part (owners.lock_freed name place r waiting).state s ≡ true
    → dicts.has_session waiting s ≡ true
part_freed name place r [] s h = absurd (false≢true h)
part_freed name place r (next ∷ waiting) s h = by_case (part_cases (record { holder = owners.held_from place next; waiting = waiting }) s h)
  where
    by_case : (nat_eq s next ≡ true) ⊎ (dicts.has_session waiting s ≡ true) → dicts.has_session (next ∷ waiting) s ≡ true
    by_case (inl e) = or_left (is_at (nat_cmp s) next) (dicts.has_session waiting s) (is_at-nat_eq s next ∙ e)
    by_case (inr e) = or_right (is_at (nat_cmp s) next) (dicts.has_session waiting s) e

known_lock : (name : List ℕ) (place session : ℕ) (o : LockOp) (l : resources.LockState) (s : ℕ)
    → Stays (op.Lock o) session (owners.has_part l s) s (owners.has_part (owners.lock_act name place session o l).state s)
known_lock name place session o l s =
    after_lock (λ (a : resources.LockState). Stays (op.Lock o) session (owners.has_part l s) s (owners.has_part a s)) name place session o l
    (λ h. inl h)
    (λ r h. holds r (part_cases (record l { holder = owners.held_from place session }) s h))
    (λ r apart h. waits r (part_cases (record l { waiting = l.waiting ++ session ∷ [] }) s h))
    (λ h. inl (part_waits l s (part_freed name place reply.Done l.waiting s h)))
    (λ h. leaves (part_cases (record l { waiting = dicts.without_session l.waiting session }) s h))
  where
    holds : indexes.registers (op.Lock o) ≡ true → (nat_eq s session ≡ true) ⊎ (dicts.has_session l.waiting s ≡ true) → WasKnown (op.Lock o) session (owners.has_part l s) s
    holds r (inl e) = inr (same_session s session (is_at-nat_eq s session ∙ e), r)
    holds r (inr e) = inl (part_waits l s e)

    pushed : indexes.registers (op.Lock o) ≡ true → (dicts.has_session l.waiting s ≡ true) ⊎ (s ≡ session) → WasKnown (op.Lock o) session (owners.has_part l s) s
    pushed r (inl e) = inl (part_waits l s e)
    pushed r (inr e) = inr (e, r)

    waits : indexes.registers (op.Lock o) ≡ true → (owners.is_holder l.holder s ≡ true) ⊎ (dicts.has_session (l.waiting ++ session ∷ []) s ≡ true)
        → WasKnown (op.Lock o) session (owners.has_part l s) s
    waits r (inl e) = inl (part_holds l s e)
    waits r (inr e) = pushed r (among_push session l.waiting s e)

    leaves : (owners.is_holder l.holder s ≡ true) ⊎ (dicts.has_session (dicts.without_session l.waiting session) s ≡ true) → WasKnown (op.Lock o) session (owners.has_part l s) s
    leaves (inl e) = inl (part_holds l s e)
    leaves (inr e) = inl (part_waits l s (among_without session l.waiting s e))

known_group : (name : List ℕ) (place session : ℕ) (o : GroupOp) (g : resources.GroupState) (s : ℕ)
    → Stays (op.Group o) session (indexes.knows (resources.AGroup g) s) s (indexes.knows (resources.AGroup (owners.group_act name place session o g).state) s)
known_group name place session o g s =
    let m : Bool = dicts.has_session g.members s in
    let l : Bool = dicts.has_session g.listeners s in
    after_group (λ (ms ls : List ℕ). Stays (op.Group o) session (m || l) s (dicts.has_session ms s || dicts.has_session ls s)) name place session o g
    (λ h. inl h)
    (λ r apart. first_known (op.Group o) session m l (dicts.has_session (g.members ++ session ∷ []) s) s
    (λ h. registered (op.Group o) session m s r (among_push session g.members s h)))
    (first_known (op.Group o) session m l (dicts.has_session (dicts.without_session g.members session) s) s (λ h. inl (among_without session g.members s h)))
    (λ r. second_known (op.Group o) session m l (dicts.has_session (scalars.listen_after g.listeners session) s) s
    (λ h. registered (op.Group o) session l s r (among_listen session g.listeners s h)))

pub known-act : (name : List ℕ) (place time session : ℕ) (o : Op) (r : resources.Resource) (s : ℕ) → indexes.knows (books.resource_act name place time session o r).state s ≡ true
    → (indexes.knows r s ≡ true) ⊎ ((s ≡ session) × (indexes.registers o ≡ true))
known-act name place time session (op.Map o) (resources.AMap m) s =
    after_map (λ (ls : List ℕ). Stays (op.Map o) session (dicts.has_session m.listeners s) s (dicts.has_session ls s)) name time session o m (λ h. inl h)
    (λ r h. registered (op.Map o) session (dicts.has_session m.listeners s) s r (among_listen session m.listeners s h))
known-act name place time session (op.Value o) (resources.AValue v) s =
    after_value (λ (ls : List ℕ). Stays (op.Value o) session (dicts.has_session v.listeners s) s (dicts.has_session ls s)) name session o v.text v.listeners (λ h. inl h)
    (λ r h. registered (op.Value o) session (dicts.has_session v.listeners s) s r (among_listen session v.listeners s h))
known-act name place time session (op.Long o) (resources.ALong x) s = λ h. inl h
known-act name place time session (op.Lock o) (resources.ALock l) s = known_lock name place session o l s
known-act name place time session (op.Group o) (resources.AGroup g) s = known_group name place session o g s
known-act name place time session (op.Set o) (resources.ASet x) s = λ h. inl h
known-act name place time session (op.Queue o) (resources.AQueue x) s = λ h. inl h
known-act name place time session (op.Multimap o) (resources.AMultimap x) s = λ h. inl h
known-act name place time session (op.Topic o) (resources.ATopic t) s =
    after_topic (λ (ls : List ℕ). Stays (op.Topic o) session (dicts.has_session t s) s (dicts.has_session ls s)) name session o t (λ h. inl h)
    (λ r h. registered (op.Topic o) session (dicts.has_session t s) s r (among_listen session t s h)) (λ h. inl (among_without session t s h))
known-act name place time session o r s = λ h. inl h

-- ---- who is known after a session's end, or after lives ended
pub known-pass : (time : ℕ) (r : resources.Resource) (s : ℕ) → indexes.knows (books.resource_pass time r) s ≡ true → indexes.knows r s ≡ true
known-pass time (resources.AMap m) s h = h
known-pass time r s h = h

pub known-unlistened : (session : ℕ) (r : resources.Resource) (s : ℕ) → indexes.knows (books.unlistened session r) s ≡ true → indexes.knows r s ≡ true
known-unlistened session (resources.AMap m) s h = among_without session m.listeners s h
known-unlistened session (resources.AValue v) s h = among_without session v.listeners s h
known-unlistened session (resources.AGroup g) s h = by_either (or_either (dicts.has_session g.members s) (dicts.has_session (dicts.without_session g.listeners session) s) h)
  where
    by_either : (dicts.has_session g.members s ≡ true) ⊎ (dicts.has_session (dicts.without_session g.listeners session) s ≡ true) → indexes.knows (resources.AGroup g) s ≡ true
    by_either (inl e) = or_left (dicts.has_session g.members s) (dicts.has_session g.listeners s) e
    by_either (inr e) = or_right (dicts.has_session g.members s) (dicts.has_session g.listeners s) (among_without session g.listeners s e)
known-unlistened session (resources.ATopic t) s h = among_without session t s h
known-unlistened session r s h = h

known_left : (name : List ℕ) (place session : ℕ) (l : resources.LockState) (s : ℕ) → owners.has_part (owners.lock_end name place session l).state s ≡ true → owners.has_part l s ≡ true
known_left name place session l s =
    let waiting : List ℕ = dicts.without_session l.waiting session in
    let after : resources.LockState = record l { waiting = waiting } in
    either (λ (a : resources.Acted resources.LockState). owners.has_part a.state s ≡ true → owners.has_part l s ≡ true) (owners.is_holder l.holder session)
    (owners.lock_freed name place reply.Done waiting) (resources.replied after reply.Done)
    (λ h. part_waits l s (among_without session l.waiting s (part_freed name place reply.Done waiting s h)))
    (λ h. by_case (part_cases after s h))
  where
    by_case : (owners.is_holder l.holder s ≡ true) ⊎ (dicts.has_session (dicts.without_session l.waiting session) s ≡ true) → owners.has_part l s ≡ true
    by_case (inl e) = part_holds l s e
    by_case (inr e) = part_waits l s (among_without session l.waiting s e)

known_departed : (name : List ℕ) (place session : ℕ) (g : resources.GroupState) (s : ℕ) → indexes.knows (resources.AGroup (owners.group_end name place session g).state) s ≡ true
    → indexes.knows (resources.AGroup g) s ≡ true
known_departed name place session g s =
    either (λ (a : resources.Acted resources.GroupState). indexes.knows (resources.AGroup a.state) s ≡ true → indexes.knows (resources.AGroup g) s ≡ true) (dicts.has_session g.members session)
    (owners.members_changed name place (dicts.without_session g.members session) (event.Left name session) g) (resources.replied g reply.Done)
    (λ h. by_either (or_either (dicts.has_session (dicts.without_session g.members session) s) (dicts.has_session g.listeners s) h)) (λ h. h)
  where
    by_either : (dicts.has_session (dicts.without_session g.members session) s ≡ true) ⊎ (dicts.has_session g.listeners s ≡ true) → indexes.knows (resources.AGroup g) s ≡ true
    by_either (inl e) = or_left (dicts.has_session g.members s) (dicts.has_session g.listeners s) (among_without session g.members s e)
    by_either (inr e) = or_right (dicts.has_session g.members s) (dicts.has_session g.listeners s) e

pub known-end : (name : List ℕ) (place session : ℕ) (r : resources.Resource) (s : ℕ) → indexes.knows (books.resource_end name place session r).state s ≡ true → indexes.knows r s ≡ true
known-end name place session (resources.ALock l) s h = known_left name place session l s h
known-end name place session (resources.AGroup g) s h = known_departed name place session g s h
known-end name place session r s h = h
