-- What comes of a packet that is to be delivered or dropped.
use Rattle.std.proofs.Common.{◌≡◌, ℕ, suc, zero, ◌+◌, ◌<◌, Bool, true, false, [], ◌∷◌, ◌++◌, List, Option, Some, None, refl, sym, ap, subst, ◌≤◌, arith, length}
use Rattle.std.specs.Prelude.{if◌then◌else◌, nat_eq, nat_lt, not, ◌||◌}
use Rattle.std.specs.Option.{option_map}
use Rattle.std.proofs.lemmas.Bool.Decides.{nat_tests}
use Rattle.ax_types.specs.Places as lists
use Rattle.ax_types.specs.declared.ids.End.{End}
use Rattle.ax_types.specs.declared.ids.End.TheVariants as end
use Rattle.ax_types.specs.declared.items.SkipReason.{SkipReason}
use Rattle.ax_types.specs.declared.items.SkipReason.TheVariants as reason
use Rattle.ax_types.specs.declared.packets.Packet.{Packet}
use Rattle.ax_types.specs.declared.packets.Payload.{Payload}
use Rattle.spec_wire.specs.Spelling as wire_spelling
use Rattle.net_arrival.specs.Arrivals as arrivals
use Rattle.ax_types.specs.declared.steps.Step.TheVariants as step
use Rattle.spec_raft.specs.Majority as majorities
use Rattle.spec_cluster.specs.Bag as bags
use Rattle.spec_world.specs.Worlds as worlds
use Rattle.spec_world.specs.Plans as plans
use Rattle.ax_world.specs.declared.brought.Brought.{Brought}
use Rattle.ax_world.specs.Scenes as scenes
use Rattle.ax_world.proofs.Doing.{shows, shows_none}

-- one more packet
pub packets_more : (bag : bags.Bag) (ps : List Packet) (p : Packet) → bags.with_packets bag (ps ++ p ∷ []) ≡ bags.with_packet (bags.with_packets bag ps) p
packets_more bag [] p = refl
packets_more bag (q ∷ ps) p = packets_more (bags.with_packet bag q) ps p

-- nothing refuses that a packet is marked which can be taken
first_none : (a b : Option SkipReason) → bags.first_reason a b ≡ None → a ≡ None
first_none None b none = refl
first_none (Some r) b none = absurd (cc)

second_none : (a b : Option SkipReason) → bags.first_reason a b ≡ None → b ≡ None
second_none None b none = none
second_none (Some r) b none = absurd (cc)

pub mark_free : (bag : bags.Bag) (up : List ℕ) (number : ℕ) → bags.take_refusal bag up number ≡ None → bags.mark_refusal bag number ≡ None
mark_free bag up number none = first_none (bags.mark_refusal bag number) (bags.kept_hindrance bag up (bags.kept_at bag number)) none

-- a packet is dropped
pub drop_refused : (w : worlds.World) (number : ℕ) (r : SkipReason) (b : Brought) → bags.mark_refusal w.bag number ≡ Some r → b ≡ scenes.skipped r
    → scenes.Does w b (plans.plan w (step.Drop number))
drop_refused w number r b refused is = rw is (rw refused (shows w r))

pub drop_done : (w v : worlds.World) (number : ℕ) (b : Brought) → bags.mark_refusal w.bag number ≡ None → v ≡ record w { bag = bags.with_mark w.bag number } → b ≡ scenes.only_shown []
    → scenes.Does v b (plans.plan w (step.Drop number))
drop_done w v number b free after is = rw after (rw is (rw free (shows_none (record w { bag = bags.with_mark w.bag number }))))

-- a packet is delivered
pub deliver_refused : (w : worlds.World) (number : ℕ) (whole : Packet → Bool) (r : SkipReason) (b : Brought) → bags.take_refusal w.bag (worlds.up_nodes w) number ≡ Some r
    → b ≡ scenes.skipped r → scenes.Does w b (plans.delivers w number whole)
deliver_refused w number whole r b refused is = rw is (rw refused (shows w r))

slot_taken : (w v : worlds.World) (number : ℕ) (bytes : Option ℕ) (s : Option bags.KeptPacket) (p : Packet) (b : Brought) → option_map (λ k. k.packet) s ≡ Some p
    → scenes.Does v b (scenes.taken (record w { bag = bags.with_mark w.bag number }) (scenes.arrived_whole bytes p)) → scenes.Does v b (plans.delivers_slot w number s (scenes.is_whole bytes))
slot_taken w v number bytes None p b at does = absurd (cc)
slot_taken w v number bytes (Some k) p b at does =
    let same : k.packet ≡ p = cc in
    by_whole (scenes.is_whole bytes k.packet) (subst (λ q. scenes.Does v b (scenes.taken (record w { bag = bags.with_mark w.bag number }) (scenes.arrived_whole bytes q))) (sym same) does)
  where
    by_whole : (is : Bool) → scenes.Does v b (scenes.taken (record w { bag = bags.with_mark w.bag number }) (if is then Some k.packet else None))
        → scenes.Does v b (if is then plans.reaches (record w { bag = bags.with_mark w.bag number }) k.packet k.packet.to else plans.shows_nothing (record w { bag = bags.with_mark w.bag number }))
    by_whole true done = done
    by_whole false done = done

pub deliver_taken : (w m v : worlds.World) (number : ℕ) (bytes : Option ℕ) (arrived : Option Packet) (b : Brought) → scenes.Comes w number bytes arrived
    → m ≡ record w { bag = bags.with_mark w.bag number } → scenes.Does v b (scenes.taken m arrived) → scenes.Does v b (plans.delivers w number (scenes.is_whole bytes))
deliver_taken w m v number bytes arrived b c marked does =
    subst (λ r. scenes.Does v b (plans.delivers_if w number (scenes.is_whole bytes) r)) (sym c.free)
    (slot_taken w v number bytes (bags.kept_at w.bag number) c.packet b c.kept
    (subst (λ u. scenes.Does v b (scenes.taken u (scenes.arrived_whole bytes c.packet))) marked (subst (λ a. scenes.Does v b (scenes.taken m a)) c.comes does)))

-- what arrives of a packet, by what arrives of its payload
pub comes_whole : (bytes : Option ℕ) (p : Packet) (q : Payload) → Some q ≡ arrivals.arrived bytes p.payload → Some (record { «from» = p.«from»; to = p.to; payload = q }) ≡ scenes.arrived_whole bytes p
comes_whole None p q is = let same : q ≡ p.payload = cc in ap (λ x. Some (record { «from» = p.«from»; to = p.to; payload = x })) same
comes_whole (Some n) p q is = by_short (nat_lt n (wire_spelling.payload_length p.payload)) is
  where
    by_short : (b : Bool) → Some q ≡ (if b then None else Some p.payload) → Some (record { «from» = p.«from»; to = p.to; payload = q }) ≡ (if (if b then false else true) then Some p else None)
    by_short true e = absurd (cc)
    by_short false e = let same : q ≡ p.payload = cc in ap (λ x. Some (record { «from» = p.«from»; to = p.to; payload = x })) same

pub comes_cut : (bytes : Option ℕ) (p : Packet) → None ≡ arrivals.arrived bytes p.payload → None ≡ scenes.arrived_whole bytes p
comes_cut None p is = absurd (cc)
comes_cut (Some n) p is = by_short (nat_lt n (wire_spelling.payload_length p.payload)) is
  where
    by_short : (b : Bool) → None ≡ (if b then None else Some p.payload) → None ≡ (if (if b then false else true) then Some p else None)
    by_short true e = refl
    by_short false e = absurd (cc)

-- a receiver that nothing hinders is up
none_below : (hosts : List worlds.Host) (a k : ℕ) → k < a → majorities.is_in (lists.numbers_passing (λ h. h.is_up) a hosts) k ≡ false
none_below [] a k below = refl
none_below (h ∷ hosts) a k below = by_up h.is_up (none_below hosts (suc a) k (grind arith))
  where
    by_up : (b : Bool) → majorities.is_in (lists.numbers_passing (λ x. x.is_up) (suc a) hosts) k ≡ false
        → majorities.is_in (if b then a ∷ lists.numbers_passing (λ x. x.is_up) (suc a) hosts else lists.numbers_passing (λ x. x.is_up) (suc a) hosts) k ≡ false
    by_up true rest = let e : nat_eq a k ≡ false = grind (arith, nat_tests) in rw e rest
    by_up false rest = rest

up_later : (h : worlds.Host) (hosts : List worlds.Host) (j : ℕ) → worlds.up_in (lists.at_place hosts j) ≡ true → worlds.up_in (lists.at_place (h ∷ hosts) (suc j)) ≡ true
up_later h hosts zero up = absurd (cc)
up_later h hosts (suc i) up = up

up_at : (hosts : List worlds.Host) (a j k : ℕ) → suc k ≡ a + j → majorities.is_in (lists.numbers_passing (λ h. h.is_up) a hosts) k ≡ true → worlds.up_in (lists.at_place hosts j) ≡ true
up_at [] a j k at is = absurd (cc)
up_at (h ∷ hosts) a zero k at is = absurd (let e : majorities.is_in (lists.numbers_passing (λ x. x.is_up) a (h ∷ hosts)) k ≡ false = none_below (h ∷ hosts) a k (grind arith) in cc)
up_at (h ∷ hosts) a (suc j) k at is = by_up (λ in_rest. up_later h hosts j (up_at hosts (suc a) j k (grind arith) in_rest)) h.is_up refl is
  where
    Later : Type 0
    Later = majorities.is_in (lists.numbers_passing (λ x. x.is_up) (suc a) hosts) k ≡ true → worlds.up_in (lists.at_place (h ∷ hosts) (suc j)) ≡ true

    first : h.is_up ≡ true → nat_eq a k ≡ true → (i : ℕ) → i ≡ j → worlds.up_in (lists.at_place (h ∷ hosts) (suc i)) ≡ true
    first up same zero e = up
    first up same (suc i) e = absurd (grind (arith, nat_tests))

    by_same : Later → h.is_up ≡ true → (b : Bool) → nat_eq a k ≡ b → (b || majorities.is_in (lists.numbers_passing (λ x. x.is_up) (suc a) hosts) k) ≡ true
        → worlds.up_in (lists.at_place (h ∷ hosts) (suc j)) ≡ true
    by_same later up true e in_all = first up e j refl
    by_same later up false e in_all = later in_all

    by_up : Later → (b : Bool) → h.is_up ≡ b → majorities.is_in (if b then a ∷ lists.numbers_passing (λ x. x.is_up) (suc a) hosts else lists.numbers_passing (λ x. x.is_up) (suc a) hosts) k ≡ true
        → worlds.up_in (lists.at_place (h ∷ hosts) (suc j)) ≡ true
    by_up later true e in_all = by_same later e (nat_eq a k) refl in_all
    by_up later false e in_all = later in_all

not_down : (w : worlds.World) (to : End) → bags.is_down (worlds.up_nodes w) to ≡ false → scenes.IsReachable w to
not_down w (end.Node k) is = up_at w.hosts 1 k k (grind arith) (by_in (majorities.is_in (worlds.up_nodes w) k) is)
  where
    by_in : (b : Bool) → not b ≡ false → b ≡ true
    by_in true e = refl
    by_in false e = absurd (cc)
not_down w (end.Client c) is = tt

unhindered : (w : worlds.World) (s : Option bags.KeptPacket) (p : Packet) → bags.kept_hindrance w.bag (worlds.up_nodes w) s ≡ None → option_map (λ k. k.packet) s ≡ Some p
    → bags.is_down (worlds.up_nodes w) p.to ≡ false
unhindered w None p none at = absurd (cc)
unhindered w (Some k) p none at =
    let same : k.packet ≡ p = cc in
    rw (sym same) (by_cut (bags.is_cut w.bag k.packet.«from» k.packet.to) (bags.is_down (worlds.up_nodes w) k.packet.to) none)
  where
    by_cut : (cut down : Bool) → (if cut then Some reason.Cut else if down then Some reason.NodeDown else None) ≡ None → down ≡ false
    by_cut true down e = absurd (cc)
    by_cut false true e = absurd (cc)
    by_cut false false e = refl

reaches_packet : (w : worlds.World) (number : ℕ) (p : Packet) → bags.take_refusal w.bag (worlds.up_nodes w) number ≡ None → scenes.packet_at w number ≡ Some p
    → scenes.IsReachable w p.to
reaches_packet w number p free at = not_down w p.to
    (unhindered w (bags.kept_at w.bag number) p (second_none (bags.mark_refusal w.bag number) (bags.kept_hindrance w.bag (worlds.up_nodes w) (bags.kept_at w.bag number)) free) at)

same_hosts : (w m : worlds.World) (to : End) → m.hosts ≡ w.hosts → scenes.IsReachable w to → scenes.IsReachable m to
same_hosts w m (end.Node k) same is = subst (λ hs. worlds.up_in (lists.at_place hs k) ≡ true) (sym same) is
same_hosts w m (end.Client c) same is = tt

reachable_whole : (w : worlds.World) (bytes : Option ℕ) (p : Packet) → scenes.IsReachable w p.to → scenes.IsReachableBy w (scenes.arrived_whole bytes p)
reachable_whole w bytes p is = by_whole (scenes.is_whole bytes p)
  where
    by_whole : (b : Bool) → scenes.IsReachableBy w (if b then Some p else None)
    by_whole true = is
    by_whole false = tt

pub reachable : (w m : worlds.World) (number : ℕ) (bytes : Option ℕ) (arrived : Option Packet) → scenes.Comes w number bytes arrived → m.hosts ≡ w.hosts → scenes.IsReachableBy m arrived
reachable w m number bytes arrived c same =
    subst (λ a. scenes.IsReachableBy m a) (sym c.comes) (reachable_whole m bytes c.packet (same_hosts w m c.packet.to same (reaches_packet w number c.packet c.free c.kept)))

-- a node that is up is of the cluster
pub up_known : (hosts : List worlds.Host) (k : ℕ) → worlds.up_in (lists.at_place hosts k) ≡ true → k ≤ length hosts
up_known hosts zero up = grind arith
up_known [] (suc k) up = absurd (cc)
up_known (h ∷ hosts) (suc zero) up = grind arith
up_known (h ∷ hosts) (suc (suc k)) up = let rest : suc k ≤ length hosts = up_known hosts (suc k) up in grind arith
