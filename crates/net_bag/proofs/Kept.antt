-- The packets that are kept, as each call leaves them.
use Rattle.std.proofs.Common.{◌≡◌, ℕ, zero, suc, ◌+◌, ◌-◌, ◌<◌, ◌≤◌, Bool, true, false, Option, Some, None, List, [], ◌∷◌, ◌++◌, length, drop, refl, sym, ap, ◌∙◌, arith, length-append, subst}
use Rattle.std.specs.Prelude.{slice_get}
use Rattle.ax_types.specs.declared.ids.End.{End}
use Rattle.ax_types.specs.declared.packets.Packet.{Packet}
use Rattle.spec_raft.specs.Positions as positions
use Rattle.spec_raft.proofs.Placing.{length-change_place}
use Rattle.spec_cluster.specs.Bag as bags
use Rattle.net_bag.specs.Ways as way_lists
use Rattle.net_bag.specs.KeptPackets as kept_packets
use Rattle.net_bag.specs.Fronts as way_fronts
use Rattle.net_bag.proofs.Waiting.{marked, count_marked, packets_marked}
use Rattle.net_bag.proofs.Sending.{packets_more, packets_way, packets_fewer}
use Rattle.net_bag.proofs.Newest.{marked_again, drop_marked}

pub sent_way : (sent unmarked : ℕ) (slots after : List bags.KeptPacket) (a b : End) (ways more : List way_lists.Way) → after ≡ slots → more ≡ way_lists.with_way ways a b
    → kept_packets.ArePackets sent (sent - length slots) slots unmarked ways → kept_packets.ArePackets sent (sent - length after) after unmarked more
sent_way sent unmarked slots after a b ways more e f h =
    let P : List bags.KeptPacket → Type 0 = λ ks. kept_packets.ArePackets sent (sent - length ks) ks unmarked more in
    let Q : List way_lists.Way → Type 0 = λ ws. kept_packets.ArePackets sent (sent - length slots) slots unmarked ws in
    subst P (sym e) (subst Q (sym f) (packets_way sent (sent - length slots) unmarked slots a b ways h))

pub sent_packet : (sent unmarked j : ℕ) (slots held after : List bags.KeptPacket) (p : Packet) (ways more sent_ways : List way_lists.Way) → held ≡ slots → after ≡ held ++ record { is_marked = false; packet = p } ∷ [] → more ≡ way_lists.with_way ways p.«from» p.to
    → way_lists.IsPlaceOf more p.«from» p.to j → sent_ways ≡ positions.change_place (way_lists.with_number (sent + 1)) more (suc j)
    → kept_packets.ArePackets sent (sent - length slots) slots unmarked ways → kept_packets.ArePackets (sent + 1) (sent + 1 - length after) after (unmarked + 1) sent_ways
sent_packet sent unmarked j slots held after p ways more sent_ways e f g place m h =
    let one : suc sent ≡ sent + 1 = omega arith in
    let count : suc unmarked ≡ unmarked + 1 = omega arith in
    let all : after ≡ slots ++ record { is_marked = false; packet = p } ∷ [] = f ∙ ap (λ (ks : List bags.KeptPacket). ks ++ record { is_marked = false; packet = p } ∷ []) e in
    let Q : List way_lists.Way → Type 0 = λ ws. kept_packets.ArePackets sent (sent - length slots) slots unmarked ws in
    let grown : kept_packets.ArePackets sent (sent - length slots) slots unmarked more = subst Q (sym g) (packets_way sent (sent - length slots) unmarked slots p.«from» p.to ways h) in
    let rest : sent - length slots ≡ sent + 1 - length after = omega (arith, ap length all, length-append slots (record { is_marked = false; packet = p } ∷ []), h.within) in
    let N : ℕ → Type 0 = λ n. kept_packets.ArePackets n (sent - length slots) (slots ++ record { is_marked = false; packet = p } ∷ []) (suc unmarked) (positions.change_place (way_lists.with_number n) more (suc j)) in
    let U : ℕ → Type 0 = λ n. kept_packets.ArePackets (sent + 1) (sent - length slots) (slots ++ record { is_marked = false; packet = p } ∷ []) n (positions.change_place (way_lists.with_number (sent + 1)) more (suc j)) in
    let W : List way_lists.Way → Type 0 = λ ws. kept_packets.ArePackets (sent + 1) (sent - length slots) (slots ++ record { is_marked = false; packet = p } ∷ []) (unmarked + 1) ws in
    let K : List bags.KeptPacket → Type 0 = λ ks. kept_packets.ArePackets (sent + 1) (sent - length slots) ks (unmarked + 1) sent_ways in
    let G : ℕ → Type 0 = λ n. kept_packets.ArePackets (sent + 1) n after (unmarked + 1) sent_ways in
    subst G rest (subst K (sym all) (subst W (sym m) (subst U count (subst N one (packets_more sent (sent - length slots) unmarked j slots p more place grown)))))

pub some_left : (sent gone i unmarked : ℕ) (slots : List bags.KeptPacket) (s : bags.KeptPacket) (ways : List way_lists.Way) → slice_get slots i ≡ Some s → s.is_marked ≡ false → kept_packets.ArePackets sent gone slots unmarked ways → 1 ≤ unmarked
some_left sent gone i unmarked slots s ways e m h = let c = count_marked (suc gone) i slots s e m in omega (arith, c, h.counted)

pub marked_packet : (sent gone i unmarked j : ℕ) (slots after : List bags.KeptPacket) (s : bags.KeptPacket) (ways trimmed_ways : List way_lists.Way) → gone ≡ sent - length slots → slice_get slots i ≡ Some s → s.is_marked ≡ false → after ≡ positions.change_place marked slots (suc i)
    → way_lists.IsPlaceOf ways s.packet.«from» s.packet.to j → trimmed_ways ≡ positions.change_place (way_lists.without_front (way_lists.open_at gone after)) ways (suc j)
    → kept_packets.ArePackets sent (sent - length slots) slots unmarked ways → kept_packets.ArePackets sent (sent - length after) after (unmarked - 1) trimmed_ways
marked_packet sent gone i unmarked j slots after s ways trimmed_ways r e m f place g h =
    let G : ℕ → Type 0 = λ n. kept_packets.ArePackets sent n slots unmarked ways in
    let some : 1 ≤ unmarked = some_left sent (sent - length slots) i unmarked slots s ways e m h in
    let less : suc (unmarked - 1) ≡ unmarked = omega (arith, some) in
    let rest : gone ≡ sent - length after = omega (arith, r, ap length f, length-change_place marked slots (suc i)) in
    let K : List bags.KeptPacket → Type 0 = λ ks. kept_packets.ArePackets sent gone ks (unmarked - 1) (positions.change_place (way_lists.without_front (way_lists.open_at gone ks)) ways (suc j)) in
    let W : List way_lists.Way → Type 0 = λ ws. kept_packets.ArePackets sent gone after (unmarked - 1) ws in
    let R : ℕ → Type 0 = λ n. kept_packets.ArePackets sent n after (unmarked - 1) trimmed_ways in
    subst R rest (subst W (sym g) (subst K (sym f) (packets_marked sent gone i unmarked (unmarked - 1) j slots s ways e m less place (subst G (sym r) h))))

-- a packet that is marked already is marked once more
pub mark_still : (bag : bags.Bag) (number i : ℕ) (s : bags.KeptPacket) → slice_get bag.kept i ≡ Some s → s.is_marked ≡ true → number - bags.gone bag ≡ suc i → bag ≡ bags.with_mark bag number
mark_still bag number i s e m k = ap (λ (ks : List bags.KeptPacket). record bag { kept = ks }) (sym (ap (positions.change_place marked bag.kept) k ∙ marked_again bag.kept i s e m))

pub let_go_first : (sent unmarked k : ℕ) (old slots after : List bags.KeptPacket) (ways : List way_lists.Way) → slots ≡ positions.change_place marked old k → k ≡ 1 → 0 < length old → after ≡ drop 1 slots
    → kept_packets.ArePackets sent (sent - length slots) slots unmarked ways → kept_packets.ArePackets sent (sent - length after) after unmarked ways
let_go_first sent unmarked k [] slots after ways e f lt g h = absurd (omega (arith, lt))
let_go_first sent unmarked k (s ∷ old) slots after ways e f lt g h =
    let first : slots ≡ marked s ∷ old = e ∙ ap (positions.change_place marked (s ∷ old)) f in
    let left : after ≡ old = g ∙ ap (drop 1) first in
    let K : List bags.KeptPacket → Type 0 = λ ks. kept_packets.ArePackets sent (sent - length slots) ks unmarked ways in
    let rest : suc (sent - length slots) ≡ sent - length after = omega (arith, ap length first, ap length left, h.within) in
    let A : List bags.KeptPacket → Type 0 = λ ks. kept_packets.ArePackets sent (suc (sent - length slots)) ks unmarked ways in
    let R : ℕ → Type 0 = λ n. kept_packets.ArePackets sent n after unmarked ways in
    subst R rest (subst A (sym left) (packets_fewer sent (sent - length slots) unmarked (marked s) old ways refl (subst K first h)))

pub fronts_of : (sent unmarked : ℕ) (slots : List bags.KeptPacket) (ways value : List way_lists.Way) (bag : bags.Bag) → record { sent = sent; kept = slots; cuts = [] } ≡ bag → value ≡ ways
    → kept_packets.ArePackets sent (sent - length slots) slots unmarked ways → way_fronts.AreFronts (suc (bags.gone bag)) bag.kept value
fronts_of sent unmarked slots ways value bag e f h =
    let old : bags.Bag = record { sent = sent; kept = slots; cuts = [] } in
    let P : bags.Bag → Type 0 = λ b. way_fronts.AreFronts (suc (bags.gone b)) b.kept ways in
    let Q : List way_lists.Way → Type 0 = λ ws. way_fronts.AreFronts (suc (bags.gone bag)) bag.kept ws in
    let fronts : way_fronts.AreFronts (suc (sent - length slots)) slots ways = record { fronts = λ i w g. (h.indexed i w g).front; served = h.served } in
    subst Q (sym f) (subst P e fronts)
