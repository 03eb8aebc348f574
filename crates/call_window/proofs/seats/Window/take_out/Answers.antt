use Rattle.std.proofs.Common.{◌≡◌, ℕ, ◌+◌, ◌%◌, ◌<◌, [], ◌∷◌, None, Some, List, length, refl, sym, ap, subst, ◌∙◌, le_refl, arith}
use Rattle.spec_window.specs.WindowWords.{window_places}
use Rattle.spec_window.specs.WindowWords as window_words
use Rattle.ax_types.specs.declared.ops.WindowCall.{WindowCall}
use Rattle.law_window.specs.declared.parcel.Parcel.TheVariants as parcel
use Rattle.law_window.specs.WindowKnown as known
use Rattle.law_window.specs.WindowLives as lives
use Rattle.law_window.specs.WindowPlays as plays
use Rattle.law_window.proofs.Notes.{given_past}
use Rattle.call_window.proofs.Required as required
use Rattle.call_window.proofs.seats.Window.take_out.Goals as goal

pub exchange-parcel-requires : goal.exchange-parcel-requires
exchange-parcel-requires c =
    let d = c.requires.seat in (
      c.requires.window,
      (Some (parcel.Call d.call), required.slot_front c.args.seat.now.me.1 _ c.place_of-place.result _ (ap (λ (z : plays.Knows). z.1) d.me) c.place_of-place.ensures.value),
    )

pub store-requires : goal.store-requires
store-requires c =
    let sized = c.args.self.now.sized in
    let t = c.args.self.now.table.shared in
    let m = c.args.seat.now.me in
    let d = c.requires.seat in
    let p = known.pump_of m.0 in
    let n : ℕ = length p.pump.taken in
    let place = c.place_of-place.ensures in
    let me = required.with_slots m c.exchange-parcel.new.seat.me (known.known_to_pump p) _ _ d.me (required.exchanged_me m c.exchange-parcel.new.seat.me _ _ _ _ (ap (λ (z : plays.Knows). z.1) d.me) place.value c.exchange-parcel.ensures.3) in
    let me' : c.exchange-parcel.new.seat.me ≡ (known.known_to_pump p, (n % window_places, None) ∷ []) = me ∙ ap (λ (i : ℕ). (known.known_to_pump p, (i % window_places, None) ∷ [])) d.next in (
      c.exchange-parcel.ensures.0 ∙ c.requires.window,
      (let w = sized.0 in let s = c.state-word.ensures in let l = place.within in omega arith),
      required.takes_call window_places t.key c.exchange-parcel.new.seat.id t.table_id.slots sized.1 c.exchange-parcel.new.seat.me p d.call c.taken_out-taken.result me' (d.task ∙ ap (λ (i : ℕ). known.Reads i d.call) d.next)
          (subst (λ (i : ℕ). lives.given_in p.pump.given i ≡ None) d.next (given_past p.pump.given c.args.number c.args.number d.given_taken (le_refl c.args.number)))
          (c.taken_out-taken.ensures ∙ ap window_words.taken_out d.next) c.state-word.result (c.state-word.ensures ∙ ap (λ (i : ℕ). i + 2) (place.value ∙ ap (λ (i : ℕ). i % window_places) d.next)),
    )

pub returns-clause-seat : goal.returns-clause-seat
returns-clause-seat c =
    let m = c.args.seat.now.me in
    let d = c.requires.seat in
    let p = known.pump_of m.0 in
    let n : ℕ = length p.pump.taken in
    let place = c.place_of-place.ensures in
    let slots = ap (λ (z : plays.Knows). z.1) d.me in
    let me = required.with_slots m c.exchange-parcel.new.seat.me (known.known_to_pump p) _ _ d.me (required.exchanged_me m c.exchange-parcel.new.seat.me _ _ _ _ slots place.value c.exchange-parcel.ensures.3) in
    let who : known.pump_of c.exchange-parcel.new.seat.me.0 ≡ p = required.pump_at c.exchange-parcel.new.seat.me p _ me in
    let sized = c.args.self.now.sized in
    let value : c.exchange-parcel.result ≡ Some (parcel.Call d.call) = required.exchanged_value m.1 _ _ _ _ slots c.exchange-parcel.ensures.2 in
    let out : d.call ≡ c.in-Some-Call.call = cc in
    let next_is : length (known.pump_of c.exchange-parcel.new.seat.me.0).pump.taken ≡ n = ap (λ (q : known.PumpKnown). length q.pump.taken) who in
    c.store.ensures.2 d.call (ap (λ (q : known.PumpKnown). q.task) who ∙ (d.task ∙ ap (λ (i : ℕ). known.Reads i d.call) (d.next ∙ sym next_is)))
    (ap (λ (z : plays.Knows). z.1) me ∙ Rattle.std.proofs.Common.ap₂ (λ (i k : ℕ). (i % k, None) ∷ []) (d.next ∙ sym next_is) (sym sized.1))
    ∙ (ap (λ (q : known.PumpKnown). (known.known_to_pump (plays.took q d.call), [])) who ∙ ap (λ (o : WindowCall). (known.known_to_pump (plays.took p o), [])) out)
