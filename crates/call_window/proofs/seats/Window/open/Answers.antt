use Rattle.std.proofs.Common.{◌<◌, ℕ, None, sym, subst, arith}
use Rattle.std.specs.Prelude.{replicate}
use Rattle.atomic_table.specs.Table.{opening}
use Rattle.spec_window.specs.WindowWords.{window_places}
use Rattle.law_window.specs.WindowKnown.{known_at_first}
use Rattle.law_window.specs.WindowRule.{IsWindow}
use Rattle.call_window.specs.WindowOpening.{AreFirstWords}
use Rattle.call_window.proofs.Opening.{opens}
use Rattle.call_window.proofs.seats.Window.open.Goals as goal

pub vacant-requires : goal.vacant-requires
vacant-requires c =
    let value = c.places.ensures.value in
    let some = c.places.ensures.some in
    let any : 0 < window_places = omega arith in
    subst (λ (n : ℕ). IsWindow window_places c.args.callers (opening c.as_slice.result.now (replicate n None) (known_at_first c.args.callers))) (sym value)
    (opens window_places c.args.callers c.as_slice.result.now any (subst (AreFirstWords window_places) (sym c.as_slice.ensures.value) c.in_ok-words.ensures))
