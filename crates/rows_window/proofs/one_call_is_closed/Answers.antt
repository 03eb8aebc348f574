use Rattle.std.proofs.Common.{[], ◌∷◌, refl}
use Rattle.rows_window.specs.ClosedWindow as closed_window
use Rattle.rows_window.proofs.Agreed as proofs
use Rattle.rows_window.proofs.one_call_is_closed.Goals as goal

pub returns : goal.returns
returns c = record { found = closed_window.last_loads; agreed = proofs.agreed; drawn_is = refl; given_is = refl; whole = refl; first = closed_window.seat; first_is = refl; joins = 1 ∷ []; joined = refl; caller = refl; looks = refl }
