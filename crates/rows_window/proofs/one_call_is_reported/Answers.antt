use Rattle.std.proofs.Common.{inl, [], refl}
use Rattle.rows_window.proofs.one_call_is_reported.Goals as goal

pub returns : goal.returns
returns c = record { rest = []; first_part = refl; each_told = refl; ended = inl refl }
