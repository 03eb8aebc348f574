use Rattle.std.proofs.Common.{◌≡◌, ◌≤◌, ℕ, zero, suc, inl, inr, [], ◌∷◌, ◌++◌, length, refl, sym, ◌∙◌, rules, arith}
use Rattle.std.proofs.lemmas.List.{append-nil}
use Rattle.std.proofs.lemmas.Bool.Decides.{nat_tests}
use Rattle.spec_run.specs.Run as runs
use Rattle.spec_race.specs.Race as races
use Rattle.rows_race.specs.RaceRows as race_rows
use Rattle.rows_race.proofs.one_caller_race.Goals as goal

few : length (race_rows.setup_steps ++ race_rows.round_steps) ≤ runs.most_steps
unfolding runs.most_steps
few = search rules

all_drawn : (k : ℕ) → races.drawn_by k (1 ∷ []) (race_rows.one_call ∷ []) ≡ races.caller_calls k race_rows.one_caller
all_drawn zero = refl
all_drawn (suc zero) = refl
all_drawn (suc (suc k)) = grind (arith, nat_tests)

pub returns : goal.returns
unfolding races.most_dead
returns c = record {
  setup = race_rows.setup_steps;
  rounds = race_rows.round_steps;
  takes = (race_rows.one_call ∷ []) ∷ [];
  later = [];
  drawers = 1 ∷ [];
  fared = refl;
  within = few;
  parts = refl;
  setup_is = refl;
  setup_end = inl refl;
  starts = inr refl;
  rounds_are = refl;
  rounds_end = inr (record { none_left = refl; round_over = refl; stop = inl refl });
  taken_are = refl;
  drawn = record { each_drawn = refl; in_order = λ k. ([], sym (all_drawn k) ∙ sym (append-nil _)) };
  all_taken = inr (refl, all_drawn);
}
