-- The clients of a world that begins.
use Rattle.std.proofs.Common.{◌≡◌, ◌∙◌, refl, ap, ℕ, zero, suc, ◌+◌, false, List, [], ◌∷◌, ◌++◌, map, arith}
use Rattle.std.specs.List.{AllByRecursion}
use Rattle.ax_types.specs.Places as lists
use Rattle.spec_raft.specs.Majority as majorities
use Rattle.spec_world.specs.Worlds as worlds
use Rattle.world_seats.specs.SeatAnswers as answers
use Rattle.world_seats.specs.Seated as seated

more_from : (a n : ℕ) → map seated.first_seat (lists.numbers_from a (suc n)) ≡ map seated.first_seat (lists.numbers_from a n) ++ seated.first_seat (n + a) ∷ []
more_from a zero = ap (λ k. seated.first_seat k ∷ []) (let e : a ≡ 0 + a = omega arith in e)
more_from a (suc n) = ap (λ xs. seated.first_seat a ∷ xs) (more_from (suc a) n ∙ ap (λ k. map seated.first_seat (lists.numbers_from (suc a) n) ++ seated.first_seat k ∷ []) (let e : n + suc a ≡ suc n + a = omega arith in e))

-- one client more
pub one_more : (n : ℕ) → seated.first_seats (n + 1) ≡ seated.first_seats n ++ seated.first_seat (n + 1) ∷ []
one_more n = ap seated.first_seats (let e : n + 1 ≡ suc n = omega arith in e) ∙ more_from 1 n

all_new : (cs : List ℕ) → AllByRecursion (seated.IsSeated 0) (map seated.first_seat cs)
all_new [] = tt
all_new (c ∷ cs) = (record { whole = refl; within = omega arith }, all_new cs)

pub new_seated : (n : ℕ) → seated.AreSeated (seated.first_seats n) 0 false
new_seated n = record { each = λ whole. all_new (majorities.cluster_of n); few = omega arith }

pub new_watchers : (cs : List ℕ) → map (λ (s : answers.CountedWatcher). s.watcher) (map seated.first_seat cs) ≡ map worlds.new_watcher cs
new_watchers [] = refl
new_watchers (c ∷ cs) = ap (λ ws. worlds.new_watcher c ∷ ws) (new_watchers cs)
