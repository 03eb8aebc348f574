-- What is known of the clients that are kept.
use Rattle.std.specs.Prelude.{◌≡◌, ℕ, ◌≤◌, ◌^◌, Bool, false, List, map}
use Rattle.std.specs.List.{AllByRecursion}
use Rattle.spec_raft.specs.Majority as majorities
use Rattle.spec_world.specs.Worlds as worlds
use Rattle.world_seats.specs.SeatAnswers as answers

-- a client that is whole, and that no more calls changed than changed all
pub record IsSeated (calls : ℕ) (s : answers.CountedWatcher) : Type 0 where
  pub whole : s.is_spent ≡ false
  pub within : s.calls ≤ calls

pub record AreSeated (seats : List answers.CountedWatcher) (calls : ℕ) (is_spent : Bool) : Type 0 where
  pub each : is_spent ≡ false → AllByRecursion (IsSeated calls) seats
  pub few : calls ≤ 2 ^ 32

-- a client that has no session yet and no watches, and so many of them
abbrev pub first_seat : ℕ → answers.CountedWatcher
first_seat c = record { watcher = worlds.new_watcher c; calls = 0; is_spent = false }

abbrev pub first_seats : ℕ → List answers.CountedWatcher
first_seats n = map first_seat (majorities.cluster_of n)
