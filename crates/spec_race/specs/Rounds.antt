-- One round of a race: the plan's steps, the calls that were taken, a drive of the leader, and a resend where nothing came.
use Rattle.std.specs.Prelude.{ℕ, ◌%◌, Bool, ◌||◌, nat_eq, Option, None, Some, List, [], ◌∷◌, ◌++◌, length, map, flat_map, slice_get, if◌then◌else◌}
use Rattle.ax_types.specs.declared.items.Item.{Item}
use Rattle.ax_types.specs.declared.ops.WindowCall.{WindowCall}
use Rattle.ax_types.specs.declared.ops.WindowCall.TheVariants as call
use Rattle.ax_types.specs.declared.steps.Step.{Step}
use Rattle.ax_types.specs.declared.steps.Step.TheVariants as step
use Rattle.spec_claims.specs.Transcript as transcripts
use Rattle.spec_client.specs.Clients as clients
use Rattle.spec_world.specs.Worlds as worlds
use Rattle.spec_run.specs.Run as runs

-- the client whose session the callers share
abbrev pub racing_client : ℕ
racing_client = 1

-- the step of a call that was taken
abbrev pub asking_step : WindowCall → Step
asking_step (call.Command name op) = step.Call racing_client name op
asking_step (call.Query level name query) = step.Query racing_client level name query

-- the steps of the plan for a round, in order of the script
abbrev pub planned_for : ℕ → List (ℕ × Step) → List Step
planned_for round [] = []
planned_for round (line ∷ plan) = if nat_eq line.0 round then line.1 ∷ planned_for round plan else planned_for round plan

-- the plan's steps, and the calls in order of their numbers
abbrev pub asking_jobs : ℕ → List (ℕ × Step) → List WindowCall → List runs.Job
asking_jobs round plan calls = map runs.Make (planned_for round plan ++ map asking_step calls)

-- a leader beats twice; without one the up nodes stand for election in turn
abbrev pub leading_jobs : ℕ → List runs.Job
leading_jobs l = runs.Make (step.Beat l) ∷ runs.Deliver_all ∷ runs.Make (step.Beat l) ∷ runs.Deliver_all ∷ []

abbrev pub election_jobs : Option ℕ → List runs.Job
election_jobs None = []
election_jobs (Some k) = runs.Make (step.Elect k) ∷ runs.Deliver_all ∷ []

abbrev pub driving_jobs : ℕ → worlds.World → List runs.Job
driving_jobs round w = by_leader (worlds.leader_now w)
  where
    by_leader : Option ℕ → List runs.Job
    by_leader (Some l) = leading_jobs l
    by_leader None = election_jobs (slice_get (worlds.up_nodes w) (round % length (worlds.up_nodes w)))

-- where the round gave no outcome the client asks again, unless its session has ended
abbrev pub again_jobs : worlds.World → Bool → List runs.Job
again_jobs w live = if live || clients.has_ended (worlds.client_state w racing_client) then [] else (runs.Make (step.Resend racing_client) ∷ [])

-- the session of the client now
abbrev pub session_now : worlds.World → ℕ
session_now w = clients.own_session (worlds.client_state w racing_client)

-- the numbers of the session's calls whose outcome the items are
abbrev pub outcomes_in : ℕ → List Item → List ℕ
outcomes_in session items = flat_map (λ i. number (transcripts.outcome_of session i)) items
  where
    number : Option ℕ → List ℕ
    number None = []
    number (Some n) = n ∷ []

-- the part of a round in hand
pub data Part : Type 0 where
  Asking : Part
  Driving : Part
  Again : Part

-- a round: its part in hand, what is left of that, and whether an outcome came in it
pub record Round : Type 0 where
  pub part : Part
  pub jobs : List runs.Job
  pub live : Bool

-- a step, and the round after it
pub record RoundStep : Type 0 where
  pub step : Step
  pub round : Round

-- the next step of the jobs, or else that of the next part
abbrev pub job_or : Round → Option (Step × List runs.Job) → Option RoundStep → Option RoundStep
job_or r (Some n) later = Some (record { step = n.0; round = record r { jobs = n.1 } })
job_or r None later = later

abbrev pub again_step : worlds.World → Round → Option RoundStep
again_step w r = job_or r (runs.next_job w r.jobs) None

abbrev pub driving_step : worlds.World → Round → Option RoundStep
driving_step w r = job_or r (runs.next_job w r.jobs) (again_step w (record { part = Again; jobs = again_jobs w r.live; live = r.live }))

abbrev pub asking_step_of : ℕ → worlds.World → Round → Option RoundStep
asking_step_of round w r = job_or r (runs.next_job w r.jobs) (driving_step w (record { part = Driving; jobs = driving_jobs round w; live = r.live }))

-- the next step of a round, if it is not over
abbrev pub round_step : ℕ → worlds.World → Round → Option RoundStep
round_step round w r = by_part r.part
  where
    by_part : Part → Option RoundStep
    by_part Asking = asking_step_of round w r
    by_part Driving = driving_step w r
    by_part Again = again_step w r
