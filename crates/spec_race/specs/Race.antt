-- A race: its set-up, its rounds over the calls that were taken, and what its callers are told.
use Rattle.std.specs.Prelude.{ℕ, suc, ◌≡◌, ◌⊎◌, ◌≤◌, ◌+◌, ◌-◌, Bool, true, false, ◌||◌, ◌&&◌, nat_eq, nat_lt, nat_le, Option, None, Some, List, [], ◌∷◌, ◌++◌, length, map, flat_map, replicate, is_some, is_none, if◌then◌else◌}
use Rattle.std.specs.List.{list_all}
use Rattle.ax_types.specs.declared.limits.TheConstants.{DEAD_ROUNDS, MAX_UNANSWERED}
use Rattle.ax_types.specs.Places as lists
use Rattle.ax_types.specs.declared.items.Item.{Item}
use Rattle.ax_types.specs.declared.items.Item.TheVariants as item
use Rattle.ax_types.specs.declared.ops.WindowCall.{WindowCall}
use Rattle.ax_types.specs.declared.replies.Outcome.{Outcome}
use Rattle.ax_types.specs.declared.replies.Outcome.TheVariants as outcome
use Rattle.ax_types.specs.declared.scripts.CallerLine.{CallerLine}
use Rattle.ax_types.specs.declared.scripts.RunEnd.{RunEnd}
use Rattle.ax_types.specs.declared.scripts.RunEnd.TheVariants as ends
use Rattle.ax_types.specs.declared.scripts.Script.{Script}
use Rattle.ax_types.specs.declared.steps.KeptStep.{KeptStep}
use Rattle.ax_types.specs.declared.steps.Step.{Step}
use Rattle.ax_types.specs.declared.steps.StepOutcome.{StepOutcome}
use Rattle.spec_claims.specs.Transcript as transcripts
use Rattle.spec_client.specs.Clients as clients
use Rattle.spec_world.specs.Worlds as worlds
use Rattle.spec_claims.specs.Once as once
use Rattle.spec_run.specs.Run as runs
use Rattle.spec_race.specs.Rounds as race_rounds

-- how many rounds in a row without an outcome stop the pump
unfoldable pub most_dead : ℕ
most_dead = DEAD_ROUNDS

-- the pump: the number of the round in hand, or of the last one, that round where it is not over, the rounds in a row without
-- an outcome, and the calls that were taken and have none
pub record Pump : Type 0 where
  pub number : ℕ
  pub round : Option race_rounds.Round
  pub dead : ℕ
  pub waiting : ℕ

abbrev pub idle_pump : Pump
idle_pump = record { number = 0; round = None; dead = 0; waiting = 0 }

-- the pump where its round is over
abbrev pub over : Pump → Option race_rounds.Round → Pump
over p None = p
over p (Some r) = record p { round = None; dead = if r.live then 0 else suc p.dead }

-- the pump with a new round over the calls that were taken since the last
abbrev pub with_round : List (ℕ × Step) → Pump → List WindowCall → Pump
with_round plan p calls = record p {
  number = suc p.number;
  round = Some (record { part = race_rounds.Asking; jobs = race_rounds.asking_jobs (suc p.number) plan calls; live = false });
  waiting = p.waiting + length calls;
}

-- a round begins only where calls were taken since the last, or one has no outcome; not after too many dead ones. The session
-- has room for each call that it takes, since the window has no more places
abbrev pub may_begin : Pump → List WindowCall → Bool
may_begin p calls = nat_lt p.dead most_dead && (nat_lt 0 (length calls) || nat_lt 0 p.waiting) && nat_le (p.waiting + length calls) MAX_UNANSWERED

-- the next step of a race, and the pump and the takes that are left after it
pub record RaceStep : Type 0 where
  pub step : Step
  pub pump : Pump
  pub takes : List (List WindowCall)

abbrev pub step_in : worlds.World → Pump → Option race_rounds.Round → Option race_rounds.RoundStep
step_in w p None = None
step_in w p (Some r) = race_rounds.round_step p.number w r

-- the calls that each round took, in order of the rounds, are `takes`
abbrev pub race_step : List (ℕ × Step) → worlds.World → Pump → List (List WindowCall) → Option RaceStep
race_step plan w p [] = in_hand (step_in w p p.round)
  where
    in_hand : Option race_rounds.RoundStep → Option RaceStep
    in_hand None = None
    in_hand (Some s) = Some (record { step = s.step; pump = record p { round = Some s.round }; takes = [] })
race_step plan w p (calls ∷ takes) = in_hand (step_in w p p.round) (race_step plan w (with_round plan (over p p.round) calls) takes)
  where
    in_hand : Option race_rounds.RoundStep → Option RaceStep → Option RaceStep
    in_hand (Some s) later = Some (record { step = s.step; pump = record p { round = Some s.round }; takes = calls ∷ takes })
    in_hand None later = if may_begin (over p p.round) calls then later else None

-- the pump after the items of a step
abbrev pub with_life : Option race_rounds.Round → Bool → Option race_rounds.Round
with_life None live = None
with_life (Some r) live = Some (record r { live = r.live || live })

abbrev pub pump_after : Pump → List ℕ → Pump
pump_after p outcomes = record p { round = with_life p.round (nat_lt 0 (length outcomes)); waiting = p.waiting - length outcomes }

-- a race in hand: the world, the pump, and the takes that it has not taken up
pub record RaceState : Type 0 where
  pub world : worlds.World
  pub pump : Pump
  pub takes : List (List WindowCall)

abbrev pub race_due : List (ℕ × Step) → RaceState → Option (runs.Due RaceState)
race_due plan r = due_of (race_step plan r.world r.pump r.takes)
  where
    due_of : Option RaceStep → Option (runs.Due RaceState)
    due_of None = None
    due_of (Some s) = Some (record {
      world = r.world;
      step = s.step;
      after = λ m. record { world = m.world; pump = pump_after s.pump (race_rounds.outcomes_in (race_rounds.session_now r.world) m.items); takes = s.takes };
    })

-- the steps of the rounds, where the stores fared so in each, and the race in hand after steps of them
abbrev pub raced : List (ℕ × Step) → RaceState → List StepOutcome → List KeptStep
raced plan r outcomes = (runs.walked (race_due plan) r outcomes).steps

abbrev pub race_after : List (ℕ × Step) → RaceState → List KeptStep → RaceState
race_after plan r steps = (runs.walked (race_due plan) r (runs.outcomes_of steps)).state

-- callers may start: client 1 is open, and no call of it is without an outcome
abbrev pub no_requests : Option worlds.Watcher → Bool
no_requests None = true
no_requests (Some s) = nat_eq (length s.client.requests) 0

abbrev pub may_start : worlds.World → Bool
may_start w = clients.is_live_client (worlds.client_state w race_rounds.racing_client) && no_requests (lists.at_place w.seats race_rounds.racing_client)

-- the calls that the session had before the first caller's
abbrev pub calls_in : Option worlds.Watcher → ℕ
calls_in None = 0
calls_in (Some s) = s.client.calls

abbrev pub calls_before : worlds.World → ℕ
calls_before w = calls_in (lists.at_place w.seats race_rounds.racing_client)

-- too many rounds in a row were dead, the last of them over
abbrev pub is_dead : List (ℕ × Step) → RaceState → Bool
is_dead plan r = nat_eq (over r.pump r.pump.round).dead most_dead && is_none (race_step plan r.world r.pump [])

-- the pump has nothing to go on with: its round is over, and no call lacks an outcome or too many rounds were dead
pub record IsOver (plan : List (ℕ × Step)) (r : RaceState) : Type 0 where
  pub none_left : r.takes ≡ []
  pub round_over : race_step plan r.world r.pump [] ≡ None
  pub stop : (r.pump.waiting ≡ 0) ⊎ (is_dead plan r ≡ true)

abbrev pub first_world : Script → worlds.World
first_world script = worlds.new_world script.nodes script.clients script.timeout

abbrev pub race_from : Script → List KeptStep → List (List WindowCall) → RaceState
race_from script setup takes = record { world = (runs.ran (first_world script) setup).world; pump = idle_pump; takes = takes }

-- ---- callers

-- the calls of a caller, in order of the script's lines
abbrev pub caller_calls : ℕ → List CallerLine → List WindowCall
caller_calls k lines = flat_map (λ l. if nat_eq l.caller k then replicate l.count l.call else []) lines

-- of the calls that these callers drew, in order, those of one
abbrev pub drawn_by : ℕ → List ℕ → List WindowCall → List WindowCall
drawn_by k [] calls = []
drawn_by k (d ∷ drawers) [] = []
drawn_by k (d ∷ drawers) (c ∷ calls) = if nat_eq d k then c ∷ drawn_by k drawers calls else drawn_by k drawers calls

-- each call was drawn by a caller of the script, and each caller drew its calls in order
pub record AreDrawn (lines : List CallerLine) (drawers : List ℕ) (taken : List WindowCall) : Type 0 where
  pub each_drawn : length drawers ≡ length taken
  pub in_order : (k : ℕ) → once.Begins (drawn_by k drawers taken) (caller_calls k lines)

-- ---- the whole

-- the pump has stopped: as many steps were made as a run may have, or too many rounds in a row were dead
abbrev pub IsStopped : List (ℕ × Step) → List KeptStep → RaceState → Type 0
IsStopped plan steps r = (length steps ≡ runs.most_steps) ⊎ (is_dead plan r ≡ true)

abbrev pub setup_left : Script → List KeptStep → Option runs.Next
setup_left script setup = runs.left_after (first_world script) (runs.works_of script.lines) setup

-- The steps of a race: those of the set-up, and then the rounds over the calls that were taken, in order, to their end or to
-- the step limit. Where the set-up met the limit no caller is started. Calls that are taken after the pump stopped have no
-- step; where it did not stop, all calls of the callers were taken.
pub record IsRace (script : Script) (taken : List WindowCall) (steps : List KeptStep) : Type 0 where
  pub setup : List KeptStep
  pub rounds : List KeptStep
  pub takes : List (List WindowCall)
  pub later : List WindowCall
  pub drawers : List ℕ
  pub fared : runs.may_run (first_world script) steps ≡ true
  pub within : length steps ≤ runs.most_steps
  pub parts : steps ≡ setup ++ rounds
  pub setup_is : setup ≡ runs.unfolded (first_world script) (runs.works_of script.lines) (runs.outcomes_of setup)
  pub setup_end : (setup_left script setup ≡ None) ⊎ ((length setup ≡ runs.most_steps) × (taken ≡ []))
  pub starts : (taken ≡ []) ⊎ (may_start (race_from script setup takes).world ≡ true)
  pub rounds_are : rounds ≡ raced script.plan (race_from script setup takes) (runs.outcomes_of rounds)
  pub rounds_end : (length steps ≡ runs.most_steps) ⊎ IsOver script.plan (race_after script.plan (race_from script setup takes) rounds)
  pub taken_are : taken ≡ flat_map (λ calls. calls) takes ++ later
  pub drawn : AreDrawn script.callers drawers taken
  pub all_taken :
      IsStopped script.plan steps (race_after script.plan (race_from script setup takes) rounds)
      ⊎ ((later ≡ []) × ((k : ℕ) → drawn_by k drawers taken ≡ caller_calls k script.callers))

-- ---- outcomes

-- the outcome that an item tells
abbrev pub told_by : Item → Option Outcome
told_by (item.Reply s n place reply) = Some (outcome.Reply place reply)
told_by (item.Read s n level place reach reply) = Some (outcome.Read level place reach reply)
told_by (item.Doubt s n) = Some outcome.Doubt
told_by (item.Lost s n) = Some outcome.Lost
told_by (item.Unsent s n) = Some outcome.Unsent
told_by (item.Unanswered s n) = Some outcome.Unanswered
told_by _ = None

abbrev pub is_number : ℕ → Option ℕ → Bool
is_number n None = false
is_number n (Some m) = nat_eq n m

-- the outcome that the items tell of call n of a session, if any
abbrev pub outcome_in : ℕ → ℕ → List Item → Option Outcome
outcome_in session n [] = None
outcome_in session n (i ∷ items) = if is_number n (transcripts.outcome_of session i) then told_by i else outcome_in session n items

-- what is said of the calls that have no outcome where the pump stopped after too many dead rounds
abbrev pub unanswered_items : ℕ → List Item → List Item
unanswered_items session items = map (λ c. item.Unanswered session c.0) (transcripts.unanswered session items)

-- the call with number n of the window is this call of the session, where the session had so many calls before
abbrev pub session_number : ℕ → ℕ → ℕ
session_number before n = n + 1 + before

-- the line of a caller: the call's number in the session, and its outcome
pub record CallerOutcome : Type 0 where
  pub number : ℕ
  pub outcome : Outcome

abbrev pub caller_outcome : ℕ → Option Outcome → List CallerOutcome
caller_outcome number None = []
caller_outcome number (Some o) = record { number = number; outcome = o } ∷ []

-- the lines of a caller that drew these numbers of the window, in order
abbrev pub caller_lines : ℕ → ℕ → List Item → List ℕ → List CallerOutcome
caller_lines session before items numbers =
    flat_map (λ n. caller_outcome (session_number before n) (outcome_in session (session_number before n) items)) numbers

-- ---- the end

-- whether each of so many calls of the window has an outcome
abbrev pub all_answered : ℕ → ℕ → List Item → ℕ → Bool
all_answered session before items count = list_all (λ n. is_some (outcome_in session (session_number before n) items)) (lists.numbers_from 0 count)

-- How a race ended: at the line of the set-up that met the limit; done where the pump stopped after its dead rounds, or where no
-- round lacks a step and no call that was taken an outcome; else the last line needs one more step.
abbrev pub race_end : Script → List KeptStep → RaceState → ℕ → ℕ → List Item → ℕ → RunEnd
race_end script setup r session before items count = by_setup (setup_left script setup)
  where
    by_setup : Option runs.Next → RunEnd
    by_setup (Some n) = ends.StepLimit n.line
    by_setup None =
        if is_dead script.plan r || (is_none (race_step script.plan r.world r.pump []) && all_answered session before items count) then ends.Done
        else ends.StepLimit script.last_line
