-- What a run of the program wrote, by how it ended.
use Rattle.std.proofs.Common.{◌≡◌, ℕ, List, [], ap, sym, ◌∙◌, subst, inl, inr, take, take-append-drop}
use Rattle.std.specs.Prelude.{◌⊎◌, Bool, true, false, Option, Some, None, IfSome, Result, Ok, Err}
use Rattle.ax_types.specs.declared.scripts.RunEnd.{RunEnd}
use Rattle.ax_types.specs.declared.scripts.RunEnd.TheVariants as ends
use Rattle.ax_types.specs.declared.scripts.Script.{Script}
use Rattle.ax_types.specs.declared.statuses.Status.{Status}
use Rattle.ax_types.specs.declared.statuses.Status.TheVariants as status
use Rattle.ax_io.specs.Content as ax_io_content
use Rattle.spec_script.specs.Scripts as scripts
use Rattle.world_hosts.specs.StoresMatch as matching
use Rattle.script_run.specs.declared.telling.GivenUp.{GivenUp}
use Rattle.script_run.specs.declared.telling.GivenUp.TheVariants as given_up
use Rattle.script_report.specs.ReportForms as report_forms
use Rattle.run_top.specs.Outcomes as outcomes
use Rattle.run_top.specs.SourceRests as source_rests
use Rattle.run_top.specs.Statuses as statuses

pub of_asked : (asked : Option Bool) (meant : Result Script scripts.Refusal) (json : Bool) (s : Script) (P : Bool → Script → Type 0) → asked ≡ Some json → meant ≡ Ok s → P json s → outcomes.OfAsked asked meant P
of_asked asked meant json s P form read h = subst (λ a. outcomes.OfAsked a meant P) (sym form) (subst (λ m. outcomes.OfAsked (Some json) m P) (sym read) h)

pub if_some : (content : Option (List ℕ)) (P Q : List ℕ → Type 0) → ((bytes : List ℕ) → P bytes → Q bytes) → IfSome content P → IfSome content Q
if_some None P Q f h = h
if_some (Some bytes) P Q f h = f bytes h

-- ---- a run that was given up

pub fault_writes : (why : GivenUp) (s : Status) (json : Bool) (script : Script) (asked : Option Bool) (content : Option (List ℕ)) (meant : List ℕ → Result Script scripts.Refusal) (states : List matching.StoreState) (before now : Option (List ℕ))
    → s ≡ statuses.of_given_up why → s ≡ status.WriteFault → asked ≡ Some json → IfSome content (λ c. meant c ≡ Ok script) → report_forms.Writes json script states before now (Err why)
    → IfSome content (λ c. outcomes.WritesFront asked (meant c) states before now)
fault_writes given_up.NoMemory s json script asked content meant states before now e is form read h = cc
fault_writes given_up.WriteFault s json script asked content meant states before now e is form read h =
    if_some content (λ c. meant c ≡ Ok script) (λ c. outcomes.WritesFront asked (meant c) states before now)
    (λ c r. of_asked asked (meant c) json script (λ j x. report_forms.WritesFront j x states before now) form r h) read

-- memory was wanted
pub left_writes : (O : Type 0) (why : GivenUp) (s : Status) (json : Bool) (script : Script) (asked : Option Bool) (alike telling : Type 0) (content : Option (List ℕ)) (meant : List ℕ → Result Script scripts.Refusal) (states : List matching.StoreState)
    (sink_before sink_now : O) (before now : Option (List ℕ))
    → s ≡ statuses.of_given_up why → s ≡ status.NoMemory → asked ≡ Some json → IfSome content (λ c. meant c ≡ Ok script) → report_forms.IfJsonLeft {A = RunEnd} json (Err why) (sink_now ≡ sink_before)
    → (telling → report_forms.Writes json script states before now (Err why))
    → outcomes.IsUnwritten asked alike sink_before sink_now ⊎ (telling → IfSome content (λ c. outcomes.WritesLines asked (meant c) before now))
left_writes O given_up.WriteFault s json script asked alike telling content meant states sink_before sink_now before now e is form read silent h = cc
left_writes O given_up.NoMemory s true script asked alike telling content meant states sink_before sink_now before now e is form read silent h = inl (record { sink = silent; why = inr form })
left_writes O given_up.NoMemory s false script asked alike telling content meant states sink_before sink_now before now e is form read silent h = inr (λ tells.
    if_some content (λ c. meant c ≡ Ok script) (λ c. outcomes.WritesLines asked (meant c) before now)
    (λ c r. of_asked asked (meant c) false script (λ j x. report_forms.WritesLines j x before now) form r (h tells)) read)

-- a source that was read out lost a front
pub all_read_loses : (before now : Option (List ℕ)) → source_rests.IsAllRead before now → ax_io_content.LosesFront before now
unfolding source_rests.rest_of
all_read_loses None now h = record { lost = []; moved = sym (ap (ax_io_content.prepend_told []) h.0) }
all_read_loses (Some content) now h = record {
  lost = take 1048577 content;
  moved = ap Some (sym (take-append-drop 1048577 content)) ∙ sym (ap (ax_io_content.prepend_told (take 1048577 content)) h.0);
}

pub left_source : (why : GivenUp) (s : Status) (before now : Option (List ℕ)) → s ≡ statuses.of_given_up why → source_rests.IsAllRead before now → source_rests.LeavesSource before now s
left_source given_up.NoMemory s before now e h = subst (source_rests.LeavesSource before now) (sym e) (all_read_loses before now h)
left_source given_up.WriteFault s before now e h = subst (source_rests.LeavesSource before now) (sym e) h

-- a run that ended left the source read out
pub ended_source : (end : RunEnd) (s : Status) (before now : Option (List ℕ)) → s ≡ statuses.of_end end → source_rests.IsAllRead before now → source_rests.LeavesSource before now s
ended_source ends.Done s before now e h = subst (source_rests.LeavesSource before now) (sym e) h
ended_source (ends.StepLimit line) s before now e h = subst (source_rests.LeavesSource before now) (sym e) h
