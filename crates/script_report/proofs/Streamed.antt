-- What the sink took of a report, piece by piece.
use Rattle.std.proofs.Common.{◌≡◌, ℕ, ◌≤◌, List, [], ◌++◌, arith, refl, ap, sym, ◌∙◌, subst, inl, inr, append_assoc, append-nil}
use Rattle.std.specs.Prelude.{Bool, true, false, Option, Result, Ok, Err, IsErrAnd}
use Rattle.ax_types.specs.declared.entries.Act.{Act}
use Rattle.ax_types.specs.declared.items.Item.{Item}
use Rattle.ax_types.specs.declared.scripts.RunEnd.{RunEnd}
use Rattle.ax_types.specs.declared.scripts.Script.{Script}
use Rattle.ax_io.specs.Content as ax_io_content
use Rattle.ax_io.proofs.Fronts.{append_told-append_told, TakesFront-more}
use Rattle.spec_report.specs.Items as report_items
use Rattle.spec_report.specs.Report as reports
use Rattle.spec_report.specs.ReportValues as report_values
use Rattle.spec_run.specs.Run as runs
use Rattle.world_hosts.specs.StoresMatch as matching
use Rattle.script_run.specs.Carrying as carrying
use Rattle.script_run.specs.ScriptRuns as script_runs
use Rattle.script_run.specs.declared.telling.GivenUp.{GivenUp}
use Rattle.script_run.specs.declared.telling.GivenUp.TheVariants as given_up
use Rattle.script_run.specs.declared.whole.Ran.{Ran}
use Rattle.script_report.specs.ReportForms as report_forms

-- the pieces of a report, one behind the other
pieces : (json : Bool) (items : List Item) (history : List (ℕ × Act)) (end : RunEnd)
    → report_forms.begun_text json items ++ report_forms.rest_in json items history end ≡ report_forms.report_in json items history end
pieces true items history end = refl
pieces false items history end =
    append_assoc reports.head_text (report_items.items_text items) (report_forms.rest_in false items history end)

-- what the sink took by when these items were shown
begun_so : (json : Bool) (before mid now : Option (List ℕ)) (items : List Item) → mid ≡ ax_io_content.append_told before (report_forms.head_in json) → now ≡ ax_io_content.append_told mid (carrying.told_text json items)
    → now ≡ ax_io_content.append_told before (report_forms.begun_text json items)
begun_so json before mid now items head lines =
    lines ∙ ap (λ m. ax_io_content.append_told m (carrying.told_text json items)) head
    ∙ append_told-append_told before (report_forms.head_in json) (carrying.told_text json items)

-- before the first step
no_steps : (s : Script) → script_runs.AreFirstSteps s []
no_steps s = record { fared = refl; same = refl; within = none }
  where
    none : 0 ≤ runs.most_steps
    none = grind (arith)

-- the first line was not written
pub head_breaks : (json : Bool) (s : Script) (states : List matching.StoreState) (before now : Option (List ℕ)) (r : Result RunEnd GivenUp) → matching.StoresMatch (script_runs.world_of_script s).hosts states → matching.AreTelling states
    → json ≡ false → ax_io_content.TakesFront before now (report_forms.head_in json) → IsErrAnd r (λ x. x ≡ given_up.WriteFault) → report_forms.Writes json s states before now r
head_breaks true s states before now r stores telling text front is = cc
head_breaks false s states before now (Ok end) stores telling text front is = absurd is
head_breaks false s states before now (Err e) stores telling text front is =
    subst (λ x. report_forms.Writes false s states before now (Err x)) (sym is) (inl (record {
      steps = [];
      first = no_steps s;
      stores = stores;
      telling = telling;
      front = subst (ax_io_content.TakesFront before now) (sym (append-nil reports.head_text)) front;
    }))

-- the run was given up
given_up_so : (json : Bool) (s : Script) (states : List matching.StoreState) (before mid now : Option (List ℕ)) (e : GivenUp) → mid ≡ ax_io_content.append_told before (report_forms.head_in json)
    → script_runs.Leaves json s states mid now (Err e) → report_forms.Writes json s states before now (Err e)
given_up_so json s states before mid now given_up.NoMemory head h = record {
  steps = h.steps;
  first = h.first;
  written = begun_so json before mid now (script_runs.items_of s h.steps) head h.written;
}
given_up_so true s states before mid now given_up.WriteFault head h = let text = h.text in cc
given_up_so false s states before mid now given_up.WriteFault head h = inl (record {
  steps = h.steps;
  first = h.first;
  stores = h.stores;
  telling = h.telling;
  front = TakesFront-more reports.head_text (carrying.told_text false (script_runs.items_of s h.steps)) head h.front;
})

pub run_breaks : (json : Bool) (s : Script) (states : List matching.StoreState) (before mid now : Option (List ℕ)) (e : GivenUp) (r : Result RunEnd GivenUp) → mid ≡ ax_io_content.append_told before (report_forms.head_in json)
    → script_runs.Leaves json s states mid now (Err e) → IsErrAnd r (λ x. x ≡ e) → report_forms.Writes json s states before now r
run_breaks json s states before mid now e (Ok end) head h is = absurd is
run_breaks json s states before mid now e (Err x) head h is =
    subst (λ y. report_forms.Writes json s states before now (Err y)) (sym is) (given_up_so json s states before mid now e head h)

-- ---- behind the run

-- all steps of a script are first steps
all_first : (json : Bool) (s : Script) (states : List matching.StoreState) (mid now : Option (List ℕ)) (ran : Ran) (h : script_runs.RunsScript json s states mid now ran) → script_runs.AreFirstSteps s h.all.kept
all_first json s states mid now ran h = record { fared = h.ends.unfolds.fared; same = h.ends.unfolds.same; within = h.ends.unfolds.within }

-- the rest found no memory
pub rest_breaks : (json : Bool) (s : Script) (states : List matching.StoreState) (before mid now : Option (List ℕ)) (ran : Ran) (r : Result RunEnd GivenUp) → mid ≡ ax_io_content.append_told before (report_forms.head_in json)
    → script_runs.RunsScript json s states mid now ran → IsErrAnd r (λ x. x ≡ given_up.NoMemory) → report_forms.Writes json s states before now r
rest_breaks json s states before mid now ran (Ok end) head h is = absurd is
rest_breaks json s states before mid now ran (Err x) head h is =
    subst (λ y. report_forms.Writes json s states before now (Err y)) (sym is) (record {
      steps = h.all.kept;
      first = all_first json s states mid now ran h;
      written = begun_so json before mid now (script_runs.items_of s h.all.kept) head (h.written ∙ ap (λ items. ax_io_content.append_told mid (carrying.told_text json items)) (sym h.ends.told));
    })

-- the rest, by what the run showed
rest_is : (json : Bool) (s : Script) (states : List matching.StoreState) (mid now : Option (List ℕ)) (ran : Ran) (h : script_runs.RunsScript json s states mid now ran)
    → report_forms.rest_in json ran.items.items ran.history.items ran.end ≡ report_forms.rest_in json h.all.transcript h.all.world.history ran.end
rest_is json s states mid now ran h =
    ap (λ items. report_forms.rest_in json items ran.history.items ran.end) h.items ∙ ap (λ history. report_forms.rest_in json h.all.transcript history ran.end) h.history

-- what the sink took before the rest, and the rest, are the report
whole_so : (json : Bool) (s : Script) (states : List matching.StoreState) (before mid told : Option (List ℕ)) (ran : Ran) (text : List ℕ) → mid ≡ ax_io_content.append_told before (report_forms.head_in json)
    → (h : script_runs.RunsScript json s states mid told ran) → text ≡ report_forms.rest_in json ran.items.items ran.history.items ran.end
    → report_forms.begun_text json h.all.transcript ++ text ≡ report_forms.report_in json h.all.transcript h.all.world.history ran.end
whole_so json s states before mid told ran text head h is =
    ap (λ t. report_forms.begun_text json h.all.transcript ++ t) (is ∙ rest_is json s states mid told ran h) ∙ pieces json h.all.transcript h.all.world.history ran.end

-- the whole report is that of the script's run
reports_so : (json : Bool) (s : Script) (states : List matching.StoreState) (mid told : Option (List ℕ)) (ran : Ran) (h : script_runs.RunsScript json s states mid told ran)
    → report_values.IsRun (record { items = ran.items.items; history = ran.history.items; end = ran.end })
    → report_forms.ReportsRun (report_forms.report_in json) s states (report_forms.report_in json h.all.transcript h.all.world.history ran.end) ran.end
reports_so json s states mid told ran h fits = record {
  all = h.all;
  ends = h.ends;
  stores = h.stores;
  telling = h.telling;
  reported = refl;
  fits = subst (λ items. report_values.IsRun (record { items = items; history = h.all.world.history; end = ran.end })) h.items
      (subst (λ history. report_values.IsRun (record { items = ran.items.items; history = history; end = ran.end })) h.history fits);
}

short_so : (json : Bool) (s : Script) (states : List matching.StoreState) (before now : Option (List ℕ)) → report_forms.EndsShort json s states before now → report_forms.WritesFront json s states before now
short_so true s states before now h = h
short_so false s states before now h = inr h

-- the rest was not written, or a front of it
pub end_breaks : (json : Bool) (s : Script) (states : List matching.StoreState) (before mid told now : Option (List ℕ)) (ran : Ran) (text : List ℕ) (r : Result RunEnd GivenUp) → mid ≡ ax_io_content.append_told before (report_forms.head_in json)
    → script_runs.RunsScript json s states mid told ran → text ≡ report_forms.rest_in json ran.items.items ran.history.items ran.end → ax_io_content.TakesFront told now text
    → report_values.IsRun (record { items = ran.items.items; history = ran.history.items; end = ran.end }) → IsErrAnd r (λ x. x ≡ given_up.WriteFault) → report_forms.Writes json s states before now r
end_breaks json s states before mid told now ran text (Ok end) head h is front fits err = absurd err
end_breaks json s states before mid told now ran text (Err x) head h is front fits err =
    subst (λ y. report_forms.Writes json s states before now (Err y)) (sym err) (short_so json s states before now (record {
      text = report_forms.report_in json h.all.transcript h.all.world.history ran.end;
      end = ran.end;
      reports = reports_so json s states mid told ran h fits;
      front = subst (ax_io_content.TakesFront before now) (whole_so json s states before mid told ran text head h is)
          (TakesFront-more (report_forms.begun_text json h.all.transcript) text (begun_so json before mid told h.all.transcript head h.written) front);
    }))

-- all was written
pub all_written : (json : Bool) (s : Script) (states : List matching.StoreState) (before mid told now : Option (List ℕ)) (ran : Ran) (text : List ℕ) → mid ≡ ax_io_content.append_told before (report_forms.head_in json)
    → script_runs.RunsScript json s states mid told ran → text ≡ report_forms.rest_in json ran.items.items ran.history.items ran.end → now ≡ ax_io_content.append_told told text
    → report_values.IsRun (record { items = ran.items.items; history = ran.history.items; end = ran.end }) → report_forms.WritesReport json s states before now ran.end
all_written json s states before mid told now ran text head h is put fits = record {
  text = report_forms.report_in json h.all.transcript h.all.world.history ran.end;
  reports = reports_so json s states mid told ran h fits;
  written = put ∙ ap (λ t. ax_io_content.append_told t text) (begun_so json before mid told h.all.transcript head h.written)
      ∙ append_told-append_told before (report_forms.begun_text json h.all.transcript) text
      ∙ ap (ax_io_content.append_told before) (whole_so json s states before mid told ran text head h is);
}
