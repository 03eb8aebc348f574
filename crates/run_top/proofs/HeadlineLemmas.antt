-- What was written of a script's run stands by the headline.
use Rattle.std.proofs.Common.{◌≡◌, ℕ, List, [], ◌∷◌, length, take, map, refl, ap, sym, ◌∙◌, subst}
use Rattle.std.specs.Prelude.{Bool, Option, Some, None, IfSome, Result, Ok}
use Rattle.ax_types.specs.declared.entries.Loaded.{Loaded}
use Rattle.ax_types.specs.declared.scripts.RunEnd.{RunEnd}
use Rattle.ax_types.specs.declared.scripts.RunEnd.TheVariants as ends
use Rattle.ax_types.specs.declared.scripts.Script.{Script}
use Rattle.ax_types.specs.declared.statuses.Status.{Status}
use Rattle.spec_script.specs.Scripts as scripts
use Rattle.spec_world.specs.Worlds as worlds
use Rattle.spec_run.specs.KeptStores as kept_stores
use Rattle.store_journal.specs.StoreTold as stores
use Rattle.world_hosts.specs.StoresMatch as matching
use Rattle.script_report.specs.ReportForms as report_forms
use Rattle.law_growth.proofs.Numbers.{runs_have_numbers}
use Rattle.law_script.specs.ScriptsWithin as script_limits
use Rattle.law_headline.proofs.HeadlineRuns.{report_stands}
use Rattle.run_top.specs.Outcomes as outcomes
use Rattle.run_top.specs.Statuses as statuses

-- the contents that some stores tell, the hosts' own first
record ToldBy (hosts : List worlds.Host) (states : List matching.StoreState) : Type 0 where
  contents : List Loaded
  same : take (length hosts) (map (λ (s : matching.StoreState). s.told) states) ≡ map stores.Content contents
  are : kept_stores.AreContents hosts contents

told_next : (h : worlds.Host) (hosts : List worlds.Host) (s : matching.StoreState) (states : List matching.StoreState) (t : stores.Told) → s.told ≡ t
    → matching.HasContent h t → matching.Tells t → ToldBy hosts states → ToldBy (h ∷ hosts) (s ∷ states)
told_next h hosts s states (stores.Content c) e has tells rest = record {
  contents = c ∷ rest.contents;
  same = ap (λ t. t ∷ take (length hosts) (map (λ (x : matching.StoreState). x.told) states)) e ∙ ap (λ ts. stores.Content c ∷ ts) rest.same;
  are = (has, rest.are);
}
told_next h hosts s states (stores.Bad at) e has tells rest = absurd tells
told_next h hosts s states stores.Untold e has tells rest = absurd tells

told_contents : (hosts : List worlds.Host) (states : List matching.StoreState) → matching.StoresMatch hosts states → matching.AreTelling states → ToldBy hosts states
told_contents [] states m t = record { contents = []; same = refl; are = tt }
told_contents (h ∷ hosts) [] m t = absurd m
told_contents (h ∷ hosts) (s ∷ states) m t = told_next h hosts s states s.told refl m.0.content t.0 (told_contents hosts states m.1 t.1)

pub stands_by : (json : Bool) (s : Script) (asked : Option Bool) (meant : Result Script scripts.Refusal) (states : List matching.StoreState) (before now : Option (List ℕ)) (end : RunEnd) → script_limits.IsScriptWithin s
    → asked ≡ Some json → meant ≡ Ok s → report_forms.WritesReport json s states before now end → outcomes.StandsBy asked meant states before now end
stands_by json s asked meant states before now end within form read w =
    let r = w.reports in
    let numbers = runs_have_numbers s.nodes s.clients s.timeout r.all.kept in
    let told : ToldBy r.all.world.hosts states = told_contents r.all.world.hosts states r.stores r.telling in
    record {
      json = json;
      form = form;
      script = s;
      read = read;
      text = w.text;
      contents = told.contents;
      kept = subst (λ n. take n (map (λ (x : matching.StoreState). x.told) states) ≡ map stores.Content told.contents) (sym (ap (λ (v : worlds.World). length v.hosts) r.ends.world) ∙ numbers.hosts) told.same;
      headline = report_stands (report_forms.report_in json) s told.contents w.text end within.some (record {
        kept = r.all.kept;
        world = r.all.world;
        items = r.all.transcript;
        run = record { run = record { fared = r.ends.unfolds.fared; leads = r.ends.world; shows = r.ends.told }; unfolds = r.ends.unfolds; ends = sym r.ends.ends };
        stores = told.are;
        reported = r.reported;
      });
      written = w.written;
    }

if_some : (content : Option (List ℕ)) (P Q : List ℕ → Type 0) → ((bytes : List ℕ) → P bytes → Q bytes) → IfSome content P → IfSome content Q
if_some None P Q f h = h
if_some (Some bytes) P Q f h = f bytes h

by_end : (end : RunEnd) (P : RunEnd → Type 0) → P end → outcomes.IfEnded (statuses.of_end end) P
by_end ends.Done P h = h
by_end (ends.StepLimit line) P h = h

pub ended_so : (s : Status) (end : RunEnd) (content : Option (List ℕ)) (P : List ℕ → Type 0) (Q : RunEnd → List ℕ → Type 0) → s ≡ statuses.of_end end → ((bytes : List ℕ) → P bytes → Q end bytes) → IfSome content P
    → outcomes.IfEnded s (λ e. IfSome content (Q e))
ended_so s end content P Q e f h = subst (λ x. outcomes.IfEnded x (λ y. IfSome content (Q y))) (sym e) (by_end end (λ y. IfSome content (Q y)) (if_some content P (Q end) f h))
