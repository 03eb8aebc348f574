-- A report is read from its JSON value.
use Rattle.std.proofs.Common.{◌≡◌, ℕ, ◌+◌, ◌<◌, ◌≤◌, ◌^◌, List, [], ◌∷◌, map, length, refl, ap, ◌∙◌, arith}
use Rattle.std.specs.Prelude.{◌-◌, Option, Some, None, option_and_then, option_map}
use Rattle.std.specs.List.{AllByRecursion}
use Rattle.serde_json.specs.Data.{Data, Items, array, string}
use Rattle.ax_types.specs.declared.entries.Act.{Act}
use Rattle.ax_types.specs.declared.items.Item.{Item}
use Rattle.ax_types.specs.declared.scripts.Report.{Report}
use Rattle.ax_types.specs.declared.scripts.RunEnd.{RunEnd}
use Rattle.spec_report.specs.Items as items
use Rattle.spec_report.specs.Report as reports
use Rattle.spec_report.specs.Json as json_form
use Rattle.spec_report.specs.ReportValues as report_values
use Rattle.spec_report_read.specs.ReportForm as report_form
use Rattle.law_script.proofs.Parts.{both-read}
use Rattle.law_report_read.specs.ReportReadBack as report_read_back
use Rattle.law_report_read.proofs.Lines.{item-line-read, entry-line-read, waiting-line-read, end-word-read}

items-read : (place : ℕ) (is : List Item) → AllByRecursion report_values.FitsItem is → AllByRecursion report_read_back.IsGrammarItem is
    → report_form.each_in (λ place d. report_form.item_in d) place (json_form.strings_of (map items.item_line is)) ≡ Some is
items-read place [] h g = refl
items-read place (i ∷ is) h g = both-read (λ (x : Item) (xs : List Item). x ∷ xs) (item-line-read i h.0 g.0) (items-read (place + 1) is h.1 g.1)

history-read : (place : ℕ) (es : List (ℕ × Act)) → place + length es < 2 ^ 64 → AllByRecursion report_values.FitsHistoryEntry es → AllByRecursion report_read_back.IsGrammarEntry es
    → report_form.each_in report_form.entry_in place (json_form.strings_of (reports.act_lines place es)) ≡ Some es
history-read place [] l h g = refl
history-read place (e ∷ es) l h g =
    both-read (λ (x : ℕ × Act) (xs : List (ℕ × Act)). x ∷ xs) (entry-line-read place e (omega (arith, l)) h.0 g.0) (history-read (place + 1) es (omega (arith, l)) h.1 g.1)

waiting-read : (place : ℕ) (ws : List (ℕ × ℕ)) → AllByRecursion report_values.FitsCallNumber ws
    → report_form.each_in (λ place d. report_form.waiting_call_in d) place (json_form.strings_of (map items.waiting_line ws)) ≡ Some ws
waiting-read place [] h = refl
waiting-read place (w ∷ ws) h = both-read (λ (x : ℕ × ℕ) (xs : List (ℕ × ℕ)). x ∷ xs) (waiting-line-read w h.0) (waiting-read (place + 1) ws h.1)

-- the parts of a report make it
made : Option RunEnd → Option (List (ℕ × Act)) → Option (List Item) → Option (List (ℕ × ℕ)) → Option Report
made end history items waiting =
    option_and_then (λ e. option_and_then (λ h. option_and_then (λ i. option_map (λ w. record { items = i; history = h; waiting = w; end = e }) waiting) items) history) end

pub report_is_read_back : report_read_back.ReportIsReadBack
unfolding made
report_is_read_back report h =
    let end = end-word-read report.end h.values.end in
    let history = history-read 1 report.history (omega (arith, h.places)) h.values.history h.history in
    let list = items-read 1 report.items h.values.items h.items in
    let waiting = waiting-read 1 report.waiting h.values.waiting in
    λ i. made (end i) (history i) (list i) (waiting i)
