-- A report is read from its JSON text.
use Rattle.std.proofs.Common.{◌≡◌, ℕ, max, ◌≤◌, List, [], ◌∷◌, ◌++◌, map, refl, sym, ap, ◌∙◌, append-nil, decimal, lit<, lit≤, codes, IsUtf8}
use Rattle.std.specs.Prelude.{Option, Some, None, option_and_then, option_map, Result, Ok, Err, if◌then◌else◌}
use Rattle.std.proofs.lemmas.Str.{is_utf8-from_IsUtf8}
use Rattle.json.specs.Json as json
use Rattle.json.specs.Json.{Json}
use Rattle.json.specs.Lex.{tokens}
use Rattle.json.specs.Print.{print}
use Rattle.json.specs.Tree.{json_tokens, depth, items_depth, HasNumbers, ItemsHaveNumbers}
use Rattle.json.proofs.Printed.Tokens.{tokens-print}
use Rattle.json.proofs.Printed.Trees.{value-json_tokens, ArePrintable-json_tokens}
use Rattle.json.proofs.Printed.Decimals.{IsNumber-decimal}
use Rattle.serde_json.specs.Data.{Data, Items, item, array, object, number, unsigned, string, no_members, member}
use Rattle.serde_json.specs.Read.{read, of_json, of_items, max_depth}
use Rattle.serde_json.specs.Written.{outline, items_outline, compact_text}
use Rattle.serde_json.proofs.Texts.{print-outline}
use Rattle.serde_json.proofs.Numbers.{number_of-decimal}
use Rattle.ax_types.specs.declared.scripts.Report.{Report}
use Rattle.ax_types.specs.declared.statuses.ReportWhy.{ReportWhy}
use Rattle.ax_types.specs.declared.statuses.ReportWhy.TheVariants as report_why
use Rattle.spec_report.specs.Items as items
use Rattle.spec_report.specs.Report as reports
use Rattle.spec_report.specs.Json as json_form
use Rattle.spec_report_read.specs.ReportForm as report_form
use Rattle.law_report_read.specs.ReportReadBack as report_read_back
use Rattle.law_report_read.proofs.Newlines.{tokens-newline}
use Rattle.law_report_read.proofs.Reports.{report_is_read_back}

-- an array of strings
abbrev lines_data : List (List ℕ) → Data
lines_data ls = array (json_form.strings_of ls)

strings_have_numbers : (ls : List (List ℕ)) → ItemsHaveNumbers (items_outline (json_form.strings_of ls))
strings_have_numbers [] = tt
strings_have_numbers (l ∷ ls) = (tt, strings_have_numbers ls)

strings_are_flat : (ls : List (List ℕ)) → items_depth (items_outline (json_form.strings_of ls)) ≡ 0
strings_are_flat [] = refl
strings_are_flat (l ∷ ls) = ap (λ n. max 0 n) (strings_are_flat ls)

-- the object of four texts
abbrev object_of : List ℕ → List (List ℕ) → List (List ℕ) → List (List ℕ) → Data
object_of end history items waiting = json_form.report_object end (lines_data history) (lines_data items) (lines_data waiting)

has_numbers : (end : List ℕ) (history items waiting : List (List ℕ)) → HasNumbers (outline (object_of end history items waiting))
has_numbers end history items waiting =
    (tt, (strings_have_numbers history, (strings_have_numbers items, (IsNumber-decimal 1 (lit< tt), (strings_have_numbers waiting, tt)))))

is_shallow : (end : List ℕ) (history items waiting : List (List ℕ)) → depth (outline (object_of end history items waiting)) ≤ max_depth
is_shallow end history items waiting =
    rw (strings_are_flat history) (rw (strings_are_flat items) (rw (strings_are_flat waiting) (lit≤ tt)))

strings-data : (ls : List (List ℕ)) → of_items (items_outline (json_form.strings_of ls)) ≡ Some (json_form.strings_of ls)
strings-data [] = refl
strings-data (l ∷ ls) = ap (option_map (item (string l))) (strings-data ls)

lines-data : (ls : List (List ℕ)) → of_json (outline (lines_data ls)) ≡ Some (lines_data ls)
lines-data ls = ap (option_map array) (strings-data ls)

-- the object of the values of its last four keys
abbrev made_object : List ℕ → Option Data → Option Data → Option Data → Option Data → Option Data
made_object end history items version waiting =
    option_map object (option_and_then (λ h. option_and_then (λ i. option_and_then (λ v. option_and_then (λ w.
    Some (member (codes "end") (string end) (member (codes "history") h (member (codes "items") i (member (codes "report") v (member (codes "waiting") w no_members))))))
    waiting) version) items) history)

object-data : (end : List ℕ) (history items waiting : List (List ℕ)) → of_json (outline (object_of end history items waiting)) ≡ Some (object_of end history items waiting)
object-data end history items waiting =
    let one : of_json (json.number (decimal 1)) ≡ Some (number (unsigned 1)) = ap (option_map number) (number_of-decimal 1 (lit< tt)) in
    λ i. made_object end (lines-data history i) (lines-data items i) (one i) (lines-data waiting i)

-- a printed value and a newline are read as the value
value-read : (d : Data) → HasNumbers (outline d) → depth (outline d) ≤ max_depth → of_json (outline d) ≡ Some d → read (compact_text d ++ (10 ∷ [])) ≡ Some d
value-read d numbers shallow same =
    let ts = json_tokens (outline d) in
    let printable = ArePrintable-json_tokens (outline d) numbers in
    let all : tokens (compact_text d ++ (10 ∷ [])) ≡ ts ++ [] =
    ap (λ t. tokens (t ++ (10 ∷ []))) (sym (print-outline d)) ∙ (tokens-newline ts printable ∙ (tokens-print ts printable ∙ sym (append-nil ts))) in
    ap (λ us. option_and_then of_json (option_and_then (λ p. json.if_last p.0 p.1) (json.value max_depth us))) all
    ∙ (ap (λ o. option_and_then of_json (option_and_then (λ p. json.if_last p.0 p.1) o)) (value-json_tokens (outline d) max_depth [] shallow) ∙ same)

text-read : (r : Report) → read (json_form.json_text r) ≡ Some (json_form.report_data r)
text-read r =
    let end = reports.end_word r.end in
    let history = reports.act_lines 1 r.history in
    let list = map items.item_line r.items in
    let waiting = map items.waiting_line r.waiting in
    value-read (json_form.report_data r) (has_numbers end history list waiting) (is_shallow end history list waiting) (object-data end history list waiting)

pub json_is_read_back : report_read_back.JsonIsReadBack
json_is_read_back report h utf8 short =
    let text = json_form.json_text report in
    ap (λ v. if v then Err report_why.TooLong else report_form.or_json (report_form.data_from_bytes text)) short
    ∙ (ap report_form.or_json (ap (λ v. if v then read text else None) (is_utf8-from_IsUtf8 text utf8) ∙ text-read report)
    ∙ ap report_form.or_shape (report_is_read_back report h))
