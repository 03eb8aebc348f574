-- A report is read back from its JSON text.
use Rattle.std.proofs.Common.{◌≡◌, ℕ, zero, suc, max, ◌≤◌, Option, Some, List, [], ◌∷◌, ◌++◌, map, refl, sym, ap, ◌∙◌, lit<, lit≤}
use Rattle.std.proofs.lemmas.List.{append_cancel_right}
use Rattle.json.specs.Json.{Json, document, max_depth}
use Rattle.json.specs.Json as json
use Rattle.json.specs.Tree.{depth, items_depth, HasNumbers, ItemsHaveNumbers}
use Rattle.json.proofs.Printed.Trees.{document-print}
use Rattle.json.proofs.Printed.Decimals.{IsNumber-decimal}
use Rattle.serde_json.specs.Data.{Data, array}
use Rattle.serde_json.specs.Written.{outline, items_outline, compact_text}
use Rattle.serde_json.proofs.Texts.{print-outline}
use Rattle.ax_types.specs.declared.scripts.Report.{Report}
use Rattle.spec_report.specs.Items as report_items
use Rattle.spec_report.specs.Report as report_reports
use Rattle.spec_report.specs.Json as json_form
use Rattle.std.specs.List.{AllByRecursion}
use Rattle.spec_report.specs.ReportValues as report_values
use Rattle.law_report.specs.ReportsDiffer as reports_differ
use Rattle.law_report.proofs.Lines.{one_list}
use Rattle.law_report.proofs.Report.{one_item, one_history, one_end, one_call_number}

-- an array of strings
abbrev lines_data : List (List ℕ) → Data
lines_data ls = array (json_form.strings_of ls)

strings_have_numbers : (ls : List (List ℕ)) → ItemsHaveNumbers (items_outline (json_form.strings_of ls))
strings_have_numbers [] = tt
strings_have_numbers (l ∷ ls) = (tt, strings_have_numbers ls)

strings_are_flat : (ls : List (List ℕ)) → items_depth (items_outline (json_form.strings_of ls)) ≡ 0
strings_are_flat [] = refl
strings_are_flat (l ∷ ls) = ap (λ n. max 0 n) (strings_are_flat ls)

-- the value of a report
abbrev value_of : List ℕ → List (List ℕ) → List (List ℕ) → List (List ℕ) → Json
value_of end history items waiting = outline (json_form.report_object end (lines_data history) (lines_data items) (lines_data waiting))

value_has_numbers : (end : List ℕ) (history items waiting : List (List ℕ)) → HasNumbers (value_of end history items waiting)
value_has_numbers end history items waiting =
    (tt, (strings_have_numbers history, (strings_have_numbers items, (IsNumber-decimal 1 (lit< tt), (strings_have_numbers waiting, tt)))))

value_is_shallow : (end : List ℕ) (history items waiting : List (List ℕ)) → depth (value_of end history items waiting) ≤ max_depth
value_is_shallow end history items waiting =
    rw (strings_are_flat history) (rw (strings_are_flat items) (rw (strings_are_flat waiting) (lit≤ tt)))

-- a text is read as its value
one_data :
    (end fend : List ℕ) (history kistory items jtems waiting xaiting : List (List ℕ))
    → compact_text (json_form.report_object end (lines_data history) (lines_data items) (lines_data waiting)) ++ (10 ∷ [])
    ≡ compact_text (json_form.report_object fend (lines_data kistory) (lines_data jtems) (lines_data xaiting)) ++ (10 ∷ [])
    → Some (value_of end history items waiting) ≡ Some (value_of fend kistory jtems xaiting)
one_data end fend history kistory items jtems waiting xaiting e =
    let one = json_form.report_object end (lines_data history) (lines_data items) (lines_data waiting) in
    let other = json_form.report_object fend (lines_data kistory) (lines_data jtems) (lines_data xaiting) in
    sym (document-print (outline one) (value_has_numbers end history items waiting) (value_is_shallow end history items waiting))
    ∙ (ap document (print-outline one ∙ (append_cancel_right (compact_text one) (compact_text other) (10 ∷ []) e ∙ sym (print-outline other)))
    ∙ document-print (outline other) (value_has_numbers fend kistory jtems xaiting) (value_is_shallow fend kistory jtems xaiting))

-- ---- the lists of a value

abbrev members_back : Option Json → json.Members
members_back (Some (json.object ms)) = ms
members_back _ = json.no_members

abbrev member_at : ℕ → json.Members → Json
member_at k json.no_members = json.null
member_at zero (json.member key j ms) = j
member_at (suc k) (json.member key j ms) = member_at k ms

abbrev string_back : Json → List ℕ
string_back (json.string s) = s
string_back _ = []

abbrev strings_back : json.Items → List (List ℕ)
strings_back json.no_items = []
strings_back (json.item j js) = string_back j ∷ strings_back js

abbrev lines_back : Json → List (List ℕ)
lines_back (json.array js) = strings_back js
lines_back _ = []

strings-back : (ls : List (List ℕ)) → strings_back (items_outline (json_form.strings_of ls)) ≡ ls
strings-back [] = refl
strings-back (l ∷ ls) = ap (λ t. l ∷ t) (strings-back ls)

-- the lines of equal values
same_lines : (k : ℕ) (one other : Option Json) (xs ys : List (List ℕ)) → one ≡ other
    → lines_back (member_at k (members_back one)) ≡ strings_back (items_outline (json_form.strings_of xs))
    → lines_back (member_at k (members_back other)) ≡ strings_back (items_outline (json_form.strings_of ys))
    → xs ≡ ys
same_lines k one other xs ys e x y =
    sym (strings-back xs) ∙ (sym x ∙ (ap (λ v. lines_back (member_at k (members_back v))) e ∙ (y ∙ strings-back ys)))

-- ---- reports

one_report :
    (r s : Report) → AllByRecursion report_values.FitsItem r.items → AllByRecursion report_values.FitsItem s.items → AllByRecursion report_values.FitsHistoryEntry r.history → AllByRecursion report_values.FitsHistoryEntry s.history → report_values.FitsRunEnd r.end → report_values.FitsRunEnd s.end
    → json_form.json_text r ≡ json_form.json_text s
    → (r.items ≡ s.items) × (r.history ≡ s.history) × (r.end ≡ s.end) × (map report_items.waiting_line r.waiting ≡ map report_items.waiting_line s.waiting)
one_report r s a b c d f g e =
    let one = Some (value_of (report_reports.end_word r.end) (report_reports.act_lines 1 r.history) (map report_items.item_line r.items) (map report_items.waiting_line r.waiting)) in
    let other = Some (value_of (report_reports.end_word s.end) (report_reports.act_lines 1 s.history) (map report_items.item_line s.items) (map report_items.waiting_line s.waiting)) in
    let same : one ≡ other =
    one_data (report_reports.end_word r.end) (report_reports.end_word s.end) (report_reports.act_lines 1 r.history) (report_reports.act_lines 1 s.history) (map report_items.item_line r.items) (map report_items.item_line s.items)
    (map report_items.waiting_line r.waiting) (map report_items.waiting_line s.waiting) e in (
      one_list report_values.FitsItem report_items.item_line one_item r.items s.items a b (same_lines 2 one other (map report_items.item_line r.items) (map report_items.item_line s.items) same refl refl),
      one_history 1 r.history s.history c d (same_lines 1 one other (report_reports.act_lines 1 r.history) (report_reports.act_lines 1 s.history) same refl refl),
      one_end r.end s.end f g (ap (λ v. string_back (member_at 0 (members_back v))) same),
      same_lines 4 one other (map report_items.waiting_line r.waiting) (map report_items.waiting_line s.waiting) same refl refl,
    )

pub json_tells_run : reports_differ.JsonTellsRun
json_tells_run one other h k e =
    let same = one_report (reports_differ.report_of one) (reports_differ.report_of other) h.items k.items h.history k.history h.end k.end e in
    λ i. record { items = same.0 i; history = same.1 i; end = same.2 i }

pub json_tells_report : reports_differ.JsonTellsReport
json_tells_report one other h k e =
    let same = one_report one other h.items k.items h.history k.history h.end k.end e in
    let waiting = one_list report_values.FitsCallNumber report_items.waiting_line one_call_number one.waiting other.waiting h.waiting k.waiting same.3 in
    λ i. record { items = same.0 i; history = same.1 i; waiting = waiting i; end = same.2 i }
