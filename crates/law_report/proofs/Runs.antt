-- A run is read back from the text of its report.
use Rattle.std.proofs.Common.{◌≡◌, ℕ, true, List, [], ◌∷◌, ◌++◌, map, drop, length, codes, refl, sym, ap, ◌∙◌, length-append, arith}
use Rattle.ax_types.specs.declared.entries.Act.{Act}
use Rattle.ax_types.specs.declared.scripts.RunEnd.{RunEnd}
use Rattle.ax_types.specs.declared.items.Item.{Item}
use Rattle.spec_report.specs.CallLines as call_lines
use Rattle.spec_report.specs.Items as report_items
use Rattle.spec_report.specs.Report as reports
use Rattle.std.specs.List.{AllByRecursion}
use Rattle.spec_report.specs.ReportValues as report_values
use Rattle.law_report.specs.ReportsDiffer as reports_differ
use Rattle.law_report.proofs.Words.{word, join, pieces, pieces-join, pieces-lacks, above-lacks}
use Rattle.law_report.proofs.Lines.{AreLines, pieces-lines, same_first, same_rest, one_list, opens, one_cut, same_behind}
use Rattle.law_report.proofs.Report.{one_item, items_are_lines, is_history, items_are_no_history, one_history, acts_are_lines, is_past_digits, acts_begin_with_digits, history-line, is_history_line, waiting_are_lines, end_word-line, one_end}
use Rattle.law_report.proofs.Extras.{extras_are_lines, extras_are_past_digits}

-- ---- the lines of a report

-- the lines behind the waiting ones, and what is left behind the last newline
abbrev last_lines : List (List ℕ) → RunEnd → List (List ℕ)
last_lines lines end = lines ++ (call_lines.one_operand (codes "end") (reports.end_word end) ∷ [] ∷ [])

-- the lines behind the history
abbrev tail_lines : List (ℕ × ℕ) → List (List ℕ) → RunEnd → List (List ℕ)
tail_lines waiting lines end = map report_items.waiting_line waiting ++ last_lines lines end

tail_is_past_digits : (waiting : List (ℕ × ℕ)) (lines : List (List ℕ)) (end : RunEnd) → AllByRecursion (λ l. is_past_digits l ≡ true) lines
    → opens is_past_digits (tail_lines waiting lines end) ≡ true
tail_is_past_digits [] [] end h = refl
tail_is_past_digits [] (l ∷ lines) end h = h.0
tail_is_past_digits (a ∷ waiting) lines end h = refl

end-pieces : (end : RunEnd) → pieces 10 (reports.end_text end) ≡ call_lines.one_operand (codes "end") (reports.end_word end) ∷ [] ∷ []
end-pieces end =
    let line = join (word (codes "end") refl) (end_word-line end) in
    pieces-join 10 (call_lines.one_operand (codes "end") (reports.end_word end)) []
    ∙ ap (λ ls. ls ++ ([] ∷ [])) (pieces-lacks 10 (call_lines.one_operand (codes "end") (reports.end_word end)) (above-lacks 31 10 refl (call_lines.one_operand (codes "end") (reports.end_word end)) line.bytes))

-- the lines behind the head
abbrev body_lines : List Item → List (ℕ × Act) → List (List ℕ) → RunEnd → List (List ℕ)
body_lines items history lines end =
    map report_items.item_line items ++ (reports.history_line history ∷ (reports.act_lines 1 history ++ tail_lines (report_items.waiting_of items) lines end))

report-pieces : (items : List Item) (history : List (ℕ × Act)) (lines : List (List ℕ)) (end : RunEnd) → AllByRecursion report_values.FitsItem items → AllByRecursion report_values.FitsHistoryEntry history → AreLines lines
    → pieces 10 (reports.race_text items history lines end) ≡ codes "report 1" ∷ body_lines items history lines end
report-pieces items history lines end h k g =
    let last = report_items.lines_text lines ++ reports.end_text end in
    let behind = report_items.waiting_text (report_items.waiting_of items) ++ last in
    ap (λ ls. codes "report 1" ∷ ls)
    (pieces-lines (map report_items.item_line items) (reports.history_text history ++ behind) (items_are_lines items h)
    ∙ ap (λ ls. map report_items.item_line items ++ ls)
    (pieces-lines (reports.history_line history ∷ reports.act_lines 1 history) behind ((history-line history).bytes, acts_are_lines 1 history k)
    ∙ ap (λ ls. reports.history_line history ∷ (reports.act_lines 1 history ++ ls))
    (pieces-lines (map report_items.waiting_line (report_items.waiting_of items)) last (waiting_are_lines (report_items.waiting_of items))
    ∙ ap (λ ls. map report_items.waiting_line (report_items.waiting_of items) ++ ls)
    (pieces-lines lines (reports.end_text end) g ∙ ap (λ ls. lines ++ ls) (end-pieces end)))))

-- ---- runs

-- the last line, and those in front of it
one_last : (us vs : List (List ℕ)) (a b : List ℕ) → us ++ (a ∷ [] ∷ []) ≡ vs ++ (b ∷ [] ∷ []) → (us ≡ vs) × (a ≡ b)
one_last [] [] a b e = (refl, same_first [] a b ([] ∷ []) ([] ∷ []) e)
one_last [] (v ∷ vs) a b e = absurd (omega (arith, ap (λ ls. length ls) e, length-append vs (b ∷ [] ∷ [])))
one_last (u ∷ us) [] a b e = absurd (omega (arith, ap (λ ls. length ls) e, length-append us (a ∷ [] ∷ [])))
one_last (u ∷ us) (v ∷ vs) a b e =
    let rest = one_last us vs a b (same_rest u v (us ++ (a ∷ [] ∷ [])) (vs ++ (b ∷ [] ∷ [])) e) in
    ((λ i. same_first [] u v (us ++ (a ∷ [] ∷ [])) (vs ++ (b ∷ [] ∷ [])) e i ∷ rest.0 i), rest.1)

one_body :
    (items jtems : List Item) (history kistory : List (ℕ × Act)) (lines more : List (List ℕ)) (end fend : RunEnd)
    → AllByRecursion report_values.FitsItem items → AllByRecursion report_values.FitsItem jtems → AllByRecursion report_values.FitsHistoryEntry history → AllByRecursion report_values.FitsHistoryEntry kistory → AllByRecursion reports_differ.IsExtraLine lines → AllByRecursion reports_differ.IsExtraLine more
    → report_values.FitsRunEnd end → report_values.FitsRunEnd fend
    → body_lines items history lines end ≡ body_lines jtems kistory more fend
    → (items ≡ jtems) × (history ≡ kistory) × (end ≡ fend) × (lines ≡ more)
one_body items jtems history kistory lines more end fend a b c d p q f g e =
    let us = reports.act_lines 1 history ++ tail_lines (report_items.waiting_of items) lines end in
    let vs = reports.act_lines 1 kistory ++ tail_lines (report_items.waiting_of jtems) more fend in
    let cut =
    one_cut is_history (map report_items.item_line items) (map report_items.item_line jtems) (reports.history_line history ∷ us) (reports.history_line kistory ∷ vs) (items_are_no_history items a)
    (items_are_no_history jtems b) (is_history_line history) (is_history_line kistory) e in
    let same_items = one_list report_values.FitsItem report_items.item_line one_item items jtems a b cut.0 in
    let split =
    one_cut is_past_digits (reports.act_lines 1 history) (reports.act_lines 1 kistory) (tail_lines (report_items.waiting_of items) lines end)
    (tail_lines (report_items.waiting_of jtems) more fend) (acts_begin_with_digits 1 history) (acts_begin_with_digits 1 kistory)
    (tail_is_past_digits (report_items.waiting_of items) lines end (extras_are_past_digits lines p))
    (tail_is_past_digits (report_items.waiting_of jtems) more fend (extras_are_past_digits more q))
    (same_rest (reports.history_line history) (reports.history_line kistory) us vs cut.1) in
    let same_tail : tail_lines (report_items.waiting_of items) lines end ≡ tail_lines (report_items.waiting_of items) more fend =
    split.1 ∙ ap (λ is. tail_lines (report_items.waiting_of is) more fend) (sym same_items) in
    let last =
    one_last lines more (call_lines.one_operand (codes "end") (reports.end_word end)) (call_lines.one_operand (codes "end") (reports.end_word fend))
    (same_behind (map report_items.waiting_line (report_items.waiting_of items)) (last_lines lines end) (last_lines more fend) same_tail) in
    (same_items, one_history 1 history kistory c d split.0, one_end end fend f g (ap (λ l. drop 4 l) last.1), last.0)

pub race_text_tells_run : reports_differ.RaceTextTellsRun
race_text_tells_run one other lines more h k p q e =
    let same =
    one_body one.items other.items one.history other.history lines more one.end other.end h.items k.items h.history k.history p q h.end k.end
    (same_rest (codes "report 1") (codes "report 1") (body_lines one.items one.history lines one.end)
    (body_lines other.items other.history more other.end)
    (sym (report-pieces one.items one.history lines one.end h.items h.history (extras_are_lines lines p))
    ∙ (ap (pieces 10) e ∙ report-pieces other.items other.history more other.end k.items k.history (extras_are_lines more q)))) in
    ((λ i. record { items = same.0 i; history = same.1 i; end = same.2 i }), same.3)

pub text_tells_run : reports_differ.TextTellsRun
text_tells_run one other h k e = (race_text_tells_run one other [] [] h k tt tt e).0
