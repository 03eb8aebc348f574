use Rattle.std.proofs.Common.{◌≡◌, ℕ, false, List, [], ◌∷◌, ◌++◌, IfOk, Result, Ok, Err, map, ap, ◌∙◌, string_bytes}
use Rattle.serde_json.specs.Data.{Data}
use Rattle.serde_json.specs.Written.{has_float, compact_text}
use Rattle.spec_report.specs.Items as items
use Rattle.spec_report.specs.Report as reports
use Rattle.spec_report.specs.Json as json_form
use Rattle.report_text.proofs.Strings.{object_has_no_float}
use Rattle.report_text.proofs.json.json_text.Goals as goal

-- the text of a value with no float, ended by a newline
ended_text :
    (text whole : List ℕ) (seen wanted : Data)
    → (has_float seen ≡ false → text ≡ compact_text seen)
    → seen ≡ wanted
    → has_float wanted ≡ false
    → whole ≡ text ++ (10 ∷ [])
    → whole ≡ compact_text wanted ++ (10 ∷ [])
ended_text text whole seen wanted printed same plain end =
    end ∙ ap (λ t. t ++ (10 ∷ [])) (printed (ap has_float same ∙ plain) ∙ ap compact_text same)

weaker : {T E : Type 0} (r : Result T E) (P Q : T → Type 0) → ((x : T) → P x → Q x) → IfOk r P → IfOk r Q
weaker (Ok x) P Q h p = h x p
weaker (Err e) P Q h p = tt

pub returns-clause-text : goal.returns-clause-text
returns-clause-text c =
    let report = c.args.report.now in
    weaker c.ended.result _ _
    (λ t end. ended_text (string_bytes c.in_ok-to_string.field-0) (string_bytes t) _ (json_form.report_data report) c.in_ok-to_string.ensures.text
    c.in_ok-report_value.ensures.value
    (object_has_no_float (reports.end_word report.end) (reports.act_lines 1 report.history) (map items.item_line report.items) (map items.waiting_line report.waiting))
    end)
    c.ended.ensures
