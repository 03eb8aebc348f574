-- A report's object has no float, so its text is the compact one.
use Rattle.std.proofs.Common.{◌≡◌, ℕ, false, List, [], ◌∷◌, refl}
use Rattle.serde_json.specs.Data.{array}
use Rattle.serde_json.specs.Written.{has_float, items_have_float}
use Rattle.spec_report.specs.Json as json_form

pub strings_have_no_float : (lines : List (List ℕ)) → items_have_float (json_form.strings_of lines) ≡ false
strings_have_no_float [] = refl
strings_have_no_float (l ∷ ls) = strings_have_no_float ls

pub object_has_no_float :
    (end : List ℕ) (history items waiting : List (List ℕ))
    → has_float (json_form.report_object end (array (json_form.strings_of history)) (array (json_form.strings_of items)) (array (json_form.strings_of waiting))) ≡ false
object_has_no_float end history items waiting =
    rw (strings_have_no_float history) (rw (strings_have_no_float items) (rw (strings_have_no_float waiting) refl))
