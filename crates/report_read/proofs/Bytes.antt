-- The JSON value of bytes, and how many members an object has.
use Rattle.std.proofs.Common.{◌≡◌, ℕ, suc, Bool, true, false, nat_eq, List, [], ◌∷◌, length, refl, ap, sym, ◌∙◌, IsTrue, IsUtf8}
use Rattle.std.specs.Prelude.{Option, Some, None, ◌↔◌, if◌then◌else◌, String}
use Rattle.std.specs.Str.{is_utf8}
use Rattle.std.proofs.lemmas.Str.{is_utf8-from_IsUtf8, IsUtf8-from_is_utf8}
use Rattle.std.specs.declared.alloc.Global.{Global}
use Rattle.serde_json.specs.Data.{Data, null, boolean, number, string, array, object, Members}
use Rattle.serde_json.specs.Find.{as_object}
use Rattle.serde_json.specs.Read.{read}
use Rattle.serde_json.specs.View.{view, members_view}
use Rattle.serde_json.specs.declared.value.Value.{Value}
use Rattle.spec_report_read.specs.ReportForm as report_form

pub read_data : (bytes : List ℕ) (d : Data) → IsUtf8 bytes → read bytes ≡ Some d → Some d ≡ report_form.data_from_bytes bytes
read_data bytes d u e = sym (ap (λ b. if b then read bytes else None) (is_utf8-from_IsUtf8 bytes u) ∙ e)

pub no_data : (bytes : List ℕ) → (IsUtf8 bytes → read bytes ≡ None) → None ≡ report_form.data_from_bytes bytes
no_data bytes h = go (is_utf8 bytes) refl
  where
    go : (b : Bool) → is_utf8 bytes ≡ b → None ≡ (if b then read bytes else None)
    go true e = sym (h (IsUtf8-from_is_utf8 bytes e))
    go false e = refl

-- no error of memory
pub no_memory : {A : Type 0} (b : Bool) → b ≡ false → (IsTrue b ↔ A) → ¬ A
no_memory true e h a = absurd (cc)
no_memory false e h a = let f : false ≡ true = h.1 a in absurd (cc)

count_of : (es : List (String Global × Value)) → report_form.count_of_members (members_view es) ≡ length es
count_of [] = refl
count_of (e ∷ es) = ap (λ n. suc n) (count_of es)

pub has_five : (d : Data) (es : List (String Global × Value)) → Some (members_view es) ≡ as_object d → nat_eq (length es) 5 ≡ report_form.has_five_members d
has_five (object ms) es e = sym (ap (λ (o : Option Members). has_five_of o) (sym e) ∙ ap (λ n. nat_eq n 5) (count_of es))
  where
    has_five_of : Option Members → Bool
    has_five_of None = false
    has_five_of (Some ns) = nat_eq (report_form.count_of_members ns) 5
has_five null es e = absurd (cc)
has_five (boolean b) es e = absurd (cc)
has_five (number n) es e = absurd (cc)
has_five (string s) es e = absurd (cc)
has_five (array ds) es e = absurd (cc)
