-- Of the bytes of a line only `"` and `\` are escaped.
use Rattle.std.proofs.Common.{◌≡◌, ℕ, Bool, true, false, ◌||◌, nat_eq, nat_lt, cond, List, [], ◌∷◌, ◌++◌, map, refl, ap, ◌∙◌, arith}
use Rattle.std.proofs.lemmas.Bool.Decides.{nat_tests}
use Rattle.json.specs.Print.{quoted, escape, escape_byte, escape_letter}
use Rattle.spec_report.specs.Items as items
use Rattle.spec_report.specs.Report as reports
use Rattle.std.specs.List.{AllByRecursion}
use Rattle.law_report.specs.ReportsDiffer as reports_differ
use Rattle.law_report.proofs.Words.{above, and_first, and_second}
use Rattle.law_report.proofs.Report.{items_are_lines, acts_are_lines, waiting_are_lines, end_word-line}

low : (k b : ℕ) → nat_lt k 32 ≡ true → nat_lt 31 b ≡ true → nat_eq b k ≡ false
low k b l h = grind (arith, nat_tests)

not_control : (b : ℕ) → nat_lt 31 b ≡ true → nat_lt b 32 ≡ false
not_control b h = grind (arith, nat_tests)

not_zero : (b : ℕ) → nat_lt 31 b ≡ true → nat_lt 0 b ≡ true
not_zero b h = grind (arith, nat_tests)

letter : (b : ℕ) → nat_lt 31 b ≡ true → escape_letter b ≡ cond (nat_eq b 34 || nat_eq b 92) b 0
letter b h = rw (low 8 b refl h) (rw (low 12 b refl h) (rw (low 10 b refl h) (rw (low 13 b refl h) (rw (low 9 b refl h) refl))))

by_mark : (q : Bool) (b : ℕ) → nat_lt 0 b ≡ true
    → cond (nat_lt 0 (cond q b 0)) (92 ∷ cond q b 0 ∷ []) (b ∷ []) ≡ cond q (92 ∷ b ∷ []) (b ∷ [])
by_mark true b h = rw h refl
by_mark false b h = refl

-- what stands for a byte that is no control character
byte_escape : (b : ℕ) → nat_lt 31 b ≡ true → escape_byte b ≡ cond (nat_eq b 34 || nat_eq b 92) (92 ∷ b ∷ []) (b ∷ [])
unfolding escape_byte
byte_escape b h = rw (letter b h) (rw (not_control b h) (by_mark (nat_eq b 34 || nat_eq b 92) b (not_zero b h)))

by_front : (q : Bool) (b : ℕ) (bs : List ℕ) → cond q (92 ∷ b ∷ []) (b ∷ []) ++ bs ≡ cond q (92 ∷ (b ∷ bs)) (b ∷ bs)
by_front true b bs = refl
by_front false b bs = refl

pub escape-marked : (bs : List ℕ) → above 31 bs ≡ true → escape bs ≡ reports_differ.escaped bs
escape-marked [] h = refl
escape-marked (b ∷ bs) h =
    (λ i. byte_escape b (and_first (nat_lt 31 b) _ h) i ++ escape-marked bs (and_second (nat_lt 31 b) _ h) i)
    ∙ by_front (nat_eq b 34 || nat_eq b 92) b (reports_differ.escaped bs)

each-append : {T : Type 0} (P : T → Type 0) (xs ys : List T) → AllByRecursion P xs → AllByRecursion P ys → AllByRecursion P (xs ++ ys)
each-append P [] ys h k = k
each-append P (x ∷ xs) ys h k = (h.0, each-append P xs ys h.1 k)

each-weaker : {T : Type 0} (P Q : T → Type 0) → ((x : T) → P x → Q x) → (xs : List T) → AllByRecursion P xs → AllByRecursion Q xs
each-weaker P Q f [] h = tt
each-weaker P Q f (x ∷ xs) h = (f x h.0, each-weaker P Q f xs h.1)

pub json_escapes_quotes_alone : reports_differ.EscapesQuotesAlone
json_escapes_quotes_alone report h =
    let lines = each-append (λ l. above 31 l ≡ true) (reports.act_lines 1 report.history) (map items.item_line report.items ++ map items.waiting_line report.waiting)
    (acts_are_lines 1 report.history h.history)
    (each-append (λ l. above 31 l ≡ true) (map items.item_line report.items) (map items.waiting_line report.waiting) (items_are_lines report.items h.items) (waiting_are_lines report.waiting)) in
    each-weaker (λ l. above 31 l ≡ true) (λ l. quoted l ≡ 34 ∷ (reports_differ.escaped l ++ (34 ∷ []))) (λ l e. ap (λ t. 34 ∷ (t ++ (34 ∷ []))) (escape-marked l e)) (reports_differ.report_strings report)
    ((end_word-line report.end).bytes, lines)
