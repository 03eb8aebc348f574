-- The parts of a report are read back from their lines.
use Rattle.std.proofs.Common.{◌≡◌, ℕ, ◌+◌, Bool, true, false, nat_lt, cond, slice_index_or, List, [], ◌∷◌, ◌++◌, map, drop, length, codes, refl, ap, ◌∙◌, arith}
use Rattle.std.proofs.lemmas.Bool.Decides.{nat_tests}
use Rattle.std.specs.Fmt.{decimal}
use Rattle.ax_types.specs.declared.entries.Act.{Act}
use Rattle.ax_types.specs.declared.entries.Act.TheVariants as act
use Rattle.ax_types.specs.declared.scripts.RunEnd.{RunEnd}
use Rattle.ax_types.specs.declared.scripts.RunEnd.TheVariants as run_end
use Rattle.ax_types.specs.declared.items.Item.{Item}
use Rattle.ax_types.specs.declared.items.Item.TheVariants as item
use Rattle.ax_types.specs.declared.ops.Op.TheVariants as op
use Rattle.spec_report.specs.Items as report_items
use Rattle.spec_report.specs.Report as reports
use Rattle.std.specs.List.{AllByRecursion}
use Rattle.spec_report.specs.ReportValues as report_values
use Rattle.law_report.proofs.Words.{IsLine, word, join, at, is_word, pieces}
use Rattle.law_report.proofs.Numbers.{number_back, number-back, number_line, decimal-begins}
use Rattle.law_report.proofs.Operations.{op_words, op_back, op-line, op-back}
use Rattle.law_report.proofs.Items.{item_words, item_back, item-line, item-back}
use Rattle.law_report.proofs.Lines.{one_value, AreLines, same_first, same_rest, NoneIs}

-- ---- items

pub one_item : (x y : Item) → report_values.FitsItem x → report_values.FitsItem y → report_items.item_line x ≡ report_items.item_line y → x ≡ y
one_item x y h k e = one_value item_back x y (item-line x h) (item-line y k) (item-back x h) (item-back y k) e

pub items_are_lines : (xs : List Item) → AllByRecursion report_values.FitsItem xs → AreLines (map report_items.item_line xs)
items_are_lines [] h = tt
items_are_lines (x ∷ xs) h = ((item-line x h.0).bytes, items_are_lines xs h.1)

-- whether a line's first word is `history`
abbrev pub is_history : List ℕ → Bool
is_history l = is_word (at 0 (pieces 32 l)) (codes "history")

item_is_no_history : (x : Item) → is_word (at 0 (item_words x)) (codes "history") ≡ false
item_is_no_history (item.Leader node term) = refl
item_is_no_history (item.Commit place) = refl
item_is_no_history (item.Reach node term arrival session number) = refl
item_is_no_history (item.Halted node) = refl
item_is_no_history (item.Opened session client) = refl
item_is_no_history (item.Called session number call) = refl
item_is_no_history (item.Event session place prev events) = refl
item_is_no_history (item.Watched client kind session place event) = refl
item_is_no_history (item.Reply session number place reply) = refl
item_is_no_history (item.Read session number level place reach reply) = refl
item_is_no_history (item.Ended session place how) = refl
item_is_no_history (item.Doubt session number) = refl
item_is_no_history (item.Lost session number) = refl
item_is_no_history (item.Unsent session number) = refl
item_is_no_history (item.Unanswered session number) = refl
item_is_no_history (item.Listed count) = refl
item_is_no_history (item.Pending number from to kind) = refl
item_is_no_history (item.Skip reason) = refl

pub items_are_no_history : (xs : List Item) → AllByRecursion report_values.FitsItem xs → NoneIs is_history (map report_items.item_line xs)
items_are_no_history [] h = tt
items_are_no_history (x ∷ xs) h =
    (ap (λ ws. is_word (at 0 ws) (codes "history")) (item-line x h.0).words ∙ item_is_no_history x, items_are_no_history xs h.1)

-- ---- histories

abbrev pub act_words : Act → List (List ℕ)
act_words act.Nothing = codes "nothing" ∷ []
act_words (act.Open client opening) = codes "open" ∷ decimal client ∷ decimal opening ∷ []
act_words (act.Keep session) = codes "keep" ∷ decimal session ∷ []
act_words (act.Do session name op) = codes "do" ∷ decimal session ∷ op_words name op
act_words (act.Close session) = codes "close" ∷ decimal session ∷ []
act_words (act.Expire session) = codes "expire" ∷ decimal session ∷ []

abbrev pub act_back : List (List ℕ) → Act
act_back ws =
    cond (is_word (at 0 ws) (codes "nothing")) act.Nothing (
    cond (is_word (at 0 ws) (codes "open")) (act.Open (number_back (at 1 ws)) (number_back (at 2 ws))) (
    cond (is_word (at 0 ws) (codes "keep")) (act.Keep (number_back (at 1 ws))) (
    cond (is_word (at 0 ws) (codes "do")) (act.Do (number_back (at 1 ws)) (at 3 ws) (op_back (drop 2 ws))) (
    cond (is_word (at 0 ws) (codes "close")) (act.Close (number_back (at 1 ws))) (
    (act.Expire (number_back (at 1 ws))))))))

act-line : (o : Act) → report_values.FitsAct o → IsLine (reports.act_text o) (act_words o)
act-line act.Nothing h = word (codes "nothing") refl
act-line (act.Open client opening) h = join (word (codes "open") refl) (join (number_line client) (number_line opening))
act-line (act.Keep session) h = join (word (codes "keep") refl) (number_line session)
act-line (act.Do session name op) h = join (word (codes "do") refl) (join (number_line session) (op-line name op h.1 h.2))
act-line (act.Close session) h = join (word (codes "close") refl) (number_line session)
act-line (act.Expire session) h = join (word (codes "expire") refl) (number_line session)

act-back : (o : Act) → report_values.FitsAct o → act_back (act_words o) ≡ o
act-back act.Nothing h = refl
act-back (act.Open client opening) h = λ i. act.Open (number-back client h.0 i) (number-back opening h.1 i)
act-back (act.Keep session) h = λ i. act.Keep (number-back session h i)
act-back (act.Do session name (op.Map o)) h = λ i. act.Do (number-back session h.0 i) name (op-back name (op.Map o) h.2 i)
act-back (act.Do session name (op.Value o)) h = λ i. act.Do (number-back session h.0 i) name (op-back name (op.Value o) h.2 i)
act-back (act.Do session name (op.Long o)) h = λ i. act.Do (number-back session h.0 i) name (op-back name (op.Long o) h.2 i)
act-back (act.Do session name (op.Lock o)) h = λ i. act.Do (number-back session h.0 i) name (op-back name (op.Lock o) h.2 i)
act-back (act.Do session name (op.Group o)) h = λ i. act.Do (number-back session h.0 i) name (op-back name (op.Group o) h.2 i)
act-back (act.Do session name (op.Set o)) h = λ i. act.Do (number-back session h.0 i) name (op-back name (op.Set o) h.2 i)
act-back (act.Do session name (op.Queue o)) h = λ i. act.Do (number-back session h.0 i) name (op-back name (op.Queue o) h.2 i)
act-back (act.Do session name (op.Multimap o)) h = λ i. act.Do (number-back session h.0 i) name (op-back name (op.Multimap o) h.2 i)
act-back (act.Do session name (op.Topic o)) h = λ i. act.Do (number-back session h.0 i) name (op-back name (op.Topic o) h.2 i)
act-back (act.Close session) h = λ i. act.Close (number-back session h i)
act-back (act.Expire session) h = λ i. act.Expire (number-back session h i)

-- the time and the act of a line
abbrev entry_back : List (List ℕ) → ℕ × Act
entry_back ws = (number_back (at 1 ws), act_back (drop 2 ws))

pub entry-line : (place : ℕ) (x : ℕ × Act) → report_values.FitsHistoryEntry x → IsLine (reports.act_line place x) (decimal place ∷ decimal x.0 ∷ act_words x.1)
entry-line place x h = join (number_line place) (join (number_line x.0) (act-line x.1 h.1))

pub one_entry : (place : ℕ) (x y : ℕ × Act) → report_values.FitsHistoryEntry x → report_values.FitsHistoryEntry y → reports.act_line place x ≡ reports.act_line place y → x ≡ y
one_entry place x y h k e =
    one_value entry_back x y (entry-line place x h) (entry-line place y k)
    (λ i. (number-back x.0 h.0 i, act-back x.1 h.1 i)) (λ i. (number-back y.0 k.0 i, act-back y.1 k.1 i)) e

pub one_history : (place : ℕ) (xs ys : List (ℕ × Act)) → AllByRecursion report_values.FitsHistoryEntry xs → AllByRecursion report_values.FitsHistoryEntry ys → reports.act_lines place xs ≡ reports.act_lines place ys → xs ≡ ys
one_history place [] [] h k e = refl
one_history place [] (y ∷ ys) h k e = cc
one_history place (x ∷ xs) [] h k e = cc
one_history place (x ∷ xs) (y ∷ ys) h k e =
    let us = reports.act_lines (place + 1) xs in
    let vs = reports.act_lines (place + 1) ys in
    λ i. one_entry place x y h.0 k.0 (same_first (reports.act_line place x) (reports.act_line place x) (reports.act_line place y) us vs e) i
    ∷ one_history (place + 1) xs ys h.1 k.1 (same_rest (reports.act_line place x) (reports.act_line place y) us vs e) i

pub acts_are_lines : (place : ℕ) (xs : List (ℕ × Act)) → AllByRecursion report_values.FitsHistoryEntry xs → AreLines (reports.act_lines place xs)
acts_are_lines place [] h = tt
acts_are_lines place (x ∷ xs) h = ((entry-line place x h.0).bytes, acts_are_lines (place + 1) xs h.1)

-- whether a line's first byte is above the digits
abbrev pub is_past_digits : List ℕ → Bool
is_past_digits l = nat_lt 57 (slice_index_or l 0 0)

begins_with_digit : (xs ys : List ℕ) → nat_lt (slice_index_or xs 0 100) 58 ≡ true → is_past_digits (xs ++ ys) ≡ false
begins_with_digit [] ys h = cc
begins_with_digit (x ∷ xs) ys h = grind (arith, nat_tests)

pub acts_begin_with_digits : (place : ℕ) (xs : List (ℕ × Act)) → NoneIs is_past_digits (reports.act_lines place xs)
acts_begin_with_digits place [] = tt
acts_begin_with_digits place (x ∷ xs) =
    (begins_with_digit (decimal place) (32 ∷ (decimal x.0 ++ (32 ∷ reports.act_text x.1))) (decimal-begins place), acts_begin_with_digits (place + 1) xs)

pub history-line : (xs : List (ℕ × Act)) → IsLine (reports.history_line xs) (codes "history" ∷ decimal (length xs) ∷ [])
history-line xs = join (word (codes "history") refl) (number_line (length xs))

pub is_history_line : (xs : List (ℕ × Act)) → is_history (reports.history_line xs) ≡ true
is_history_line xs = ap (λ ws. is_word (at 0 ws) (codes "history")) (history-line xs).words

-- ---- calls that wait, and ends

abbrev call_number_back : List (List ℕ) → ℕ × ℕ
call_number_back ws = (number_back (at 1 ws), number_back (at 2 ws))

pub waiting-line : (a : ℕ × ℕ) → IsLine (report_items.waiting_line a) (codes "waiting" ∷ decimal a.0 ∷ decimal a.1 ∷ [])
waiting-line a = join (word (codes "waiting") refl) (join (number_line a.0) (number_line a.1))

pub one_call_number : (a b : ℕ × ℕ) → report_values.FitsCallNumber a → report_values.FitsCallNumber b → report_items.waiting_line a ≡ report_items.waiting_line b → a ≡ b
one_call_number a b h k e =
    one_value call_number_back a b (waiting-line a) (waiting-line b)
    (λ i. (number-back a.0 h.0 i, number-back a.1 h.1 i)) (λ i. (number-back b.0 k.0 i, number-back b.1 k.1 i)) e

pub waiting_are_lines : (xs : List (ℕ × ℕ)) → AreLines (map report_items.waiting_line xs)
waiting_are_lines [] = tt
waiting_are_lines (x ∷ xs) = ((waiting-line x).bytes, waiting_are_lines xs)

abbrev end_words : RunEnd → List (List ℕ)
end_words run_end.Done = codes "done" ∷ []
end_words (run_end.StepLimit line) = codes "step-limit" ∷ decimal line ∷ []

abbrev end_back : List (List ℕ) → RunEnd
end_back ws = cond (is_word (at 0 ws) (codes "done")) run_end.Done (run_end.StepLimit (number_back (at 1 ws)))

pub end_word-line : (o : RunEnd) → IsLine (reports.end_word o) (end_words o)
end_word-line run_end.Done = word (codes "done") refl
end_word-line (run_end.StepLimit line) = join (word (codes "step-limit") refl) (number_line line)

end-back : (o : RunEnd) → report_values.FitsRunEnd o → end_back (end_words o) ≡ o
end-back run_end.Done h = refl
end-back (run_end.StepLimit line) h = λ i. run_end.StepLimit (number-back line h i)

pub one_end : (x y : RunEnd) → report_values.FitsRunEnd x → report_values.FitsRunEnd y → reports.end_word x ≡ reports.end_word y → x ≡ y
one_end x y h k e = one_value end_back x y (end_word-line x) (end_word-line y) (end-back x h) (end-back y k) e
