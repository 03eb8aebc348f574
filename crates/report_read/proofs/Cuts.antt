-- The words of the event that begins words, and those behind it.
use Rattle.std.proofs.Common.{◌≡◌, ℕ, zero, suc, min, List, [], ◌∷◌, length, map, take, drop, refl, ap, sym, ◌∙◌, arith}
use Rattle.std.proofs.lemmas.List.{take-map, drop-map}
use Rattle.std.specs.Borrow.{Bor}
use Rattle.spec_text.specs.Words as text_words
use Rattle.spec_report_read.specs.ReplyWords as reply_words
use Rattle.text_words.specs.Behind as behind
use Rattle.report_read.specs.ReadAnswers as read_answers

pub first-event : (ws : List (Bor text_words.Word))
    → reply_words.event_from (behind.words_behind (take (read_answers.first_size (behind.words_behind ws)) ws)) ≡ reply_words.first_event_from (behind.words_behind ws)
first-event [] = refl
first-event (w ∷ ws) = ap reply_words.event_from (sym (take-map (λ (u : Bor text_words.Word). u.now) (reply_words.event_size w.now) (w ∷ ws)))

pub behind-first : (ws : List (Bor text_words.Word))
    → behind.words_behind (drop (read_answers.first_size (behind.words_behind ws)) ws) ≡ reply_words.behind_event (behind.words_behind ws)
behind-first [] = refl
behind-first (w ∷ ws) = sym (drop-map (λ (u : Bor text_words.Word). u.now) (reply_words.event_size w.now) (w ∷ ws))

least_zero : (n : ℕ) → min 0 n ≡ 0
least_zero n = omega arith

least_suc : (m n : ℕ) → min (suc m) (suc n) ≡ suc (min m n)
least_suc m n = omega arith

abbrev none_of : (T : Type 0) → List T
none_of T = []

drop_none : {T : Type 0} (n : ℕ) → drop n (none_of T) ≡ none_of T
drop_none zero = refl
drop_none (suc n) = refl

pub drop_min : {T : Type 0} (n : ℕ) (xs : List T) → drop (min n (length xs)) xs ≡ drop n xs
drop_min zero xs = ap (λ k. drop k xs) (least_zero (length xs))
drop_min (suc n) [] = drop_none (min (suc n) 0)
drop_min (suc n) (x ∷ xs) = ap (λ k. drop k (x ∷ xs)) (least_suc n (length xs)) ∙ drop_min n xs
