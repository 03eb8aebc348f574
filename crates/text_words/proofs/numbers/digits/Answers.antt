-- A digit that makes no number, or one too great, ends the reading; at the end all bytes are read.
use Rattle.std.proofs.Common.{◌≡◌, ◌<◌, ◌∷◌, [], length, drop, get_or, drop-cons, arith, ap, sym, ◌∙◌, suc, ℕ, List, None}
use Rattle.spec_text.specs.Words as words
use Rattle.text_words.specs.Fitting as text_words_fitting
use Rattle.text_words.proofs.NumberLemmas.{fitting-more}
use Rattle.text_words.proofs.numbers.digits.Goals as goal

pub returns-in_err-n : goal.returns-in_err-n
returns-in_err-n c =
    let word : List ℕ = c.args.word.now in
    let i : ℕ = c.loop-b.b-index in
    let lt : i < length word = omega arith in
    let whole : words.number_on 0 word ≡ words.number_on c.loop-b.n (get_or word i 0 ∷ drop (suc i) word)
    = c.loop-b.invariant.read ∙ ap (words.number_on c.loop-b.n) (drop-cons word i 0 lt) in
    let stopped : text_words_fitting.fitting (words.number_on c.loop-b.n (get_or word i 0 ∷ [])) ≡ None = sym c.in_err-n.ensures in
    c.from_residual.ensures ∙ sym (ap text_words_fitting.fitting whole ∙ fitting-more c.loop-b.n (get_or word i 0) (drop (suc i) word) stopped)
