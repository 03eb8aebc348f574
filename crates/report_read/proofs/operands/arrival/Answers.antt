use Rattle.std.proofs.Common.{◌≡◌, ℕ, ◌+◌, ◌-◌, List, arith, length, take, drop, ◌∙◌, ap}
use Rattle.std.proofs.lemmas.List.{length-drop, take_all}
use Rattle.spec_report_read.specs.ReplyWords as reply_words
use Rattle.spec_report_read.specs.ItemWords as item_words
use Rattle.report_read.proofs.operands.arrival.Goals as goal

pub returns-in-Some : goal.returns-in-Some
returns-in-Some c =
    let word : List ℕ = c.args.word.now in
    let at : ℕ = c.in-Some.at in
    let behind : List ℕ = drop (at + 1) word in
    let all : take (length word - (at + 1)) behind ≡ behind = take_all (length word - (at + 1)) behind (simp length-drop (omega arith)) in
    c.pair_of_numbers.ensures ∙ ap (λ x. reply_words.pair_of_numbers (take at word) x) all ∙ ap (item_words.dotted_at word) c.in-Some.ensures

pub returns-in-None : goal.returns-in-None
returns-in-None c = ap (item_words.dotted_at c.args.word.now) c.in-None.ensures
