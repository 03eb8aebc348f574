use Rattle.std.proofs.Common.{◌≡◌, ◌<◌, ◌^◌, drop}
use Rattle.spec_text.specs.Words as words
use Rattle.text_words.proofs.numbers.digits.Given as goal

abbrev pub invariant-loop-b : goal.invariant-loop-b
invariant-loop-b l = record {
  read : words.number_on 0 l.word ≡ words.number_on l.n (drop l.b-index l.word);
  fits : l.n < 2 ^ 64;
}
