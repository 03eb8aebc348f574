use Rattle.call_window.specs.WindowOpening.{AreFirstWords}
use Rattle.call_window.proofs.open.first_words.Given as goal

abbrev pub invariant-filling : goal.invariant-filling
invariant-filling l = AreFirstWords l.place l.words.items
