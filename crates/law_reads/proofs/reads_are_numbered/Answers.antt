use Rattle.law_reads.proofs.reads_are_numbered.Goals as goal
use Rattle.law_reads.specs.Reads as laws
use Rattle.law_reads.proofs.Transitions.{always}

pub returns : goal.returns
returns c = always laws.ReadsAreNumbered (λ n s h. h.serves.numbered)
