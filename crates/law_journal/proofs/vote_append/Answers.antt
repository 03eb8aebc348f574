use Rattle.law_journal.proofs.CallRecords.{vote_is}
use Rattle.law_journal.proofs.vote_append.Goals as goal

pub returns : goal.returns
returns c = vote_is
