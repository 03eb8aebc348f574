use Rattle.law_client.proofs.example_may_happen.Goals as goal
use Rattle.law_client.proofs.Example.{example_may_happen}

pub returns : goal.returns
returns c = example_may_happen
