use Rattle.law_client.proofs.example_shows.Goals as goal
use Rattle.law_client.proofs.Example.{example_shows}

pub returns : goal.returns
returns c = example_shows
