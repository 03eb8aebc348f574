use Rattle.law_growth.proofs.servers_stay.Goals as goal
use Rattle.law_growth.proofs.Numbers.{servers_stay, numbers_stay, runs_have_numbers}

pub returns-clause-shape : goal.returns-clause-shape
returns-clause-shape c = servers_stay

pub returns-clause-numbers : goal.returns-clause-numbers
returns-clause-numbers c = numbers_stay

pub returns-clause-run : goal.returns-clause-run
returns-clause-run c = runs_have_numbers
