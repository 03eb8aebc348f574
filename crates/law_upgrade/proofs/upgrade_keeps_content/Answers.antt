use Rattle.law_upgrade.proofs.Upgrades as upgrades
use Rattle.law_upgrade.proofs.upgrade_keeps_content.Goals as goal

pub returns-clause-content : goal.returns-clause-content
returns-clause-content c = upgrades.keeps

pub returns-clause-version : goal.returns-clause-version
returns-clause-version c = upgrades.ends

pub returns-clause-again : goal.returns-clause-again
returns-clause-again c = upgrades.again
