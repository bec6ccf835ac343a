use Rattle.qea.proofs.Judging.{verdict_decides}
use Rattle.qea.proofs.Deciding.{endings_decide}
use Rattle.qea.proofs.laws.verdicts_are_decided.Goals as goal

pub returns : goal.returns
returns c = record { accepted = verdict_decides; endings = endings_decide }
