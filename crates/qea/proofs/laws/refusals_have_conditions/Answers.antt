use Rattle.qea.proofs.Refusing.{refusal_conditions, granted_bounded}
use Rattle.qea.proofs.laws.refusals_have_conditions.Goals as goal

pub returns : goal.returns
returns c = record { conditions = refusal_conditions; bounded = granted_bounded }
