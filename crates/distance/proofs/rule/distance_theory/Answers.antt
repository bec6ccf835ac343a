use Rattle.std.proofs.Common.{rules}
use Rattle.distance.proofs.Figured.{figures}
use Rattle.distance.proofs.rule.distance_theory.Goals as goal

pub returns-clause-figures : goal.returns-clause-figures
returns-clause-figures c = figures _ (search rules) (search rules)
