use Rattle.std.proofs.Common.{refl, rules, tests}
use Rattle.std.proofs.lemmas.Iterator.{YieldsList-from_range}
use Rattle.std.proofs.lemmas.Iterator.Search.{any_from_yields_List}
use Rattle.sealing.specs.Sealing.{misplaced}
use Rattle.sealing.proofs.checks.quantifier_misreads.Goals as goal

pub returns : goal.returns
returns g c =
    any_from_yields_List (misplaced (g.T.Theory.meaning c.args.theory.now) c.args.k c.args.quantifier) _ _ _ c.any.ensures.ran (YieldsList-from_range 0 8 8 refl refl) (λ x b q k. search (rules, tests))
