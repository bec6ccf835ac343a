use Rattle.std.proofs.Common.{refl, rules, tests}
use Rattle.std.proofs.lemmas.Iterator.{YieldsList-from_range}
use Rattle.std.proofs.lemmas.Iterator.Search.{any_from_yields_List}
use Rattle.sealing.specs.Sealing.{misread}
use Rattle.sealing.proofs.checks.transition_misreads.Goals as goal

pub returns : goal.returns
returns g c =
    any_from_yields_List (misread (g.T.Theory.meaning c.args.theory.now) c.args.transition c.args.terms.now) _ _ _ c.any.ensures.ran (YieldsList-from_range 0 4 4 refl refl) (λ x b q k. search (rules, tests))
