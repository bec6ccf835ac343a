use Rattle.qea.proofs.Growth.{domains_grow, domains_apart}
use Rattle.qea.proofs.laws.domains_only_grow.Goals as goal

pub returns : goal.returns
returns c = record { grow = domains_grow; apart = domains_apart }
