-- What a domain holds.
use Rattle.std.specs.Prelude.{List, ℤ}
use Rattle.bounded.specs.Items.{items}
use Rattle.qea.specs.declared.domain.Domain.{Domain}

abbrev pub values_of : Domain → List ℤ
values_of d = items d.values
