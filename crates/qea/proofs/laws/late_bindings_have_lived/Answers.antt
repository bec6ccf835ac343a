use Rattle.qea.proofs.Late.{late_slice, late_configurations}
use Rattle.qea.proofs.laws.late_bindings_have_lived.Goals as goal

pub returns : goal.returns
returns c = record { slice = late_slice; configurations = late_configurations }
