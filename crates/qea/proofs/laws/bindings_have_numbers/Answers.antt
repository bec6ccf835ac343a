use Rattle.qea.proofs.Numbering.{bindings_listed, bindings_numbered}
use Rattle.qea.proofs.laws.bindings_have_numbers.Goals as goal

pub returns : goal.returns
returns c = record { listed = bindings_listed; numbered = bindings_numbered }
