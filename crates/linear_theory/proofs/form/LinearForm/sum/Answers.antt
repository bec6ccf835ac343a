-- Each number and each sum fits 128 bits, so it is what its bits mean.
use Rattle.std.proofs.Common.{arith}
use Rattle.std.proofs.lemmas.Int.{to_z-of_z}
use Rattle.linear_theory.proofs.form.LinearForm.sum.Goals as goal

pub overflow_add-result : goal.overflow_add-result
overflow_add-result c = grind (arith, to_z-of_z)

pub overflow_add-result-2 : goal.overflow_add-result-2
overflow_add-result-2 c = grind (arith, to_z-of_z)

pub returns : goal.returns
returns c = grind (arith, to_z-of_z)
