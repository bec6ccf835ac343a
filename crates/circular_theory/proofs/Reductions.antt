-- A bearing is a value's remainder by a full circle.
use Rattle.std.proofs.Common.{◌≡◌, ℕ, ◌/◌, ℤ, pos, negsuc, arith}
use Rattle.std.proofs.lemmas.Int.{ints}
use Rattle.circular_theory.specs.Bearings.{bearing, Reduced}

pub reduced_from : (v : ℤ) (r : ℕ) → r ≡ bearing v → Reduced v r
reduced_from (pos a) r e = record { low = omega arith; turns = (pos (a / 3600), omega (arith, ints)) }
reduced_from (negsuc a) r e = record { low = omega arith; turns = (negsuc (a / 3600), omega (arith, ints)) }
