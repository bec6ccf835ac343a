-- The figures of the distance-to-go rule: forty legs of 1.04 miles, and two panels.
use Rattle.std.specs.Prelude.{◌≡◌, true, false, pos, Some}
use Rattle.qea.specs.Meaning.{Meaning, holds}
use Rattle.distance.specs.Distance.{trial_row, acted_times, sum_in}

-- Forty legs make 41.6 miles; a panel at 40.0 then goes to the failed state, and one at 41.6 does not.
pub record Figures (m : Meaning) : Type 0 where
  pub legs : sum_in (acted_times m 1 40 (trial_row (pos 1040) (pos 0) (pos 0))) ≡ Some (pos 41600)
  pub short : holds m 1 (trial_row (pos 0) (pos 41600) (pos 400)) ≡ true
  pub enough : holds m 1 (trial_row (pos 0) (pos 41600) (pos 416)) ≡ false
