-- How a loop takes an action again and again.
use Rattle.std.proofs.Common.{◌≡◌, ℕ, suc, ◌+◌, ◌-◌, ◌<◌, List, ℤ, arith}
use Rattle.std.specs.Option.{option_and_then}
use Rattle.qea.specs.Meaning.{Meaning, acted}
use Rattle.distance.specs.Distance.{acted_times}

-- after i of n times, the times that are left are one more and the rest
pub times_more : (m : Meaning) (action n i : ℕ) (row : List ℤ) → i < n → acted_times m action (n - i) row ≡ option_and_then (acted_times m action (n - (i + 1))) (acted m action row)
times_more m action n i row h =
    let one : n - i ≡ suc (n - (i + 1)) = omega arith in
    rw one
