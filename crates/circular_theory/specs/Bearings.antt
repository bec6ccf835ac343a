-- Bearings in tenths of a degree: a value is reduced to 0 to 3,599 by a multiple of 3,600.
use Rattle.std.specs.Prelude.{◌≡◌, ℕ, ◌<◌, ℤ, pos, negsuc, ◌+ℤ◌, ◌*ℤ◌, unsigned_abs}
use Rattle.std.specs.Int.{int_rem_euclid}

-- tenths of a degree in a full circle
abbrev pub circle : ℕ
circle = 3600

-- the remainder made non-negative
abbrev pub bearing : ℤ → ℕ
bearing v = unsigned_abs (int_rem_euclid v (pos circle))

-- What that means: r lies from 0 to 3,599, and v is a multiple of 3,600 away.
pub record Reduced (v : ℤ) (r : ℕ) : Type 0 where
  pub low : r < circle
  pub turns : (k : ℤ) × (v ≡ pos circle *ℤ k +ℤ pos r)

-- at and around zero, and one circle below it
abbrev pub AroundZero : Type 0
AroundZero =
    (bearing (pos 1) ≡ 1) × (bearing (pos 0) ≡ 0) × (bearing (negsuc 0) ≡ 3599) ×
    (bearing (negsuc 3598) ≡ 1) × (bearing (negsuc 3599) ≡ 0) × (bearing (negsuc 3600) ≡ 3599)
