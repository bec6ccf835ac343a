-- Values: the whole numbers that events, constants, registers and theories deal in.
use Rattle.std.specs.Prelude.{Bool, ℤ, nat_le, unsigned_abs}
use Rattle.qea.specs.Limits.{max_value}

-- from -10^12 to 10^12
abbrev pub is_value : ℤ → Bool
is_value v = nat_le (unsigned_abs v) max_value
