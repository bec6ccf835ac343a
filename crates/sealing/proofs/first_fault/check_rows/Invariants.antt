use Rattle.std.proofs.Common.{◌≡◌, ℕ, Option, drop}
use Rattle.qea.specs.declared.fault.Description.{Description}
use Rattle.sealing.specs.Rows.{Tells}
use Rattle.sealing.specs.Sealing.{first_fault}
use Rattle.sealing.proofs.first_fault.check_rows.Given as goal

-- the rows that are left have the fault of all
abbrev pub invariant-loop-row : goal.invariant-loop-row
invariant-loop-row g l =
    (fault : ℕ → _ → Option Description) → Tells (goal.F-post g l.check) fault → first_fault fault l.row (drop l.row l.rows) ≡ first_fault fault 0 l.rows
