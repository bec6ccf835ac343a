-- What a check over rows asks of the check of one row.
use Rattle.std.specs.Prelude.{◌≡◌, ℕ, Option, Result}
use Rattle.std.specs.Borrow.{Bor}
use Rattle.qea.specs.declared.fault.Description.{Description}
use Rattle.qea.specs.declared.fault.TableFault.{TableFault}
use Rattle.qea.specs.Faults.{told, table_fault}
use Rattle.sealing.specs.Sealing.{unless}

-- Asked about a row and its number, `check` tells the row's fault.
abbrev pub Tells : {X : Type 0} → (check : ℕ → Bor X → Result (Unit {0}) TableFault → Type 0) → (fault : ℕ → X → Option Description) → Type 0
Tells check fault = (k : ℕ) (x : Bor _) (r : Result (Unit {0}) TableFault) → check k x r → told table_fault r ≡ unless (fault k x.now)
