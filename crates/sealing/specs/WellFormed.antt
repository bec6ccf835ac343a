-- Sealing grants exactly the rules that are well formed for their theory (the definition is qea's).
use Rattle.std.specs.Prelude.{is_ok, Decides}
use Rattle.qea.specs.Meaning.{Meaning}
use Rattle.qea.specs.Automaton.{Automaton}
use Rattle.qea.specs.WellFormed.{WellFormed}
use Rattle.sealing.specs.Sealing.{sealing}

-- The executable check decides it.
abbrev pub SealingDecides : Type 0
SealingDecides = (a : Automaton) (m : Meaning) → Decides (is_ok (sealing a m)) (WellFormed a m)
