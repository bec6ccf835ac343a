-- The sealing check decides well-formedness.
use Rattle.std.proofs.Common.{◌≡◌, ◌<◌, true, ◌↔◌, length, is_ok, None, Ok, Decides, Option, Result, ap, arith}
use mathlib.Core.Logic.Iff
use Rattle.std.proofs.lemmas.Bool.Decides.{nat_tests, Decides-at}
use Rattle.qea.specs.declared.fault.Description.{Description}
use Rattle.qea.specs.declared.fault.TableFault.{TableFault}
use Rattle.qea.specs.Faults.{told, table_fault}
use Rattle.qea.specs.Meaning.{Meaning}
use Rattle.qea.specs.Automaton.{Automaton}
use Rattle.sealing.specs.Sealing.{no_state, seal_fault, unless, sealing}
use Rattle.qea.specs.WellFormed.{WellFormed}
use Rattle.sealing.specs.WellFormed.{SealingDecides}
use Rattle.sealing.proofs.Faultless.{option_or_none, rows_none, members_none}
use Rattle.sealing.proofs.Fitting.{quantifier_none, pattern_none, transition_none}

states_none : (a : Automaton) → (no_state a ≡ None) ↔ (0 < length a.states)
states_none a = (grind (arith, nat_tests), grind (arith, nat_tests))

unless_ok : (o : Option Description) → (is_ok (unless o) ≡ true) ↔ (o ≡ None)
unless_ok o = (grind arith, grind arith)

pub sealing_decides : SealingDecides
sealing_decides a m =
    Iff.trans (unless_ok (seal_fault a m)) (Iff.trans
    (option_or_none _ _ (states_none a) (option_or_none _ _ (rows_none _ _ (quantifier_none m) a.quantifiers)
    (option_or_none _ _ (members_none _ _ (pattern_none a) 0 a.patterns) (members_none _ _ (λ k t. transition_none a m t k) 0 a.transitions)))) (
      λ h. record { some_state = h.0; quantifiers = h.1.0; patterns = h.1.1.0; transitions = h.1.1.1 },
      λ w. (w.some_state, (w.quantifiers, (w.patterns, w.transitions))),
    ))

-- The answer tells whether the rule is well formed, and a yes says that it is.
pub answer_decides : (a : Automaton) (m : Meaning) (r : Result (Unit {0}) TableFault) → told table_fault r ≡ sealing a m → Decides (is_ok r) (WellFormed a m)
answer_decides a m r is = Decides-at (is_ok r) (is_ok (sealing a m)) (grind arith) (sealing_decides a m)

pub sealed_well : (a : Automaton) (m : Meaning) → sealing a m ≡ Ok tt → WellFormed a m
sealed_well a m ok = (sealing_decides a m).0 (ap is_ok ok)
