-- The numbers in a pattern's terms.
use Rattle.std.specs.Prelude.{ℕ, Bool, true, cond, List, length, Ok, Err, Result, nat_le, nat_lt}
use Rattle.qea.specs.declared.fault.RowKind.TheVariants.{Pattern as pattern}
use Rattle.qea.specs.declared.fault.Description.{Description}
use Rattle.qea.specs.declared.term.Term.{Term}
use Rattle.qea.specs.declared.term.Term.TheVariants.{Blank, Variable, Register, Constant}
use Rattle.qea.specs.Automaton.{Pattern}
use Rattle.qea.specs.Faults.{in_row}
use Rattle.qea.specs.Limits.{max_quantifiers, max_terms, registers}
use Rattle.std.specs.List.{list_all}
use Rattle.qea.specs.Values.{is_value}

-- variables and registers are numbered from 0 to 3, and a constant is a value
abbrev pub term_in_range : Term → Bool
term_in_range Blank = true
term_in_range (Variable v) = nat_lt v max_quantifiers
term_in_range (Register r) = nat_lt r registers
term_in_range (Constant c) = is_value c

-- A pattern by itself: 2 if a number is out of range, before 5 if there is a fifth term.
abbrev pub pattern_from : ℕ → ℕ → List Term → Result Pattern Description
pattern_from row n ts =
    cond (list_all term_in_range ts) (cond (nat_le (length ts) max_terms) (Ok (record { event = n; terms = ts })) (Err (in_row 5 pattern row))) (Err (in_row 2 pattern row))
