-- What a row call does to the automaton that a draft's rows make.
use Rattle.std.specs.Prelude.{ℕ, ◌&&◌, List, [], length, ℤ, Ok, Err, Result, nat_le, nat_lt}
use Rattle.qea.specs.declared.fault.Description.{Description}
use Rattle.qea.specs.declared.fault.TableFault.{TableFault}
use Rattle.qea.specs.declared.term.Term.{Term}
use Rattle.qea.specs.declared.term.Pattern as declared
use Rattle.qea.specs.declared.automaton.Quantifier.{Quantifier}
use Rattle.qea.specs.declared.automaton.State.{State}
use Rattle.qea.specs.declared.automaton.Transition.{Transition}
use Rattle.qea.specs.Automaton.{Pattern, Automaton}
use Rattle.qea.specs.Faults.{table_fault}
use Rattle.qea.specs.Rows.{row_answer, added}
use Rattle.qea.specs.declared.fault.RowKind.TheVariants.{Pattern as patterns}
use Rattle.qea.specs.Limits.{max_terms, max_patterns}
use Rattle.std.specs.List.{list_all}
use Rattle.sealing.specs.Model.{pattern_of}
use Rattle.table.specs.Terms.{term_in_range}

-- the answer of a call that makes a pattern, in numbers
abbrev pub pattern_told : Result declared.Pattern TableFault → Result Pattern Description
pattern_told (Ok p) = Ok (pattern_of p)
pattern_told (Err f) = Err (table_fault f)

-- A pattern's row call: 2 if a term is out of range, 5 if there is a fifth term or no room for the row.
abbrev pub adding_pattern : Automaton → List Term → Result ℕ Description
adding_pattern a ts = row_answer patterns (length a.patterns) (list_all term_in_range ts) (nat_le (length ts) max_terms && nat_lt (length a.patterns) max_patterns)

abbrev pub empty_automaton : Automaton
empty_automaton = record { quantifiers = []; starts = []; states = []; patterns = []; transitions = [] }

-- After a row call with this answer, one kind of row may have one more; the other kinds are the same.
module _ (answer : Result ℕ Description) (a : Automaton) where
  abbrev pub with_quantifier : Quantifier → Automaton
  with_quantifier q = record { quantifiers = added answer a.quantifiers q; starts = a.starts; states = a.states; patterns = a.patterns; transitions = a.transitions }

  abbrev pub with_start : ℤ → Automaton
  with_start v = record { quantifiers = a.quantifiers; starts = added answer a.starts v; states = a.states; patterns = a.patterns; transitions = a.transitions }

  abbrev pub with_state : State → Automaton
  with_state s = record { quantifiers = a.quantifiers; starts = a.starts; states = added answer a.states s; patterns = a.patterns; transitions = a.transitions }

  abbrev pub with_pattern : ℕ → List Term → Automaton
  with_pattern n ts = record { quantifiers = a.quantifiers; starts = a.starts; states = a.states; patterns = added answer a.patterns (record { event = n; terms = ts }); transitions = a.transitions }

  abbrev pub with_transition : Transition → Automaton
  with_transition t = record { quantifiers = a.quantifiers; starts = a.starts; states = a.states; patterns = a.patterns; transitions = added answer a.transitions t }
