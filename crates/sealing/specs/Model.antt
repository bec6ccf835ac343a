-- The automaton that a table's rows make.
use Rattle.std.specs.Prelude.{map}
use Rattle.bounded.specs.Items.{items}
use Rattle.qea.specs.declared.term.Pattern as declared
use Rattle.qea.specs.Automaton.{Pattern, Automaton}
use Rattle.sealing.specs.declared.table.Table.{Table}

abbrev pub pattern_of : declared.Pattern → Pattern
pattern_of p = record { event = p.event; terms = items p.terms }

abbrev pub automaton_of : Table → Automaton
automaton_of t = record {
  quantifiers = items t.quantifiers;
  starts = items t.starts;
  states = items t.states;
  patterns = map pattern_of (items t.patterns);
  transitions = items t.transitions;
}
