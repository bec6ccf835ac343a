-- The automaton: what a table means, as lists of its rows.
use Rattle.std.specs.Prelude.{ℕ, List, ℤ}
use Rattle.qea.specs.declared.term.Term.{Term}
use Rattle.qea.specs.declared.automaton.Quantifier.{Quantifier}
use Rattle.qea.specs.declared.automaton.State.{State}
use Rattle.qea.specs.declared.automaton.Transition.{Transition}

-- an event number and terms
pub record Pattern : Type 0 where
  pub event : ℕ
  pub terms : List Term

-- Quantifier k governs variable k, and the first is outermost. State 0 is the start. A register without a start value starts at 0.
pub record Automaton : Type 0 where
  pub quantifiers : List Quantifier
  pub starts : List ℤ
  pub states : List State
  pub patterns : List Pattern
  pub transitions : List Transition
