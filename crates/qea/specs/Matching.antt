-- When an event matches a pattern, and which values its variables then meet.
use Rattle.std.specs.Prelude.{ℕ, suc, Bool, true, false, cond, ◌&&◌, List, [], ◌∷◌, ◌++◌, length, ℤ, ◌==◌}
use Rattle.qea.specs.declared.term.Term.{Term}
use Rattle.qea.specs.declared.term.Term.TheVariants.{Blank, Variable, Register, Constant}
use Rattle.std.specs.List.{list_all, flat_map}
use Rattle.std.specs.Ordering.{int_eq}
use Rattle.qea.specs.Events.{Event}
use Rattle.qea.specs.Automaton.{Pattern, Automaton}

-- a term of a pattern, and the value that stands at its position in an event
pub record Meeting : Type 0 where
  pub term : Term
  pub value : ℤ

-- position by position, as far as both lists go
abbrev pub meetings : List Term → List ℤ → List Meeting
meetings [] vs = []
meetings (t ∷ ts) [] = []
meetings (t ∷ ts) (v ∷ vs) = record { term = t; value = v } ∷ meetings ts vs

abbrev pub met : Pattern → Event → List Meeting
met p e = meetings p.terms e.values

-- a constant meets its own value only, any other term every value
abbrev pub allows : Term → ℤ → Bool
allows Blank v = true
allows (Variable k) v = true
allows (Register k) v = true
allows (Constant c) v = int_eq c v

abbrev pub is_variable : ℕ → Term → Bool
is_variable k Blank = false
is_variable k (Variable j) = j == k
is_variable k (Register j) = false
is_variable k (Constant c) = false

abbrev pub is_register : ℕ → Term → Bool
is_register k Blank = false
is_register k (Variable j) = false
is_register k (Register j) = j == k
is_register k (Constant c) = false

-- both are the same variable, or the same register
abbrev pub same_name : Term → Term → Bool
same_name Blank t = false
same_name (Variable k) t = is_variable k t
same_name (Register k) t = is_register k t
same_name (Constant c) t = false

-- a variable or register that stands twice meets equal values
abbrev pub consistent : List Meeting → Bool
consistent [] = true
consistent (x ∷ xs) = list_all (λ y. cond (same_name x.term y.term) (int_eq x.value y.value) true) xs && consistent xs

-- The numbers agree, the counts agree, constants are equal, and a variable or register that stands twice meets equal values.
abbrev pub matches : Pattern → Event → Bool
matches p e = p.event == e.number && length p.terms == length e.values && list_all (λ x. allows x.term x.value) (met p e) && consistent (met p e)

-- a variable meets a value, at a position of the event
pub record Sight : Type 0 where
  pub variable : ℕ
  pub value : ℤ
  pub position : ℕ

abbrev pub sight_at : ℕ → Term → ℤ → List Sight
sight_at i Blank v = []
sight_at i (Variable k) v = record { variable = k; value = v; position = i } ∷ []
sight_at i (Register k) v = []
sight_at i (Constant c) v = []

-- the sights by position, counted from i
abbrev pub sights_from : ℕ → List Meeting → List Sight
sights_from i [] = []
sights_from i (x ∷ xs) = sight_at i x.term x.value ++ sights_from (suc i) xs

-- what the variables of a pattern meet in an event; nothing unless it matches
abbrev pub sights_through : Event → Pattern → List Sight
sights_through e p = cond (matches p e) (sights_from 0 (met p e)) []

-- all sights in an event, by pattern and position
abbrev pub sights : Automaton → Event → List Sight
sights a e = flat_map (sights_through e) a.patterns
