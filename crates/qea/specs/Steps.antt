-- Configurations of a binding: how one moves at an event, and the list after all events.
use Rattle.std.specs.Prelude.{ℕ, Bool, true, false, cond, ◌&&◌, List, [], ◌∷◌, map, drop, ℤ, pos, Some, None, fold, Option, ◌==◌, slice_set}
use Rattle.std.specs.List.{slice_get, flat_map}
use Rattle.qea.specs.declared.automaton.Mode.{Mode}
use Rattle.qea.specs.declared.automaton.Mode.TheVariants.{Skip, Next}
use Rattle.qea.specs.declared.automaton.State.{State}
use Rattle.qea.specs.declared.automaton.Transition.{Transition}
use Rattle.qea.specs.declared.configuration.Configuration.{Configuration}
use Rattle.qea.specs.declared.term.Term.{Term}
use Rattle.qea.specs.declared.term.Term.TheVariants.{Blank, Variable, Register, Constant}
use Rattle.qea.specs.Limits.{max_quantifiers}
use Rattle.qea.specs.Lists.{firsts, present}
use Rattle.std.specs.Ordering.{int_eq}
use Rattle.qea.specs.Events.{Event}
use Rattle.qea.specs.Meaning.{Meaning, place, holds, acted}
use Rattle.qea.specs.Automaton.{Pattern, Automaton}
use Rattle.qea.specs.Matching.{Meeting, met}
use Rattle.qea.specs.Bindings.{Binding, pick}
use Rattle.qea.specs.Slices.{touches, slice}

-- A binding begins with one configuration: state 0 and the start values. A register without one starts at 0.
abbrev pub start : Automaton → Configuration
start a = record { state = 0; registers = map (place a.starts) (0 ∷ 1 ∷ 2 ∷ 3 ∷ []) }

-- the eight places that guards and actions work on: the variables, then the registers
abbrev pub value_or_zero : Option ℤ → ℤ
value_or_zero None = pos 0
value_or_zero (Some v) = v

abbrev pub row : Binding → List ℤ → List ℤ
row b rs = value_or_zero (pick b 0) ∷ value_or_zero (pick b 1) ∷ value_or_zero (pick b 2) ∷ value_or_zero (pick b 3) ∷ rs

-- the pattern's registers take the event's values
abbrev pub taken : List ℤ → Term → ℤ → List ℤ
taken rs Blank v = rs
taken rs (Variable k) v = rs
taken rs (Register k) v = slice_set rs k v
taken rs (Constant c) v = rs

abbrev pub loaded : List ℤ → List Meeting → List ℤ
loaded rs xs = fold (λ r x. taken r x.term x.value) rs xs

-- the configuration in a target state, its registers being the last places of the row; none if the action was out of range
abbrev pub arrived : ℕ → Option (List ℤ) → Option Configuration
arrived q None = None
arrived q (Some r) = Some (record { state = q; registers = drop max_quantifiers r })

-- A configuration tries a transition through its pattern: no outcome if it is not taken, else one, which is none if the action is out of range.
-- The registers take the event's values first; then the guard is asked, the action writes, and the target state follows.
abbrev pub tries : Meaning → Binding → Event → Configuration → Transition → Option Pattern → List (Option Configuration)
tries m b e g t None = []
tries m b e g t (Some p) =
    let r = row b (loaded g.registers (met p e)) in
    cond (t.from == g.state && touches b p e && holds m t.guard r) (arrived t.to (acted m t.action r) ∷ []) []

-- the outcomes of its state's transitions, in order
abbrev pub outcomes : Automaton → Meaning → Binding → Event → Configuration → List (Option Configuration)
outcomes a m b e g = flat_map (λ t. tries m b e g t (slice_get a.patterns t.pattern)) a.transitions

abbrev pub is_skip : Mode → Bool
is_skip Skip = true
is_skip Next = false

-- a state that is absent neither skips nor is final
abbrev pub skips : Option State → Bool
skips None = false
skips (Some s) = is_skip s.mode

abbrev pub is_final : Option State → Bool
is_final None = false
is_final (Some s) = s.accepting

-- Where none is taken, a skip state keeps the configuration with its old registers, and a next state drops it.
abbrev pub settled : Automaton → Configuration → List (Option Configuration) → List Configuration
settled a g [] = cond (skips (slice_get a.states g.state)) (g ∷ []) []
settled a g (o ∷ os) = present (o ∷ os)

abbrev pub same_values : List ℤ → List ℤ → Bool
same_values [] [] = true
same_values [] (y ∷ ys) = false
same_values (x ∷ xs) [] = false
same_values (x ∷ xs) (y ∷ ys) = int_eq x y && same_values xs ys

abbrev pub same_configuration : Configuration → Configuration → Bool
same_configuration f g = f.state == g.state && same_values f.registers g.registers

-- The new list: the results of all configurations in order, later repeats dropped.
abbrev pub step : Automaton → Meaning → Binding → List Configuration → Event → List Configuration
step a m b gs e = firsts same_configuration (flat_map (λ g. settled a g (outcomes a m b e g)) gs)

-- The list of a binding after these events: from its beginning, a step at each event of its slice.
abbrev pub configurations : Automaton → Meaning → Binding → List Event → List Configuration
configurations a m b h = fold (step a m b) (start a ∷ []) (slice a b h)
