-- What sealing checks, row by row, and which fault it finds first.
use Rattle.std.specs.Prelude.{ℕ, suc, Bool, false, cond, not, ◌&&◌, ◌||◌, List, [], ◌∷◌, length, Some, None, Ok, Err, Option, Result, ◌==◌, nat_le, nat_lt}
use Rattle.std.specs.Option.{option_or}
use Rattle.qea.specs.Matching.{is_variable}
use Rattle.std.specs.List.{slice_get, list_any}
use Rattle.qea.specs.declared.fault.RowKind.{RowKind}
use Rattle.qea.specs.declared.fault.RowKind.TheVariants.{Quantifier as quantifier, State as state, Pattern as pattern, Transition as transition}
use Rattle.qea.specs.declared.fault.Description.{Description}
use Rattle.qea.specs.declared.term.Term.{Term}
use Rattle.qea.specs.declared.term.Term.TheVariants.{Blank, Variable, Register, Constant}
use Rattle.qea.specs.declared.automaton.Quantifier.{Quantifier}
use Rattle.qea.specs.declared.automaton.Transition.{Transition}
use Rattle.qea.specs.Limits.{max_quantifiers}
use Rattle.qea.specs.Faults.{in_row}
use Rattle.qea.specs.Meaning.{Meaning, guard_there, action_there, guard_reads_at, action_reads_at}
use Rattle.qea.specs.Automaton.{Pattern, Automaton}

-- the numbers of the variables, which are also their places; the registers' places come after them
abbrev pub variables : List ℕ
variables = 0 ∷ 1 ∷ 2 ∷ 3 ∷ []

abbrev pub all_places : List ℕ
all_places = 0 ∷ 1 ∷ 2 ∷ 3 ∷ 4 ∷ 5 ∷ 6 ∷ 7 ∷ []

-- In each row 6, something is absent, comes before 7, something is read that must not be.
abbrev pub row_fault : RowKind → ℕ → Bool → Bool → Option Description
row_fault kind row absent misread = cond absent (Some (in_row 6 kind row)) (cond misread (Some (in_row 7 kind row)) None)

-- Quantifier k: its guard is there, and reads no register and no later variable.
abbrev pub misplaced : Meaning → ℕ → Quantifier → ℕ → Bool
misplaced m k q i = (nat_le max_quantifiers i || nat_lt k i) && guard_reads_at m q.guard i

abbrev pub quantifier_misreads : Meaning → ℕ → Quantifier → Bool
quantifier_misreads m k q = list_any (misplaced m k q) all_places

abbrev pub quantifier_fault : Meaning → ℕ → Quantifier → Option Description
quantifier_fault m k q = row_fault quantifier k (not (guard_there m q.guard)) (quantifier_misreads m k q)

-- A pattern: each of its variables has a quantifier.
abbrev pub lacks_quantifier : ℕ → Term → Bool
lacks_quantifier many Blank = false
lacks_quantifier many (Variable v) = nat_le many v
lacks_quantifier many (Register r) = false
lacks_quantifier many (Constant c) = false

abbrev pub pattern_fault : Automaton → ℕ → Pattern → Option Description
pattern_fault a k p = row_fault pattern k (list_any (lacks_quantifier (length a.quantifiers)) p.terms) false

-- A transition: its states, pattern, guard and action are there, and what these two read of the variables stands in the pattern.
abbrev pub terms_of : Option Pattern → List Term
terms_of None = []
terms_of (Some p) = p.terms

abbrev pub transition_lacks : Automaton → Meaning → Transition → Bool
transition_lacks a m t =
    nat_le (length a.states) t.from || nat_le (length a.patterns) t.pattern || not (guard_there m t.guard) || not (action_there m t.action) || nat_le (length a.states) t.to

abbrev pub misread : Meaning → Transition → List Term → ℕ → Bool
misread m t terms i = (guard_reads_at m t.guard i || action_reads_at m t.action i) && not (list_any (is_variable i) terms)

abbrev pub misreads_among : Meaning → Transition → List Term → Bool
misreads_among m t terms = list_any (misread m t terms) variables

abbrev pub transition_misreads : Automaton → Meaning → Transition → Bool
transition_misreads a m t = misreads_among m t (terms_of (slice_get a.patterns t.pattern))

abbrev pub transition_fault : Automaton → Meaning → ℕ → Transition → Option Description
transition_fault a m k t = row_fault transition k (transition_lacks a m t) (transition_misreads a m t)

-- The fault of the first row that has one, counted from k.
abbrev pub first_fault : {X : Type 0} → (ℕ → X → Option Description) → ℕ → List X → Option Description
first_fault fault k [] = None
first_fault fault k (x ∷ rows) = option_or (fault k x) (first_fault fault (suc k) rows)

-- 8, no state, comes first; then quantifiers, patterns and transitions in order.
abbrev pub no_state : Automaton → Option Description
no_state a = cond (length a.states == 0) (Some (in_row 8 state 0)) None

abbrev pub seal_fault : Automaton → Meaning → Option Description
seal_fault a m =
    option_or (no_state a) (
    option_or (first_fault (quantifier_fault m) 0 a.quantifiers) (
    option_or (first_fault (pattern_fault a) 0 a.patterns)
    (first_fault (transition_fault a m) 0 a.transitions)))

abbrev pub unless : Option Description → Result (Unit {0}) Description
unless None = Ok tt
unless (Some f) = Err f

-- What the question whether a table may be sealed is answered.
abbrev pub sealing : Automaton → Meaning → Result (Unit {0}) Description
sealing a m = unless (seal_fault a m)
