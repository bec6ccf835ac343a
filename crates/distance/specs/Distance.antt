-- The distance-to-go rule's theory, and what a trial computes. The rule itself is a worked case of the semantics (qea, specs/WorkedCases.antt).
use Rattle.std.specs.Prelude.{ℕ, zero, suc, List, [], ◌∷◌, ℤ, pos, negsuc, Some, Option, option_and_then, option_map}
use Rattle.qea.specs.Meaning.{Meaning, acted, place}
use Rattle.linear_theory.specs.declared.form.LinearForm.{LinearForm}

-- 100 times the figure, less the sum, plus 50
abbrev pub shortfall : LinearForm
shortfall = record { m = pos 100; a = 6; n = negsuc 0; b = 5; c = pos 50 }

-- the sum so far and the leg's length
abbrev pub lengthened : LinearForm
lengthened = record { m = pos 1; a = 5; n = pos 1; b = 4; c = pos 0 }

-- the places of a route whose legs have this length and come to this sum, with this figure on the panel
abbrev pub trial_row : ℤ → ℤ → ℤ → List ℤ
trial_row length sum figure = pos 0 ∷ pos 0 ∷ pos 0 ∷ pos 0 ∷ length ∷ sum ∷ figure ∷ pos 0 ∷ []

-- the row after an action was taken so many times, none if it went out of range
abbrev pub acted_times : Meaning → ℕ → ℕ → List ℤ → Option (List ℤ)
acted_times m action zero row = Some row
acted_times m action (suc n) row = option_and_then (acted_times m action n) (acted m action row)

abbrev pub sum_in : Option (List ℤ) → Option ℤ
sum_in = option_map (λ row. place row 5)
