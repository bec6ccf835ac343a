-- A linear theory with the two rows of the distance-to-go rule has its figures.
use Rattle.std.proofs.Common.{◌≡◌, ℕ, ◌+◌, List, [], ◌∷◌, map, ℤ, pos, ap}
use Rattle.std.specs.Option.{option_map}
use Rattle.bounded.specs.Items.{items}
use Rattle.qea.specs.Meaning.{guard_says, action_says, action_writes, written}
use Rattle.row_theory.specs.declared.rows.RowTheory.{RowTheory}
use Rattle.row_theory.specs.Rows.{entry, row_meaning}
use Rattle.linear_theory.specs.declared.form.Relation.{Relation}
use Rattle.linear_theory.specs.declared.form.Relation.TheVariants.{Less}
use Rattle.linear_theory.specs.declared.form.LinearForm.{LinearForm}
use Rattle.linear_theory.specs.declared.rows.LinearGuard.{LinearGuard}
use Rattle.linear_theory.specs.declared.rows.LinearAction.{LinearAction}
use Rattle.linear_theory.specs.Forms.{sum, stands, value_of}
use Rattle.linear_theory.specs.Rows.{linear_guard, linear_action, guard_numbers, action_numbers}
use Rattle.distance.specs.Distance.{shortfall, lengthened, trial_row}
use Rattle.distance.specs.Figures.{Figures}

-- guard 1 compares the rule's sum with 0
guard_one : (gs : List LinearGuard) → map guard_numbers gs ≡ (shortfall, Less) ∷ [] → (row : List ℤ) → guard_says (option_map linear_guard (entry gs 1)) row ≡ stands Less (sum shortfall row)
guard_one [] e row = cc
guard_one (g ∷ gs) e row =
    let same : guard_numbers g ≡ (shortfall, Less) = cc in
    ap (λ (n : LinearForm × Relation). stands n.1 (sum n.0 row)) same

-- action 1 writes the sum with the leg added
action_one : (xs : List LinearAction) → map action_numbers xs ≡ (1, lengthened) ∷ [] → (row : List ℤ) → written row (4 + action_writes (option_map linear_action (entry xs 1))) (action_says (option_map linear_action (entry xs 1)) row) ≡ written row 5 (value_of (sum lengthened row))
action_one [] e row = cc
action_one (x ∷ xs) e row =
    let same : action_numbers x ≡ (1, lengthened) = cc in
    ap (λ (n : ℕ × LinearForm). written row (4 + n.0) (value_of (sum n.1 row))) same

pub figures : (t : RowTheory LinearGuard LinearAction) → map guard_numbers (items t.guards) ≡ (shortfall, Less) ∷ [] → map action_numbers (items t.actions) ≡ (1, lengthened) ∷ [] → Figures (row_meaning linear_guard linear_action t)
figures t guards actions =
    record {
      legs = simp (action_one (items t.actions) actions);
      short = guard_one _ guards (trial_row (pos 0) (pos 41600) (pos 400));
      enough = guard_one _ guards (trial_row (pos 0) (pos 41600) (pos 416));
    }
