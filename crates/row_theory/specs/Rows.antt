-- The meaning of a theory that is given by its rows, numbered from 1.
use Rattle.std.specs.Prelude.{◌≡◌, ℕ, zero, suc, ◌≤◌, true, List, length, is_some, None, Option}
use Rattle.std.proofs.Common.{arith}
use Rattle.std.specs.Option.{option_map}
use Rattle.std.specs.List.{slice_get}
use Rattle.std.proofs.lemmas.Bool.{false≢true}
use Rattle.std.proofs.lemmas.Option.{gets}
use Rattle.bounded.specs.Items.{items}
use Rattle.bounded.proofs.Capacity.{items_few}
use Rattle.qea.specs.Limits.{max_guards, max_actions}
use Rattle.qea.specs.Meaning.{Guard, Action, Meaning}
use Rattle.row_theory.specs.declared.rows.RowTheory.{RowTheory}

-- the row of this number
abbrev pub entry : {X : Type 0} → List X → ℕ → Option X
entry rows zero = None
entry rows (suc n) = slice_get rows n

-- the numbers go from 1 to the number of rows
pub entry_numbers : {X Y : Type 0} (mean : X → Y) (rows : List X) (most : ℕ) → length rows ≤ most → (n : ℕ) → is_some (option_map mean (entry rows n)) ≡ true → (1 ≤ n) × (n ≤ most)
entry_numbers mean rows most few zero e = absurd (false≢true e)
entry_numbers mean rows most few (suc n) e = (omega arith, grind (arith, gets))

-- each number means what its row means
abbrev pub row_meaning : {G A : Type 0} → (G → Guard) → (A → Action) → RowTheory G A → Meaning
row_meaning guard_of action_of t = record {
  guard = λ n. option_map guard_of (entry (items t.guards) n);
  action = λ n. option_map action_of (entry (items t.actions) n);
  guard_numbers = entry_numbers guard_of (items t.guards) max_guards (items_few max_guards t.guards);
  action_numbers = entry_numbers action_of (items t.actions) max_actions (items_few max_actions t.actions);
}
