-- What a call that adds a row answers, and what rows there are then.
use Rattle.std.specs.Prelude.{ℕ, ◌+◌, Bool, cond, List, [], ◌∷◌, ◌++◌, length, Some, None, Ok, Err, Option, Result, nat_lt}
use Rattle.qea.specs.declared.fault.RowKind.{RowKind}
use Rattle.qea.specs.declared.fault.RowKind.TheVariants.{Quantifier, Start, State, Guard, Action, Pattern, Transition}
use Rattle.qea.specs.declared.fault.Description.{Description}
use Rattle.qea.specs.Faults.{in_row}

-- A theory's rows are numbered from 1, a table's from 0.
abbrev pub first_row : RowKind → ℕ
first_row Quantifier = 0
first_row Start = 0
first_row State = 0
first_row Guard = 1
first_row Action = 1
first_row Pattern = 0
first_row Transition = 0

-- the number of the row after these
abbrev pub next_row : {X : Type 0} → RowKind → List X → ℕ
next_row kind rows = first_row kind + length rows

-- The row's number, or 2 if one of its numbers is out of range, or 5 if there is no room.
abbrev pub row_answer : RowKind → ℕ → Bool → Bool → Result ℕ Description
row_answer kind row in_range room = cond in_range (cond room (Ok row) (Err (in_row 5 kind row))) (Err (in_row 2 kind row))

-- The answer where there may be so many rows of the kind.
abbrev pub adding : {X : Type 0} → RowKind → ℕ → Bool → List X → Result ℕ Description
adding kind most in_range rows = row_answer kind (next_row kind rows) in_range (nat_lt (length rows) most)

-- A granted row stands at the end; a refused call keeps the rows.
abbrev pub added : {X : Type 0} → Result ℕ Description → List X → X → List X
added (Ok n) rows x = rows ++ x ∷ []
added (Err f) rows x = rows

-- The same of a row that is there only if all its numbers are in range.
abbrev pub added_if : {X : Type 0} → Result ℕ Description → List X → Option X → List X
added_if answer rows None = rows
added_if answer rows (Some x) = added answer rows x
