-- What a theory means: numbered guards and actions over a row of eight places.
-- Places 0 to 3 are the variables, 4 to 7 the registers; a variable without a value reads 0.
use Rattle.std.specs.Prelude.{◌≡◌, ℕ, zero, suc, ◌+◌, ◌<◌, ◌≤◌, Bool, true, false, List, ℤ, pos, is_some, Some, None, Option, slice_index_or, slice_set}
use Rattle.qea.specs.Limits.{max_guards, max_actions}
use Rattle.qea.specs.Limits as limits
use Rattle.qea.specs.Values.{is_value}

-- what stands at a place of a row
abbrev pub place : List ℤ → ℕ → ℤ
place row i = slice_index_or row i (pos 0)

-- two rows agree at the places read
abbrev pub Agree : (ℕ → Bool) → List ℤ → List ℤ → Type 0
Agree reads r s = (i : ℕ) → reads i ≡ true → place r i ≡ place s i

-- A guard: the places it reads, and a yes or no for every row.
pub record Guard : Type 0 where
  pub reads : ℕ → Bool
  pub holds : List ℤ → Bool
  -- the reading law: rows that agree where it reads get the same answer
  pub agrees : (r s : List ℤ) → Agree reads r s → holds r ≡ holds s
  pub reads_places : (i : ℕ) → reads i ≡ true → i < limits.places

-- An action: the places it reads, a value or 'out of range' (none) for every row, and the register it writes.
pub record Action : Type 0 where
  pub reads : ℕ → Bool
  pub result : List ℤ → Option ℤ
  pub register : ℕ
  pub agrees : (r s : List ℤ) → Agree reads r s → result r ≡ result s
  pub reads_places : (i : ℕ) → reads i ≡ true → i < limits.places
  pub gives_value : (r : List ℤ) (v : ℤ) → result r ≡ Some v → is_value v ≡ true
  pub writes_register : register < limits.registers

-- A theory's meaning: which guards and actions there are, by number.
pub record Meaning : Type 0 where
  pub guard : ℕ → Option Guard
  pub action : ℕ → Option Action
  -- numbered from 1
  pub guard_numbers : (n : ℕ) → is_some (guard n) ≡ true → (1 ≤ n) × (n ≤ max_guards)
  pub action_numbers : (n : ℕ) → is_some (action n) ≡ true → (1 ≤ n) × (n ≤ max_actions)

-- An absent guard says no and reads nothing.
abbrev pub guard_says : Option Guard → List ℤ → Bool
guard_says None row = false
guard_says (Some g) row = g.holds row

abbrev pub guard_reads : Option Guard → ℕ → Bool
guard_reads None i = false
guard_reads (Some g) i = g.reads i

-- An absent action says 'out of range', reads nothing and writes register 0.
abbrev pub action_says : Option Action → List ℤ → Option ℤ
action_says None row = None
action_says (Some a) row = a.result row

abbrev pub action_reads : Option Action → ℕ → Bool
action_reads None i = false
action_reads (Some a) i = a.reads i

abbrev pub action_writes : Option Action → ℕ
action_writes None = 0
action_writes (Some a) = a.register

-- Guard 0 holds and action 0 writes nothing, without asking the theory; both are always there and read nothing.
abbrev pub guard_there : Meaning → ℕ → Bool
guard_there m zero = true
guard_there m (suc n) = is_some (m.guard (suc n))

abbrev pub action_there : Meaning → ℕ → Bool
action_there m zero = true
action_there m (suc n) = is_some (m.action (suc n))

abbrev pub guard_reads_at : Meaning → ℕ → ℕ → Bool
guard_reads_at m zero i = false
guard_reads_at m (suc n) i = guard_reads (m.guard (suc n)) i

abbrev pub action_reads_at : Meaning → ℕ → ℕ → Bool
action_reads_at m zero i = false
action_reads_at m (suc n) i = action_reads (m.action (suc n)) i

abbrev pub holds : Meaning → ℕ → List ℤ → Bool
holds m zero row = true
holds m (suc n) row = guard_says (m.guard (suc n)) row

-- the row with a value at a place, if there is one
abbrev pub written : List ℤ → ℕ → Option ℤ → Option (List ℤ)
written row at None = None
written row at (Some v) = Some (slice_set row at v)

-- the row after an action, none if that is out of range; registers come after the variables
abbrev pub acted : Meaning → ℕ → List ℤ → Option (List ℤ)
acted m zero row = Some row
acted m (suc n) row = written row (limits.max_quantifiers + action_writes (m.action (suc n))) (action_says (m.action (suc n)) row)
