-- Bindings of the domains, and their numbers.
use Rattle.std.specs.Prelude.{ℕ, zero, suc, ◌+◌, ◌*◌, ◌/◌, ◌%◌, cond, List, [], ◌∷◌, map, length, ℤ, Some, None, Option, slice_index_or}
use Rattle.std.specs.List.{slice_get, list_any, flat_map}
use Rattle.qea.specs.Lists.{In}
use Rattle.std.specs.Ordering.{int_eq}
use Rattle.qea.specs.Domains.{position_of}

-- nothing or a value for each variable that has a quantifier
abbrev pub Binding : Type 0
Binding = List (Option ℤ)

-- what a binding gives variable k
abbrev pub pick : Binding → ℕ → Option ℤ
pick b k = slice_index_or b k None

-- nothing, or a value of the domain
abbrev pub EntryOf : List ℤ → Option ℤ → Type 0
EntryOf d None = Unit {0}
EntryOf d (Some v) = In v d

-- a binding of the domains gives each variable nothing or a value of its domain
abbrev pub BindingOf : List (List ℤ) → Binding → Type 0
BindingOf [] [] = Unit {0}
BindingOf [] (o ∷ b) = ⊥
BindingOf (d ∷ ds) [] = ⊥
BindingOf (d ∷ ds) (o ∷ b) = EntryOf d o × BindingOf ds b

-- it is total if it gives each a value
abbrev pub TotalOf : List (List ℤ) → Binding → Type 0
TotalOf [] [] = Unit {0}
TotalOf [] (o ∷ b) = ⊥
TotalOf (d ∷ ds) [] = ⊥
TotalOf (d ∷ ds) (None ∷ b) = ⊥
TotalOf (d ∷ ds) (Some v ∷ b) = In v d × TotalOf ds b

-- the bindings, and the total ones, in the order of their numbers: variable 0 counts fastest
abbrev pub entries : List ℤ → List (Option ℤ)
entries d = None ∷ map Some d

abbrev pub bindings : List (List ℤ) → List Binding
bindings [] = [] ∷ []
bindings (d ∷ ds) = flat_map (λ rest. map (λ o. o ∷ rest) (entries d)) (bindings ds)

abbrev pub total_bindings : List (List ℤ) → List Binding
total_bindings [] = [] ∷ []
total_bindings (d ∷ ds) = flat_map (λ rest. map (λ v. Some v ∷ rest) d) (total_bindings ds)

-- how many bindings there are: the product of all (1 + domain size)
abbrev pub product : List (List ℤ) → ℕ
product [] = 1
product (d ∷ ds) = (1 + length d) * product ds

-- A binding's number has a digit for each variable, to base 1 + domain size: 0 for nothing, i for the i-th value.
abbrev pub counted : Option ℕ → ℕ
counted None = 0
counted (Some i) = suc i

abbrev pub digit : List ℤ → Option ℤ → ℕ
digit d None = 0
digit d (Some v) = counted (position_of d v)

abbrev pub number : List (List ℤ) → Binding → ℕ
number [] b = 0
number (d ∷ ds) [] = 0
number (d ∷ ds) (o ∷ b) = number ds b * suc (length d) + digit d o

-- the way back, from a number to its binding
abbrev pub entry_at : List ℤ → ℕ → Option ℤ
entry_at d zero = None
entry_at d (suc i) = slice_get d i

abbrev pub binding_at : List (List ℤ) → ℕ → Binding
binding_at [] n = []
binding_at (d ∷ ds) n = entry_at d (n % suc (length d)) ∷ binding_at ds (n / suc (length d))

-- A binding is new where it gives a value that the domain lacked before. Without its new values it gives nothing there.
abbrev pub known : List ℤ → Option ℤ → Option ℤ
known d None = None
known d (Some v) = cond (list_any (λ w. int_eq w v) d) (Some v) None

abbrev pub without_new : List (List ℤ) → Binding → Binding
without_new [] b = []
without_new (d ∷ ds) [] = []
without_new (d ∷ ds) (o ∷ b) = known d o ∷ without_new ds b
