-- The first fault of rows that are read as something else.
use Rattle.std.proofs.Common.{◌≡◌, ℕ, suc, List, [], ◌∷◌, map, Option, refl, ap}
use Rattle.qea.specs.declared.fault.Description.{Description}
use Rattle.std.specs.Option.{option_or}
use Rattle.sealing.specs.Sealing.{first_fault}

pub first_fault_map : {X Y : Type 0} (f : X → Y) (fault : ℕ → Y → Option Description) (k : ℕ) (rows : List X) → first_fault fault k (map f rows) ≡ first_fault (λ n x. fault n (f x)) k rows
first_fault_map f fault k [] = refl
first_fault_map f fault k (x ∷ rows) = ap (option_or (fault k (f x))) (first_fault_map f fault (suc k) rows)
