-- Words on lists that the definitions use.
use Rattle.std.specs.Prelude.{◌≡◌, ℕ, ◌<◌, Bool, cond, ◌⊎◌, List, [], ◌∷◌, ◌++◌, length, Some, None, fold, Option, ◌≢◌}
use Rattle.std.specs.Option.{option_or}
use Rattle.std.specs.List.{list_any, slice_get}

-- one more, unless it is there already
abbrev pub joined : {X : Type 0} → (X → X → Bool) → List X → X → List X
joined alike xs x = cond (list_any (λ y. alike y x) xs) xs (xs ++ x ∷ [])

-- stands in the list
abbrev pub In : {X : Type 0} → X → List X → Type 0
In x [] = ⊥
In x (y ∷ ys) = (x ≡ y) ⊎ In x ys

-- no element stands twice
abbrev pub Distinct : {X : Type 0} → List X → Type 0
Distinct xs = (i j : ℕ) → i < j → j < length xs → slice_get xs i ≢ slice_get xs j

-- in order, later repeats dropped
abbrev pub firsts : {X : Type 0} → (X → X → Bool) → List X → List X
firsts alike xs = fold (joined alike) [] xs

-- those that are there, in order
abbrev pub present : {X : Type 0} → List (Option X) → List X
present [] = []
present (None ∷ xs) = present xs
present (Some x ∷ xs) = x ∷ present xs

-- the first that is there
abbrev pub first_some : {X Y : Type 0} → (X → Option Y) → List X → Option Y
first_some f [] = None
first_some f (x ∷ xs) = option_or (f x) (first_some f xs)
