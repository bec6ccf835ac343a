-- The library's test of equal numbers, both ways.
use Rattle.std.proofs.Common.{◌≡◌, Bool, true, false, ◌⊎◌, ℤ, ◌≢◌, refl, inl, inr}
use Rattle.std.proofs.lemmas.Bool.{both_ways}
use Rattle.std.proofs.lemmas.Bool.Decides.{Decides-int_eq}
use Rattle.std.specs.Ordering.{int_eq}

pub same_is : (x y : ℤ) → int_eq x y ≡ true → x ≡ y
same_is x y = (Decides-int_eq x y).0

pub same_of : (x y : ℤ) → x ≡ y → int_eq x y ≡ true
same_of x y = (Decides-int_eq x y).1

pub same_self : (x : ℤ) → int_eq x x ≡ true
same_self x = same_of x x refl

-- the test's two answers, for grind
pub same_tells : (x y : ℤ) → ((int_eq x y ≡ true) × (x ≡ y)) ⊎ ((int_eq x y ≡ false) × (x ≢ y))
same_tells x y = go (int_eq x y) refl
  where
    go : (t : Bool) → int_eq x y ≡ t → ((int_eq x y ≡ true) × (x ≡ y)) ⊎ ((int_eq x y ≡ false) × (x ≢ y))
    go true e = inl (e, same_is x y e)
    go false e = inr (e, λ is. both_ways (int_eq x y) e (same_of x y is))
