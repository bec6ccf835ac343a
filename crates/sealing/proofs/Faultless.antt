-- What it says that no element of a list fails a test, and that rows have no fault.
use Rattle.std.proofs.Common.{◌≡◌, ℕ, suc, ◌+◌, Bool, true, false, ◌↔◌, List, [], ◌∷◌, Some, None, Option, refl, arith}
use Rattle.std.specs.List.{slice_get, list_any}
use Rattle.qea.specs.declared.fault.RowKind.{RowKind}
use Rattle.qea.specs.declared.fault.Description.{Description}
use Rattle.qea.specs.Lists.{In}
use Rattle.std.specs.Option.{option_or}
use Rattle.sealing.specs.Sealing.{row_fault, first_fault}

module _ {X : Type 0} (test : X → Bool) where
  pub any_fails : (P : X → Type 0) → ((x : X) → (test x ≡ false) ↔ P x) → (xs : List X) → (list_any test xs ≡ false) ↔ ((x : X) → In x xs → P x)
  any_fails P each [] = (λ e. grind arith, λ h. refl)
  any_fails P each (x ∷ xs) =
      let here = each x in
      let later = any_fails P each xs in
      (λ e. grind arith, λ h. grind arith)

  -- a test that only one element passes finds it
  pub any_finds : (x : X) → ((y : X) → (test y ≡ true) ↔ (y ≡ x)) → (xs : List X) → (list_any test xs ≡ true) ↔ In x xs
  any_finds x only [] = (grind arith, grind arith)
  any_finds x only (y ∷ ys) =
      let here = only y in
      let later = any_finds x only ys in
      (λ e. grind arith, λ h. grind arith)

module _ {P Q : Type 0} where
  pub option_or_none : {X : Type 0} (x y : Option X) → (x ≡ None) ↔ P → (y ≡ None) ↔ Q → (option_or x y ≡ None) ↔ (P × Q)
  option_or_none x y p q = (grind arith, grind arith)

  pub row_none : (kind : RowKind) (row : ℕ) (absent misread : Bool) → (absent ≡ false) ↔ P → (misread ≡ false) ↔ Q → (row_fault kind row absent misread ≡ None) ↔ (P × Q)
  row_none kind row absent misread p q = (grind arith, grind arith)

-- no row has a fault, where row k has none exactly if it fits
module _ {X : Type 0} (fault : ℕ → X → Option Description) (Fits : ℕ → X → Type 0) (each : (k : ℕ) (x : X) → (fault k x ≡ None) ↔ Fits k x) where
  -- counted from k
  numbered : (k : ℕ) (rows : List X) → (first_fault fault k rows ≡ None) ↔ ((n i : ℕ) (x : X) → n ≡ k + i → slice_get rows i ≡ Some x → Fits n x)
  numbered k [] = (λ e. grind arith, λ h. refl)
  numbered k (x ∷ rows) =
      let here = each k x in
      let later = numbered (suc k) rows in (
        λ e. grind arith,
        λ h. let first = here.1 (h k 0 x (omega arith) refl) in
            let rest = later.1 (λ n i y from is. h n (suc i) y (omega arith) is) in
            grind arith,
      )

  pub rows_none : (rows : List X) → (first_fault fault 0 rows ≡ None) ↔ ((i : ℕ) (x : X) → slice_get rows i ≡ Some x → Fits i x)
  rows_none rows = let all = numbered 0 rows in (λ e. grind arith, λ h. grind arith)

-- the same where a row's number does not matter
module _ {X : Type 0} (fault : ℕ → X → Option Description) (Fits : X → Type 0) (each : (k : ℕ) (x : X) → (fault k x ≡ None) ↔ Fits x) where
  pub members_none : (k : ℕ) (rows : List X) → (first_fault fault k rows ≡ None) ↔ ((x : X) → In x rows → Fits x)
  members_none k [] = (λ e. grind arith, λ h. refl)
  members_none k (x ∷ rows) =
      let here = each k x in
      let later = members_none (suc k) rows in
      (λ e. grind arith, λ h. grind arith)
