-- The reading law of linear forms. The meaning of a linear theory carries it.
use Rattle.std.specs.Prelude.{◌≡◌, ℕ, ◌<◌, true, false, List, ℤ, pos, ◌+ℤ◌, ◌*ℤ◌, Some}
use Rattle.std.specs.Ordering.{int_eq}
use Rattle.std.proofs.Common.{ap₂, arith}
use Rattle.std.proofs.Math.IntN.{zero-*ℤ}
use Rattle.std.proofs.lemmas.Bool.Decides.{nat_tests}
use Rattle.qea.specs.Limits.{places}
use Rattle.qea.specs.Values.{is_value}
use Rattle.qea.specs.Meaning.{place, Agree}
use Rattle.qea.proofs.Sameness.{same_tells}
use Rattle.linear_theory.specs.declared.form.LinearForm.{LinearForm}
use Rattle.linear_theory.specs.Forms.{form_in_range, sum, form_reads, value_of}

-- a product does not depend on a number that its factor 0 leaves unread
product_agrees : (m x y : ℤ) → (int_eq m (pos 0) ≡ false → x ≡ y) → m *ℤ x ≡ m *ℤ y
product_agrees m x y h = grind (arith, same_tells m (pos 0), zero-*ℤ)

-- rows that agree where a form reads have the same sum
pub sum_agrees : (f : LinearForm) (r s : List ℤ) → Agree (form_reads f) r s → sum f r ≡ sum f s
sum_agrees f r s h =
    ap₂ (λ (x y : ℤ). x +ℤ y +ℤ f.c)
    (product_agrees f.m (place r f.a) (place s f.a) (λ e. h f.a (grind (arith, nat_tests))))
    (product_agrees f.n (place r f.b) (place s f.b) (λ e. h f.b (grind (arith, nat_tests))))

-- a form in range reads places only
pub reads_within : (f : LinearForm) → form_in_range f ≡ true → (i : ℕ) → form_reads f i ≡ true → i < places
reads_within f ok i e = grind (arith, nat_tests, same_tells)

-- what is told to be a value is one
pub value_in_range : (z v : ℤ) → value_of z ≡ Some v → is_value v ≡ true
value_in_range z v e = grind arith
