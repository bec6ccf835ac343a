-- The theories of the worked cases: each has at most one guard and one action, which read at most two places.
use Rattle.std.specs.Prelude.{◌≡◌, ℕ, ◌<◌, ◌≤◌, Bool, true, false, cond, not, ◌||◌, List, ℤ, pos, negsuc, ◌+ℤ◌, ◌*ℤ◌, is_some, Some, None, Option, ◌==◌, int_lt, refl}
use Rattle.std.proofs.Common.{ap₂, subst, ⊎_elim, arith, lit<}
use Rattle.std.proofs.lemmas.Bool.{false≢true, or_cases, or_left, or_right, eq-eqb, eqb-true}
use Rattle.qea.specs.Limits.{places, registers, max_guards, max_actions}
use Rattle.std.specs.Ordering.{int_eq}
use Rattle.qea.specs.Values.{is_value}
use Rattle.qea.specs.Meaning.{place, Agree, Guard, Action, Meaning}

abbrev pub one_of : ℕ → ℕ → ℕ → Bool
one_of a b i = a == i || b == i

pub places_agree : {X : Type 0} (f : ℤ → ℤ → X) (a b : ℕ) (r s : List ℤ) → Agree (one_of a b) r s → f (place r a) (place r b) ≡ f (place s a) (place s b)
places_agree f a b r s h = ap₂ f (h a (or_left _ _ (eq-eqb a a refl))) (h b (or_right _ _ (eq-eqb b b refl)))

pub within : (a b : ℕ) → a < places → b < places → (i : ℕ) → one_of a b i ≡ true → i < places
within a b a_in b_in i e =
    ⊎_elim
    (λ h. subst (λ (k : ℕ). k < places) (eqb-true a i h) a_in)
    (λ h. subst (λ (k : ℕ). k < places) (eqb-true b i h) b_in)
    (or_cases (a == i) (b == i) e)

-- the number if it is a value, else 'out of range'
abbrev pub ranged : ℤ → Option ℤ
ranged z = cond (is_value z) (Some z) None

pub ranged_value : (z v : ℤ) → ranged z ≡ Some v → is_value v ≡ true
ranged_value z v e = go (is_value z) refl e
  where
    go : (t : Bool) → is_value z ≡ t → cond t (Some z) None ≡ Some v → is_value v ≡ true
    go true ok said = let is : z ≡ v = cc in subst (λ (w : ℤ). is_value w ≡ true) is ok
    go false ok said = let z : ◌≡◌ {A = ℕ} 0 1 = cc in absurd (omega arith)

-- the guard that tests what stands at two places
abbrev pub guard_on : (a b : ℕ) → a < places → b < places → (ℤ → ℤ → Bool) → Guard
guard_on a b a_in b_in test = record {
  reads = one_of a b;
  holds = λ row. test (place row a) (place row b);
  agrees = places_agree test a b;
  reads_places = within a b a_in b_in;
}

-- the action that writes a number made of two places
abbrev pub action_on : (a b : ℕ) → a < places → b < places → (k : ℕ) → k < registers → (ℤ → ℤ → ℤ) → Action
action_on a b a_in b_in k k_in make = record {
  reads = one_of a b;
  result = λ row. ranged (make (place row a) (place row b));
  register = k;
  agrees = places_agree (λ x y. ranged (make x y)) a b;
  reads_places = within a b a_in b_in;
  gives_value = λ r. ranged_value (make (place r a) (place r b));
  writes_register = k_in;
}

-- what has number 1
abbrev pub at_one : {X : Type 0} → Option X → ℕ → Option X
at_one x n = cond (n == 1) x None

pub one_in_range : {X : Type 0} (x : Option X) (most : ℕ) → 1 ≤ most → (n : ℕ) → is_some (at_one x n) ≡ true → (1 ≤ n) × (n ≤ most)
one_in_range x most room n e = go (n == 1) refl e
  where
    go : (t : Bool) → (n == 1) ≡ t → is_some (cond t x None) ≡ true → (1 ≤ n) × (n ≤ most)
    go true is e = let one = eqb-true n 1 is in (omega arith, omega arith)
    go false is e = absurd (false≢true e)

abbrev pub theory : Option Guard → Option Action → Meaning
theory g x = record {
  guard = at_one g;
  action = at_one x;
  guard_numbers = one_in_range g max_guards (omega arith);
  action_numbers = one_in_range x max_actions (omega arith);
}

abbrev pub no_theory : Meaning
no_theory = theory None None

-- Guard 1: 100 times register 2, less register 1, plus 50, is below 0. Action 1: register 1 takes its sum with register 0.
abbrev pub distance_theory : Meaning
distance_theory = theory
    (Some (guard_on 5 6 (lit< tt) (lit< tt) (λ sum figure. int_lt (pos 100 *ℤ figure +ℤ negsuc 0 *ℤ sum +ℤ pos 50) (pos 0))))
    (Some (action_on 4 5 (lit< tt) (lit< tt) 1 (lit< tt) (λ length sum. sum +ℤ length)))

-- Guard 1: variable 0 is not 0.
abbrev pub nonzero_theory : Meaning
nonzero_theory = theory (Some (guard_on 0 0 (lit< tt) (lit< tt) (λ x y. not (int_eq x (pos 0))))) None
