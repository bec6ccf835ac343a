-- Number and binding determine each other, and the listing stands in the order of the numbers.
use Rattle.std.proofs.Common.{◌≡◌, ℕ, zero, suc, ◌+◌, ◌*◌, ◌/◌, ◌%◌, ◌<◌, ◌≤◌, true, List, [], ◌∷◌, length, get_or, ℤ, pos, is_some, Some, None, Option, sym, refl, ap, ◌∙◌, subst, ap₂, inl, inr, ⊎_elim, arith}
use Rattle.std.specs.List.{range_with_len, slice_get}
use Rattle.std.proofs.lemmas.Nat.{mul-add-lt, div-mul-add, mod-mul-add, div_below, mod_below, div-add-mod'}
use Rattle.std.proofs.lemmas.Bool.{false≢true, cases_order}
use Rattle.std.proofs.lemmas.Option.{none-some, same_Some, slice_get-get_or}
use Rattle.std.proofs.lemmas.List.FromFn.{fill_by_all}
use Rattle.std.proofs.lemmas.List.Quantifiers.{position-Some}
use Rattle.std.proofs.lemmas.Iterator.Adapters.{position_from-zero}
use Rattle.qea.specs.Lists.{In, Distinct}
use Rattle.std.specs.Ordering.{int_eq}
use Rattle.qea.specs.Events.{Event}
use Rattle.qea.specs.Automaton.{Automaton}
use Rattle.qea.specs.Domains.{position_of, domain, domains}
use Rattle.qea.specs.Bindings.{Binding, EntryOf, BindingOf, bindings, product, counted, digit, number, entry_at, binding_at}
use Rattle.qea.specs.Laws.{BindingsNumbered, BindingsListed}
use Rattle.qea.proofs.Sameness.{same_is, same_self}
use Rattle.qea.proofs.Members.{nth_in, of_map, any_at, some_first}
use Rattle.qea.proofs.Growth.{domains_apart}
use Rattle.qea.proofs.Listing.{length_bindings, listed_at, of_bindings}

-- digits

digit_read : (d : List ℤ) (o : Option ℤ) → EntryOf d o → (digit d o < suc (length d)) × (entry_at d (digit d o) ≡ o)
digit_read d None m = (omega arith, refl)
digit_read d (Some v) m = go (position_of d v) refl (some_first (λ w. int_eq w v) 0 d ∙ any_at (λ w. int_eq w v) d v m (same_self v))
  where
    go : (p : Option ℕ) → position_of d v ≡ p → is_some p ≡ true → (counted p < suc (length d)) × (entry_at d (counted p) ≡ Some v)
    go None e t = absurd (false≢true t)
    go (Some i) e t = let r = position-Some (λ w. int_eq w v) d i (pos 0) (position_from-zero (λ w. int_eq w v) d ∙ e) in (omega (arith, r.0), slice_get-get_or d i (pos 0) r.0 ∙ ap Some (same_is (get_or d i (pos 0)) v r.1))

-- no two digits stand for one value
digit_own : (d : List ℤ) (n i : ℕ) → Distinct d → n < suc (length d) → i < length d → entry_at d n ≡ slice_get d i → n ≡ suc i
digit_own d zero i a ln li e = absurd (none-some (get_or d i (pos 0)) (e ∙ slice_get-get_or d i (pos 0) li))
digit_own d (suc j) i a ln li e = ⊎_elim (λ s. ap suc s) (λ o. ⊎_elim (λ l. absurd (a j i l li e)) (λ l. absurd (a i j l (omega arith) (sym e))) o) (cases_order j i)

entry_read : (d : List ℤ) (i : ℕ) → Distinct d → i < suc (length d) → EntryOf d (entry_at d i) × (digit d (entry_at d i) ≡ i)
entry_read d zero a l = (tt, refl)
entry_read d (suc i) a l =
    let v = get_or d i (pos 0) in
    let at : slice_get d i ≡ Some v = slice_get-get_or d i (pos 0) (omega arith) in
    let here : In v d = nth_in d i v at in
    let r = digit_read d (Some v) here in
    subst (λ (o : Option ℤ). EntryOf d o × (digit d o ≡ suc i)) (sym at) (here, digit_own d (digit d (Some v)) i a r.0 (omega arith) (r.1 ∙ sym at))

-- numbers

pub in_counting : (i n k : ℕ) → In k (range_with_len i n) → (i ≤ k) × (k < i + n)
in_counting i zero k m = absurd m
in_counting i (suc n) k (inl e) = (omega arith, omega arith)
in_counting i (suc n) k (inr m) = let r = in_counting (i + 1) n k m in (omega (arith, r.0), omega (arith, r.1))

number_read : (ds : List (List ℤ)) (b : Binding) → BindingOf ds b → (number ds b < product ds) × (binding_at ds (number ds b) ≡ b)
number_read [] [] m = (omega arith, refl)
number_read (d ∷ ds) (o ∷ b) m =
    let r = number_read ds b m.1 in
    let s = digit_read d o m.0 in (
      omega (arith, mul-add-lt (number ds b) (suc (length d)) (digit d o) (product ds) r.0 s.0),
      ap₂ ◌∷◌ (ap (entry_at d) (mod-mul-add (number ds b) (suc (length d)) (digit d o) s.0) ∙ s.1)
          (ap (binding_at ds) (div-mul-add (number ds b) (suc (length d)) (digit d o) s.0) ∙ r.1),
    )
number_read ds b m = absurd m

binding_read : (ds : List (List ℤ)) → ((d : List ℤ) → In d ds → Distinct d) → (n : ℕ) → n < product ds → BindingOf ds (binding_at ds n) × (number ds (binding_at ds n) ≡ n)
binding_read [] a n l = (tt, omega arith)
binding_read (d ∷ ds) a n l =
    let w = suc (length d) in
    let lt : n < product ds * w = omega arith in
    let r = binding_read ds (λ x m. a x (inr m)) (n / w) (div_below n w (product ds) (omega arith) lt) in
    let s = entry_read d (n % w) (a d (inl refl)) (mod_below n w (omega arith)) in
    ((s.0, r.0), ap₂ (λ (x y : ℕ). x * w + y) r.1 s.1 ∙ div-add-mod' n w)

pub domains_each_distinct : (a : Automaton) (h : List Event) (d : List ℤ) → In d (domains a h) → Distinct d
domains_each_distinct a h d m =
    let r = of_map (domain a h) d (range_with_len 0 (length a.quantifiers)) m in
    subst (λ (x : List ℤ). Distinct x) (sym r.2) (domains_apart a h r.0)

pub bindings_numbered : BindingsNumbered
bindings_numbered a h = record { of_binding = number_read (domains a h); of_number = binding_read (domains a h) (domains_each_distinct a h) }

-- the listing, by the numbers

listed : (ds : List (List ℤ)) (n : ℕ) → n < product ds → slice_get (bindings ds) n ≡ Some (binding_at ds n)
listed ds n l = slice_get-get_or (bindings ds) n [] (omega (arith, length_bindings ds)) ∙ ap Some (listed_at ds n l)

pub in_bindings : (ds : List (List ℤ)) (b : Binding) → BindingOf ds b → In b (bindings ds)
in_bindings ds b m = let r = number_read ds b m in nth_in (bindings ds) (number ds b) b (listed ds (number ds b) r.0 ∙ ap Some r.1)

module _ (ds : List (List ℤ)) (a : (d : List ℤ) → In d ds → Distinct d) where
  bindings_distinct : Distinct (bindings ds)
  bindings_distinct i j l k e =
      let lj : j < product ds = omega (arith, length_bindings ds) in
      let li : i < product ds = omega arith in
      let same : binding_at ds i ≡ binding_at ds j = same_Some _ _ (sym (listed ds i li) ∙ e ∙ listed ds j lj) in
      omega (arith, (binding_read ds a i li).1, (binding_read ds a j lj).1, ap (number ds) same)

pub of_domain_bindings : (a : Automaton) (h : List Event) (b : Binding) → In b (bindings (domains a h)) → BindingOf (domains a h) b
of_domain_bindings a h = of_bindings (domains a h)

pub bindings_listed : BindingsListed
bindings_listed a h = record {
  complete = in_bindings (domains a h);
  sound = of_domain_bindings a h;
  apart = bindings_distinct (domains a h) (domains_each_distinct a h);
  many = length_bindings (domains a h);
  ordered = fill_by_all (binding_at (domains a h)) (bindings (domains a h)) (product (domains a h)) [] (length_bindings (domains a h)) (listed_at (domains a h));
}
