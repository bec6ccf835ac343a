-- Lists in which no element stands twice.
use Rattle.std.proofs.Common.{◌≡◌, zero, suc, List, [], ◌∷◌, ◌++◌, map, sym, refl, subst, inl, inr, ⊎_elim, arith}
use Rattle.std.specs.List.{flat_map}
use Rattle.qea.specs.Lists.{In, Distinct}
use Rattle.qea.proofs.Members.{nth_in, in_nth, in_append, of_map, of_flat_map}

pub distinct_nil : {X : Type 0} → Distinct {X = X} []
distinct_nil i j l k e = omega arith

module _ {X : Type 0} (x : X) (xs : List X) where
  distinct_head : Distinct (x ∷ xs) → In x xs → ⊥
  distinct_head a m = let r = in_nth xs x m in let l = r.1 in a 0 (suc r.0) (omega arith) (omega arith) (sym r.2)

  distinct_tail : Distinct (x ∷ xs) → Distinct xs
  distinct_tail a i j l k e = a (suc i) (suc j) (omega arith) (omega arith) e

  distinct_cons : (In x xs → ⊥) → Distinct xs → Distinct (x ∷ xs)
  distinct_cons n a zero (suc j) l k e = n (nth_in xs j x (sym e))
  distinct_cons n a (suc i) (suc j) l k e = a i j (omega arith) (omega arith) e
  distinct_cons n a i zero l k e = omega arith

pub distinct_push : {X : Type 0} (xs : List X) (y : X) → Distinct xs → (In y xs → ⊥) → Distinct (xs ++ y ∷ [])
distinct_push [] y a n = distinct_cons y [] n distinct_nil
distinct_push (x ∷ xs) y a n =
    distinct_cons x (xs ++ y ∷ [])
    (λ k. ⊎_elim (λ j. distinct_head x xs a j) (λ j. ⊎_elim (λ e. n (inl (sym e))) (λ z. z) j) (in_append x xs (y ∷ []) k))
    (distinct_push xs y (distinct_tail x xs a) (λ k. n (inr k)))

pub distinct_append : {X : Type 0} (xs ys : List X) → Distinct xs → Distinct ys → ((x : X) → In x xs → In x ys → ⊥) → Distinct (xs ++ ys)
distinct_append [] ys a b n = b
distinct_append (x ∷ xs) ys a b n =
    distinct_cons x (xs ++ ys) (λ m. ⊎_elim (distinct_head x xs a) (n x (inl refl)) (in_append x xs ys m))
    (distinct_append xs ys (distinct_tail x xs a) b (λ y k j. n y (inr k) j))

pub distinct_map : {X Y : Type 0} (f : X → Y) → ((x y : X) → f x ≡ f y → x ≡ y) → (xs : List X) → Distinct xs → Distinct (map f xs)
distinct_map f inj [] a = distinct_nil
distinct_map f inj (x ∷ xs) a =
    distinct_cons (f x) (map f xs)
    (λ m. let r = of_map f (f x) xs m in distinct_head x xs a (subst (λ (w : _). In w xs) (sym (inj x r.0 r.2)) r.1))
    (distinct_map f inj xs (distinct_tail x xs a))

pub distinct_flat_map : {X Y : Type 0} (f : X → List Y) (xs : List X) → Distinct xs → ((x : X) → Distinct (f x)) → ((x z : X) (y : Y) → In y (f x) → In y (f z) → x ≡ z) → Distinct (flat_map f xs)
distinct_flat_map f [] a each inj = distinct_nil
distinct_flat_map f (x ∷ xs) a each inj =
    distinct_append (f x) (flat_map f xs) (each x) (distinct_flat_map f xs (distinct_tail x xs a) each inj)
    (λ y m k. let r = of_flat_map f y xs k in distinct_head x xs a (subst (λ (w : _). In w xs) (sym (inj x r.0 y m r.2)) r.1))
