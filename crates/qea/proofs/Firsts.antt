-- A list with later repeats dropped has what the list has, each once.
use Rattle.std.proofs.Common.{◌≡◌, Bool, true, ◌⊎◌, List, [], ◌∷◌, ◌++◌, fold, sym, refl, subst, inl, inr, ⊎_elim}
use Rattle.std.proofs.lemmas.Bool.{both_ways, cond_both}
use Rattle.std.proofs.lemmas.List.Folds.{fold_along}
use Rattle.std.specs.List.{list_any}
use Rattle.qea.specs.Lists.{joined, firsts, In, Distinct}
use Rattle.qea.proofs.Members.{in_left, in_right, in_append, any_at, of_any}
use Rattle.qea.proofs.Distincts.{distinct_push, distinct_nil}

module _ {X : Type 0} (alike : X → X → Bool) where
  -- what holds of a list, and of the list with a new element, holds of the two joined
  joined_by : (P : List X → Type 0) (xs : List X) (y : X) → (list_any (λ z. alike z y) xs ≡ true → P xs) → ((list_any (λ z. alike z y) xs ≡ true → ⊥) → P (xs ++ y ∷ [])) → P (joined alike xs y)
  joined_by P xs y there new = cond_both (list_any (λ z. alike z y) xs) xs (xs ++ y ∷ []) P there (λ e. new (both_ways (list_any (λ z. alike z y) xs) e))

  -- what stands there stays
  folded_keeps : (xs ys : List X) (x : X) → In x xs → In x (fold (joined alike) xs ys)
  folded_keeps xs [] x m = m
  folded_keeps xs (y ∷ ys) x m = folded_keeps (joined alike xs y) ys x (joined_by (In x) xs y (λ _. m) (λ _. in_left x xs (y ∷ []) m))

  -- what is met is there
  module _ (sound : (x y : X) → alike x y ≡ true → x ≡ y) where
    joined_has : (xs : List X) (y : X) → In y (joined alike xs y)
    joined_has xs y = joined_by (In y) xs y (λ e. let r = of_any (λ z. alike z y) xs e in subst (λ (w : X). In w xs) (sound r.0 y r.2) r.1) (λ _. in_right y xs (y ∷ []) (inl refl))

    folded_has : (xs ys : List X) (y : X) → In y ys → In y (fold (joined alike) xs ys)
    folded_has xs [] y m = absurd m
    folded_has xs (z ∷ ys) y (inl e) = folded_keeps (joined alike xs z) ys y (subst (λ (w : X). In w (joined alike xs z)) (sym e) (joined_has xs z))
    folded_has xs (z ∷ ys) y (inr m) = folded_has (joined alike xs z) ys y m

    pub firsts_have : (ys : List X) (y : X) → In y ys → In y (firsts alike ys)
    firsts_have ys y m = folded_has [] ys y m

  -- and nothing else is
  of_joined : (xs : List X) (y x : X) → In x (joined alike xs y) → In x xs ⊎ (x ≡ y)
  of_joined xs y x = joined_by (λ zs. In x zs → In x xs ⊎ (x ≡ y)) xs y (λ _ k. inl k) (λ _ k. ⊎_elim inl (λ j. ⊎_elim inr (λ z. absurd z) j) (in_append x xs (y ∷ []) k))

  of_folded : (xs ys : List X) (x : X) → In x (fold (joined alike) xs ys) → In x xs ⊎ In x ys
  of_folded xs [] x m = inl m
  of_folded xs (y ∷ ys) x m = ⊎_elim (λ k. ⊎_elim inl (λ e. inr (inl e)) (of_joined xs y x k)) (λ k. inr (inr k)) (of_folded (joined alike xs y) ys x m)

  pub of_firsts : (ys : List X) (x : X) → In x (firsts alike ys) → In x ys
  of_firsts ys x m = ⊎_elim {C = In x ys} (λ k. absurd k) (λ k. k) (of_folded [] ys x m)

  -- each once
  pub firsts_distinct : ((x : X) → alike x x ≡ true) → (ys : List X) → Distinct (firsts alike ys)
  firsts_distinct self ys =
      fold_along (joined alike) {C = Unit {0}} (λ u _. u) (λ xs _. Distinct xs)
      (λ xs _ y a. joined_by Distinct xs y (λ _. a) (λ new. distinct_push xs y a (λ m. new (any_at (λ z. alike z y) xs y m (self y)))))
      [] tt ys distinct_nil
