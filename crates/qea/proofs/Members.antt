-- What stands in a list, and what tests over a list then say.
use Rattle.std.proofs.Common.{◌≡◌, ℕ, zero, suc, ◌+◌, ◌<◌, Bool, true, false, cond, ◌&&◌, ◌||◌, ◌⊎◌, List, [], ◌∷◌, ◌++◌, map, length, is_some, Some, None, Decides, filter, Option, sym, refl, ap, ◌∙◌, subst, inl, inr, ⊎_elim, arith}
use Rattle.std.proofs.lemmas.Option.{none-some, same_Some}
use Rattle.std.specs.List.{slice_get, list_all, list_any, position_from, flat_map}
use Rattle.std.proofs.lemmas.Bool.{false≢true, and_parts, and_from, cond_both, or_cases, or_left, or_right, both_ways, false_from_ne_true}
use Rattle.qea.specs.Lists.{In, present}

-- by place

pub nth_in : {X : Type 0} (xs : List X) (i : ℕ) (x : X) → slice_get xs i ≡ Some x → In x xs
nth_in [] i x e = absurd (none-some x e)
nth_in (y ∷ xs) zero x e = inl (sym (same_Some y x e))
nth_in (y ∷ xs) (suc i) x e = inr (nth_in xs i x e)

pub in_nth : {X : Type 0} (xs : List X) (x : X) → In x xs → (i : ℕ) × (i < length xs) × (slice_get xs i ≡ Some x)
in_nth [] x m = absurd m
in_nth (y ∷ xs) x (inl e) = (0, omega arith, ap Some (sym e))
in_nth (y ∷ xs) x (inr m) = let r = in_nth xs x m in let l = r.1 in (suc r.0, omega arith, r.2)

-- of joined, mapped and kept lists

pub in_left : {X : Type 0} (x : X) (xs ys : List X) → In x xs → In x (xs ++ ys)
in_left x [] ys m = absurd m
in_left x (y ∷ xs) ys (inl e) = inl e
in_left x (y ∷ xs) ys (inr m) = inr (in_left x xs ys m)

pub in_right : {X : Type 0} (x : X) (xs ys : List X) → In x ys → In x (xs ++ ys)
in_right x [] ys m = m
in_right x (y ∷ xs) ys m = inr (in_right x xs ys m)

pub in_append : {X : Type 0} (x : X) (xs ys : List X) → In x (xs ++ ys) → In x xs ⊎ In x ys
in_append x [] ys m = inr m
in_append x (y ∷ xs) ys (inl e) = inl (inl e)
in_append x (y ∷ xs) ys (inr m) = ⊎_elim (λ k. inl (inr k)) inr (in_append x xs ys m)

pub in_flat_map : {X Y : Type 0} (f : X → List Y) (x : X) (y : Y) (xs : List X) → In x xs → In y (f x) → In y (flat_map f xs)
in_flat_map f x y [] m k = absurd m
in_flat_map f x y (z ∷ xs) (inl e) k = in_left y (f z) (flat_map f xs) (subst (λ (w : _). In y (f w)) e k)
in_flat_map f x y (z ∷ xs) (inr m) k = in_right y (f z) (flat_map f xs) (in_flat_map f x y xs m k)

pub of_flat_map : {X Y : Type 0} (f : X → List Y) (y : Y) (xs : List X) → In y (flat_map f xs) → (x : X) × In x xs × In y (f x)
of_flat_map f y [] m = absurd m
of_flat_map f y (x ∷ xs) m = ⊎_elim (λ k. (x, inl refl, k)) (λ k. let r = of_flat_map f y xs k in (r.0, inr r.1, r.2)) (in_append y (f x) (flat_map f xs) m)

pub of_kept_by : {X : Type 0} (p : X → Bool) (x : X) (xs : List X) → In x (filter p xs) → In x xs × (p x ≡ true)
of_kept_by p x [] m = absurd m
of_kept_by p x (y ∷ xs) m =
    let more : In x (filter p xs) → In x (y ∷ xs) × (p x ≡ true) = λ k. let r = of_kept_by p x xs k in (inr r.0, r.1) in
    cond_both (p y) (y ∷ filter p xs) (filter p xs) (λ zs. In x zs → In x (y ∷ xs) × (p x ≡ true)) (λ e k. ⊎_elim (λ j. (inl j, ap p j ∙ e)) more k) (λ e k. more k) m

pub in_kept_by : {X : Type 0} (p : X → Bool) (x : X) (xs : List X) → In x xs → p x ≡ true → In x (filter p xs)
in_kept_by p x [] m t = absurd m
in_kept_by {X} p x (y ∷ xs) (inl e) t = subst (λ (s : Bool). In x (cond s (y ∷ filter p xs) (filter p xs))) (sym (ap p (sym e) ∙ t)) (inl e)
in_kept_by p x (y ∷ xs) (inr m) t =
    let rest = in_kept_by p x xs m t in
    cond_both (p y) (y ∷ filter p xs) (filter p xs) (In x) (λ _. inr rest) (λ _. rest)

pub in_map : {X Y : Type 0} (f : X → Y) (x : X) (xs : List X) → In x xs → In (f x) (map f xs)
in_map f x [] m = absurd m
in_map f x (y ∷ xs) (inl e) = inl (ap f e)
in_map f x (y ∷ xs) (inr m) = inr (in_map f x xs m)

pub of_map : {X Y : Type 0} (f : X → Y) (y : Y) (xs : List X) → In y (map f xs) → (x : X) × In x xs × (y ≡ f x)
of_map f y [] m = absurd m
of_map f y (x ∷ xs) (inl e) = (x, inl refl, e)
of_map f y (x ∷ xs) (inr m) = let r = of_map f y xs m in (r.0, inr r.1, r.2)

pub in_present : {X : Type 0} (os : List (Option X)) (x : X) → In (Some x) os → In x (present os)
in_present [] x m = absurd m
in_present (None ∷ os) x (inl e) = absurd (none-some x (sym e))
in_present (None ∷ os) x (inr m) = in_present os x m
in_present (Some y ∷ os) x (inl e) = inl (same_Some x y e)
in_present (Some y ∷ os) x (inr m) = inr (in_present os x m)

pub of_present : {X : Type 0} (os : List (Option X)) (x : X) → In x (present os) → In (Some x) os
of_present [] x m = absurd m
of_present (None ∷ os) x m = inr (of_present os x m)
of_present (Some y ∷ os) x (inl e) = inl (ap Some e)
of_present (Some y ∷ os) x (inr m) = inr (of_present os x m)

-- tests

pub every_at : {X : Type 0} (f : X → Bool) (xs : List X) (x : X) → list_all f xs ≡ true → In x xs → f x ≡ true
every_at f [] x t m = absurd m
every_at f (y ∷ xs) x t (inl e) = ap f e ∙ (and_parts (f y) (list_all f xs) t).0
every_at f (y ∷ xs) x t (inr m) = every_at f xs x (and_parts (f y) (list_all f xs) t).1 m

pub any_at : {X : Type 0} (f : X → Bool) (xs : List X) (x : X) → In x xs → f x ≡ true → list_any f xs ≡ true
any_at f [] x m t = absurd m
any_at f (y ∷ xs) x (inl e) t = or_left (f y) (list_any f xs) (ap f (sym e) ∙ t)
any_at f (y ∷ xs) x (inr m) t = or_right (f y) (list_any f xs) (any_at f xs x m t)

pub of_any : {X : Type 0} (f : X → Bool) (xs : List X) → list_any f xs ≡ true → (x : X) × In x xs × (f x ≡ true)
of_any f [] t = absurd (false≢true t)
of_any f (y ∷ xs) t = ⊎_elim (λ k. (y, inl refl, k)) (λ k. let r = of_any f xs k in (r.0, inr r.1, r.2)) (or_cases (f y) (list_any f xs) t)

pub any_none : {X : Type 0} (f : X → Bool) (xs : List X) (x : X) → list_any f xs ≡ false → In x xs → f x ≡ false
any_none f xs x e m = false_from_ne_true (f x) (λ t. both_ways (list_any f xs) e (any_at f xs x m t))

pub every_from : {X : Type 0} (f : X → Bool) (xs : List X) → ((x : X) → In x xs → f x ≡ true) → list_all f xs ≡ true
every_from f [] h = refl
every_from f (y ∷ xs) h = and_from (f y) (list_all f xs) (h y (inl refl)) (every_from f xs (λ x m. h x (inr m)))

pub every_false : {X : Type 0} (f : X → Bool) (xs : List X) (x : X) → In x xs → f x ≡ false → list_all f xs ≡ false
every_false f xs x m e = false_from_ne_true (list_all f xs) (λ t. both_ways (f x) e (every_at f xs x t m))

pub any_false : {X : Type 0} (f : X → Bool) (xs : List X) → ((x : X) → In x xs → f x ≡ false) → list_any f xs ≡ false
any_false f xs h = false_from_ne_true (list_any f xs) (λ t. let r = of_any f xs t in both_ways (f r.0) (h r.0 r.1) r.2)

pub every_no : {X : Type 0} (f : X → Bool) (xs : List X) → list_all f xs ≡ false → (x : X) × In x xs × (f x ≡ false)
every_no f [] t = absurd (false≢true (sym t))
every_no {X} f (x ∷ xs) t = go (f x) refl t (λ k. every_no f xs k)
  where
    go : (s : Bool) → f x ≡ s → (s && list_all f xs) ≡ false → (list_all f xs ≡ false → (y : X) × In y xs × (f y ≡ false)) → (y : X) × In y (x ∷ xs) × (f y ≡ false)
    go true e k rest = let r = rest k in (r.0, inr r.1, r.2)
    go false e k rest = (x, inl refl, e)

pub every_decides : {X : Type 0} (f : X → Bool) (P : X → Type 0) (xs : List X) → ((x : X) → Decides (f x) (P x)) → Decides (list_all f xs) ((x : X) → In x xs → P x)
every_decides f P xs d = ((λ t x m. (d x).0 (every_at f xs x t m)), λ h. every_from f xs (λ x m. (d x).1 (h x m)))

pub any_decides : {X : Type 0} (f : X → Bool) (P : X → Type 0) (xs : List X) → ((x : X) → Decides (f x) (P x)) → Decides (list_any f xs) ((x : X) × In x xs × P x)
any_decides f P xs d = ((λ t. let r = of_any f xs t in (r.0, r.1, (d r.0).0 r.2)), λ h. any_at f xs h.0 h.1 ((d h.0).1 h.2))

-- by the first place that passes

pub some_first : {X : Type 0} (test : X → Bool) (n : ℕ) (xs : List X) → is_some (position_from test n xs) ≡ list_any test xs
some_first test n [] = refl
some_first test n (x ∷ xs) = cond_both (test x) (Some n) (position_from test (n + 1) xs) (λ o. is_some o ≡ list_any test (x ∷ xs)) (λ e. sym (or_left (test x) _ e)) (λ e. some_first test (n + 1) xs ∙ ap (λ (t : Bool). t || list_any test xs) (sym e))

pub any_missed : {X : Type 0} (test : X → Bool) (n : ℕ) (xs : List X) → position_from test n xs ≡ None → list_any test xs ≡ false
any_missed test n xs e = sym (some_first test n xs) ∙ ap is_some e
