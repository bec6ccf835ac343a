-- Functions that agree on the members of a list give the same over the list.
use Rattle.std.proofs.Common.{◌≡◌, Bool, cond, ◌&&◌, ◌||◌, List, [], ◌∷◌, ◌++◌, fold, filter, Option, sym, refl, ap, ◌∙◌, ap₂, inl, inr}
use Rattle.std.specs.List.{list_all, list_any, flat_map}
use Rattle.qea.specs.Lists.{In, first_some}
use Rattle.std.specs.Option.{option_or}

-- of whatever goes over a list from its end, by what a function gives at each member
alike : {X Y Z : Type 0} (F : (X → Y) → List X → Z) (h : X → Y → Z → Z) → ((f g : X → Y) → F f [] ≡ F g []) → ((f : X → Y) (x : X) (xs : List X) → F f (x ∷ xs) ≡ h x (f x) (F f xs)) → (f g : X → Y) (xs : List X) → ((x : X) → In x xs → f x ≡ g x) → F f xs ≡ F g xs
alike F h none more f g [] e = none f g
alike F h none more f g (x ∷ xs) e = more f x xs ∙ ap₂ (h x) (e x (inl refl)) (alike F h none more f g xs (λ y m. e y (inr m))) ∙ sym (more g x xs)

module _ {X : Type 0} (f g : X → Bool) (xs : List X) (h : (x : X) → In x xs → f x ≡ g x) where
  pub every_alike : list_all f xs ≡ list_all g xs
  every_alike = alike list_all (λ _. ◌&&◌) (λ _ _. refl) (λ _ _ _. refl) f g xs h

  pub any_alike : list_any f xs ≡ list_any g xs
  any_alike = alike list_any (λ _. ◌||◌) (λ _ _. refl) (λ _ _ _. refl) f g xs h

  pub kept_by_alike : filter f xs ≡ filter g xs
  kept_by_alike = alike filter (λ x t r. cond t (x ∷ r) r) (λ _ _. refl) (λ _ _ _. refl) f g xs h

pub flat_map_alike : {X Y : Type 0} (f g : X → List Y) (xs : List X) → ((x : X) → In x xs → f x ≡ g x) → flat_map f xs ≡ flat_map g xs
flat_map_alike = alike flat_map (λ _. ◌++◌) (λ _ _. refl) (λ _ _ _. refl)

pub first_some_alike : {X Y : Type 0} (f g : X → Option Y) (xs : List X) → ((x : X) → In x xs → f x ≡ g x) → first_some f xs ≡ first_some g xs
first_some_alike = alike first_some (λ _. option_or) (λ _ _. refl) (λ _ _ _. refl)

pub folded_alike : {X Y : Type 0} (f g : Y → X → Y) (y : Y) (xs : List X) → ((x : X) → In x xs → (z : Y) → f z x ≡ g z x) → fold f y xs ≡ fold g y xs
folded_alike f g y [] h = refl
folded_alike f g y (x ∷ xs) h = ap (λ (z : _). fold f z xs) (h x (inl refl) y) ∙ folded_alike f g (g y x) xs (λ w m. h w (inr m))
