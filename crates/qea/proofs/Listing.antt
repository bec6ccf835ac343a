-- The listings of the bindings and of the total ones: how long the first is and what stands where, and what the second has.
use Rattle.std.proofs.Common.{◌≡◌, ℕ, zero, suc, ◌+◌, ◌*◌, ◌/◌, ◌%◌, ◌<◌, List, [], ◌∷◌, map, length, get_or, take, ℤ, Some, None, Option, sym, refl, ap, ◌∙◌, subst, ap₂, inl, inr, arith, length-append}
use Rattle.std.specs.List.{flat_map}
use Rattle.std.proofs.lemmas.List.{length-map, length-take-le, get_or-map}
use Rattle.std.proofs.lemmas.List.Concat.{get_or-flat_map}
use Rattle.std.proofs.lemmas.Option.{none-some, same_Some}
use Rattle.std.proofs.lemmas.Nat.{div_below, mod_below, div-add-mod'}
use Rattle.qea.specs.Lists.{In}
use Rattle.qea.specs.Bindings.{Binding, EntryOf, BindingOf, TotalOf, entries, bindings, total_bindings, product, entry_at, binding_at}
use Rattle.qea.proofs.Members.{in_map, of_map, in_flat_map, of_flat_map}

-- all bindings, in the order of their numbers

length_flat_map : {X Y : Type 0} (f : X → List Y) (n : ℕ) (xs : List X) → ((x : X) → length (f x) ≡ n) → length (flat_map f xs) ≡ length xs * n
length_flat_map f n [] h = omega arith
length_flat_map f n (x ∷ xs) h = length-append (f x) (flat_map f xs) ∙ ap₂ ◌+◌ (h x) (length_flat_map f n xs h) ∙ omega arith

-- each of the later variables' bindings comes with every entry of the first variable
abbrev block : List ℤ → Binding → List Binding
block d rest = map (λ o. o ∷ rest) (entries d)

length_block : (d : List ℤ) (rest : Binding) → length (block d rest) ≡ suc (length d)
length_block d rest = length-map (entries d) (λ o. o ∷ rest) ∙ ap suc (length-map d Some)

pub length_bindings : (ds : List (List ℤ)) → length (bindings ds) ≡ product ds
length_bindings [] = refl
length_bindings (d ∷ ds) = length_flat_map (block d) (suc (length d)) (bindings ds) (length_block d) ∙ ap (λ (k : ℕ). k * suc (length d)) (length_bindings ds) ∙ omega arith

entries_at : (d : List ℤ) (i : ℕ) → get_or (entries d) i None ≡ entry_at d i
entries_at d zero = refl
entries_at [] (suc i) = refl
entries_at (v ∷ d) (suc zero) = refl
entries_at (v ∷ d) (suc (suc i)) = entries_at d (suc i)

pub listed_at : (ds : List (List ℤ)) (n : ℕ) → n < product ds → get_or (bindings ds) n [] ≡ binding_at ds n
listed_at [] zero l = refl
listed_at [] (suc n) l = refl
listed_at (d ∷ ds) n l =
    let w = suc (length d) in
    let i = n / w in
    let j = n % w in
    let many = length_bindings ds in
    let below : i < product ds = div_below n w (product ds) (omega arith) (omega arith) in
    let inside : j < w = mod_below n w (omega arith) in
    let front : length (flat_map (block d) (take i (bindings ds))) ≡ i * w = length_flat_map (block d) w (take i (bindings ds)) (length_block d) ∙ ap (λ (k : ℕ). k * w) (length-take-le i (bindings ds) (omega arith)) in
    ap (λ (k : ℕ). get_or (bindings (d ∷ ds)) k []) (sym (div-add-mod' n w) ∙ ap (λ (k : ℕ). k + j) (sym front))
    ∙ get_or-flat_map (block d) (bindings ds) i j [] [] (omega arith) (omega (arith, length_block d (get_or (bindings ds) i [])))
    ∙ get_or-map (λ o. o ∷ get_or (bindings ds) i []) (entries d) j None [] (omega (arith, length-map d Some))
    ∙ ap₂ ◌∷◌ (entries_at d j) (listed_at ds i below)

-- each listed one gives each variable nothing or a value of its domain

of_entries : (d : List ℤ) (o : Option ℤ) → In o (entries d) → EntryOf d o
of_entries d None m = tt
of_entries d (Some v) (inl e) = absurd (none-some v (sym e))
of_entries d (Some v) (inr m) = let r = of_map Some (Some v) d m in subst (λ (w : ℤ). In w d) (sym (same_Some v r.0 r.2)) r.1

pub of_bindings : (ds : List (List ℤ)) (b : Binding) → In b (bindings ds) → BindingOf ds b
of_bindings [] b (inl e) = subst (BindingOf []) (sym e) tt
of_bindings [] b (inr m) = absurd m
of_bindings (d ∷ ds) b m =
    let r = of_flat_map (block d) b (bindings ds) m in
    let s = of_map (λ o. o ∷ r.0) b (entries d) r.2 in
    subst (BindingOf (d ∷ ds)) (sym s.2) (of_entries d s.0 s.1, of_bindings ds r.0 r.1)

-- the total ones

pub in_totals : (ds : List (List ℤ)) (b : Binding) → TotalOf ds b → In b (total_bindings ds)
in_totals [] [] m = inl refl
in_totals (d ∷ ds) (Some v ∷ b) m = in_flat_map (λ rest. map (λ w. Some w ∷ rest) d) b (Some v ∷ b) (total_bindings ds) (in_totals ds b m.1) (in_map (λ w. Some w ∷ b) v d m.0)
in_totals ds b m = absurd m

pub of_totals : (ds : List (List ℤ)) (b : Binding) → In b (total_bindings ds) → TotalOf ds b
of_totals [] b (inl e) = subst (TotalOf []) (sym e) tt
of_totals [] b (inr m) = absurd m
of_totals (d ∷ ds) b m =
    let r = of_flat_map (λ rest. map (λ w. Some w ∷ rest) d) b (total_bindings ds) m in
    let s = of_map (λ w. Some w ∷ r.0) b d r.2 in
    subst (TotalOf (d ∷ ds)) (sym s.2) (s.1, of_totals ds r.0 r.1)
