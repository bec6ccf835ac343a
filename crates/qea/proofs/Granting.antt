-- What it tells that an event is granted: nothing of 9 to 13 applies.
use Rattle.std.proofs.Common.{◌≡◌, ℕ, Bool, true, false, ◌||◌, List, [], ◌∷◌, ◌++◌, ℤ, is_some, Some, None, Option, sym, refl, ap, ◌∙◌, subst, append_assoc, append-nil}
use Rattle.std.specs.List.{slice_get, list_any, flat_map}
use Rattle.qea.specs.declared.configuration.Configuration.{Configuration}
use Rattle.qea.specs.declared.fault.Description.{Description}
use Rattle.qea.specs.Lists.{first_some, In}
use Rattle.std.specs.Option.{option_or, is_none}
use Rattle.qea.specs.Events.{Event, bad_event_at}
use Rattle.qea.specs.Meaning.{Meaning}
use Rattle.qea.specs.Automaton.{Automaton}
use Rattle.qea.specs.Matching.{sights}
use Rattle.qea.specs.Domains.{domains}
use Rattle.qea.specs.Bindings.{Binding, BindingOf, bindings}
use Rattle.qea.specs.Steps.{tries, outcomes, configurations}
use Rattle.qea.specs.Refusals.{overfull_at, store_full, out_of_range_at, list_full, at_zero, refused_at, refusal}
use Rattle.std.proofs.lemmas.List.Folds.{list_any-append}
use Rattle.qea.proofs.Members.{any_none, some_first}
use Rattle.qea.proofs.Congruences.{any_alike}
use Rattle.std.proofs.lemmas.Option.{none-some}
use Rattle.qea.proofs.Numbering.{in_bindings}

pub any_flat_map : {X Y : Type 0} (f : Y → Bool) (g : X → List Y) (xs : List X) → list_any f (flat_map g xs) ≡ list_any (λ x. list_any f (g x)) xs
any_flat_map f g [] = refl
any_flat_map f g (x ∷ xs) = list_any-append f (g x) (flat_map g xs) ∙ ap (λ (t : Bool). list_any f (g x) || t) (any_flat_map f g xs)

-- a place is told exactly if the condition applies

some_or : {X : Type 0} (o r : Option X) → is_some (option_or o r) ≡ (is_some o || is_some r)
some_or None r = refl
some_or (Some x) r = refl

pub some_some : {X Y : Type 0} (f : X → Option Y) (xs : List X) → is_some (first_some f xs) ≡ list_any (λ x. is_some (f x)) xs
some_some f [] = refl
some_some f (x ∷ xs) = some_or (f x) (first_some f xs) ∙ ap (λ (t : Bool). is_some (f x) || t) (some_some f xs)

pub some_zero : (t : Bool) → is_some (at_zero t) ≡ t
some_zero true = refl
some_zero false = refl

pub action_somewhere : (a : Automaton) (m : Meaning) (h : List Event) (e : Event) (ds : List (List ℤ)) → is_some (first_some (λ b. out_of_range_at a m e b (configurations a m b h)) (bindings ds)) ≡ list_any (λ b. list_any (λ g. list_any is_none (outcomes a m b e g)) (configurations a m b h)) (bindings ds)
action_somewhere a m h e ds =
    some_some _ (bindings ds)
    ∙ any_alike _ _ (bindings ds) (λ b _.
    some_some _ (configurations a m b h)
    ∙ any_alike _ _ (configurations a m b h) (λ g _.
    some_first (λ t. list_any is_none (tries m b e g t (slice_get a.patterns t.pattern))) 0 a.transitions
    ∙ sym (any_flat_map is_none (λ t. tries m b e g t (slice_get a.patterns t.pattern)) a.transitions)))

not_refused : (n : ℕ) (o : Option ℕ) (rest : Option Description) → refused_at n o rest ≡ None → (o ≡ None) × (rest ≡ None)
not_refused n None rest e = (refl, e)
not_refused n (Some place) rest e = absurd (none-some _ (sym e))

-- what an event keeps, by what is left of its list, the list keeps
pub kept_along : (P : List Event → Type 0) (G : List Event → List Event → Type 0) → ((h more : List Event) (e : Event) → G h (e ∷ more) → P h → P (h ++ e ∷ []) × G (h ++ e ∷ []) more) → (h more : List Event) → G h more → P h → P (h ++ more)
kept_along P G next h [] g p = subst P (sym (append-nil h)) p
kept_along P G next h (e ∷ more) g p = let r = next h more e g p in subst P (append_assoc h (e ∷ []) more) (kept_along P G next (h ++ e ∷ []) more r.1 r.0)

-- No action is out of range in a configuration.
abbrev pub InRange : Automaton → Meaning → Binding → Event → Configuration → Type 0
InRange a m b e g = list_any is_none (outcomes a m b e g) ≡ false

-- what each of 10 to 13 says where it does not apply
pub record Clear (a : Automaton) (m : Meaning) (capacity : ℕ) (h : List Event) (e : Event) : Type 0 where
  pub values : overfull_at (flat_map (sights a) h) (sights a e) ≡ None
  pub store : store_full capacity (domains a (h ++ e ∷ [])) ≡ false
  pub actions : (b : Binding) → BindingOf (domains a (h ++ e ∷ [])) b → (g : Configuration) → In g (configurations a m b h) → InRange a m b e g
  pub lists : (b : Binding) → BindingOf (domains a (h ++ e ∷ [])) b → list_full (configurations a m b (h ++ e ∷ [])) ≡ false

pub clear : (a : Automaton) (m : Meaning) (capacity : ℕ) (h : List Event) (e : Event) → refusal a m capacity h e ≡ None → Clear a m capacity h e
clear a m capacity h e ok =
    let new = domains a (h ++ e ∷ []) in
    let over : Binding → Bool = λ b. list_full (configurations a m b (h ++ e ∷ [])) in
    let p9 = not_refused 9 (bad_event_at e.values) _ ok in
    let p10 = not_refused 10 (overfull_at (flat_map (sights a) h) (sights a e)) _ p9.1 in
    let p11 = not_refused 11 (at_zero (store_full capacity new)) _ p10.1 in
    let p12 = not_refused 12 (first_some (λ b. out_of_range_at a m e b (configurations a m b h)) (bindings new)) _ p11.1 in
    let p13 = not_refused 13 (at_zero (list_any over (bindings new))) None p12.1 in
    record {
      values = p10.0;
      store = sym (some_zero (store_full capacity new)) ∙ ap is_some p11.0;
      actions = λ b i g k.
          any_none (λ c. list_any is_none (outcomes a m b e c)) (configurations a m b h) g
          (any_none (λ c. list_any (λ f. list_any is_none (outcomes a m c e f)) (configurations a m c h)) (bindings new) b (sym (action_somewhere a m h e new) ∙ ap is_some p12.0) (in_bindings new b i)) k;
      lists = λ b i. any_none over (bindings new) b (sym (some_zero (list_any over (bindings new))) ∙ ap is_some p13.0) (in_bindings new b i);
    }
