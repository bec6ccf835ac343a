-- A binding moves at the events of its slice; after one event more its list comes from the binding without its new values.
use Rattle.std.proofs.Common.{◌≡◌, Bool, true, false, cond, List, [], ◌∷◌, ◌++◌, length, ℤ, Some, None, fold, Option, sym, refl, ap, ◌∙◌, subst, ap₂, append-nil, arith}
use Rattle.std.proofs.lemmas.List.Elements.{filter-append}
use Rattle.std.proofs.lemmas.List.Sums.{fold_push}
use Rattle.std.proofs.lemmas.Bool.{cond_both}
use Rattle.std.specs.List.{list_any}
use Rattle.qea.specs.Lists.{In}
use Rattle.std.specs.Ordering.{int_eq}
use Rattle.qea.specs.Events.{Event}
use Rattle.qea.specs.Meaning.{Meaning}
use Rattle.qea.specs.Automaton.{Automaton}
use Rattle.qea.specs.Domains.{domains}
use Rattle.qea.specs.Bindings.{Binding, EntryOf, BindingOf, known, without_new}
use Rattle.qea.specs.Slices.{touched, slice}
use Rattle.qea.specs.Steps.{start, step, configurations}
use Rattle.qea.specs.Incremental.{next_list}
use Rattle.qea.specs.Laws.{MovesInSlice, GoesOnFromEarlier, EarlierKeepsOwn}
use Rattle.qea.proofs.Sameness.{same_is, same_self}
use Rattle.qea.proofs.Members.{any_at, of_any}
use Rattle.qea.proofs.Growth.{length_domains, binding_long}
use Rattle.qea.proofs.Late.{late_configurations}

slice_push : (a : Automaton) (b : Binding) (h : List Event) (e : Event) → slice a b (h ++ e ∷ []) ≡ slice a b h ++ cond (touched a b e) (e ∷ []) []
slice_push a b h e = filter-append (touched a b) h (e ∷ [])

-- a binding's list after one event more
pub moved : (a : Automaton) (m : Meaning) (b : Binding) (h : List Event) (e : Event) → configurations a m b (h ++ e ∷ []) ≡ next_list a m e b (configurations a m b h)
moved a m b h e = ap (fold (step a m b) (start a ∷ [])) (slice_push a b h e) ∙ go (touched a b e)
  where
    go : (t : Bool) → fold (step a m b) (start a ∷ []) (slice a b h ++ cond t (e ∷ []) []) ≡ cond t (step a m b (configurations a m b h) e) (configurations a m b h)
    go true = fold_push (step a m b) (start a ∷ []) (slice a b h) e
    go false = ap (fold (step a m b) (start a ∷ [])) (append-nil (slice a b h))

pub moves_in_slice : MovesInSlice
moves_in_slice a m b h e =
    let sliced : (t : Bool) → touched a b e ≡ t → slice a b (h ++ e ∷ []) ≡ slice a b h ++ cond t (e ∷ []) [] = λ t is. slice_push a b h e ∙ ap (λ (s : Bool). slice a b h ++ cond s (e ∷ []) []) is in
    let listed : (t : Bool) → touched a b e ≡ t → configurations a m b (h ++ e ∷ []) ≡ cond t (step a m b (configurations a m b h) e) (configurations a m b h) = λ t is. moved a m b h e ∙ ap (λ (s : Bool). cond s (step a m b (configurations a m b h) e) (configurations a m b h)) is in
    record { moves = λ t. (sliced true t, listed true t); stands = λ t. (sliced false t ∙ append-nil (slice a b h), listed false t) }

-- without its new values a binding is one of the domains that lack them

known_entry : (d : List ℤ) (o : Option ℤ) → EntryOf d (known d o)
known_entry d None = tt
known_entry d (Some v) =
    cond_both (list_any (λ w. int_eq w v) d) (Some v) None (EntryOf d) (λ e. let r = of_any (λ w. int_eq w v) d e in subst (λ (w : ℤ). In w d) (same_is r.0 v r.2) r.1) (λ _. tt)

without_new_binding : (ds : List (List ℤ)) (b : Binding) → length b ≡ length ds → BindingOf ds (without_new ds b)
without_new_binding [] b n = tt
without_new_binding (d ∷ ds) [] n = absurd (omega arith)
without_new_binding (d ∷ ds) (o ∷ b) n = (known_entry d o, without_new_binding ds b (omega arith))

pub goes_on_from_earlier : GoesOnFromEarlier
goes_on_from_earlier a m wf h e b i =
    let n = binding_long a (h ++ e ∷ []) b i in (
      without_new_binding (domains a h) b (n ∙ sym (length_domains a h)),
      moved a m b h e ∙ ap (next_list a m e b) (late_configurations a m wf h b n),
    )

known_own : (d : List ℤ) (o : Option ℤ) → EntryOf d o → known d o ≡ o
known_own d None i = refl
known_own d (Some v) i = ap (λ (t : Bool). cond t (Some v) None) (any_at (λ w. int_eq w v) d v i (same_self v))

without_new_own : (ds : List (List ℤ)) (b : Binding) → BindingOf ds b → without_new ds b ≡ b
without_new_own [] [] i = refl
without_new_own (d ∷ ds) (o ∷ b) i = ap₂ ◌∷◌ (known_own d o i.0) (without_new_own ds b i.1)
without_new_own ds b i = absurd i

pub earlier_keeps_own : EarlierKeepsOwn
earlier_keeps_own a h b i = without_new_own (domains a h) b i
