-- The number of a refusal is that of the first condition that applies, and what is granted keeps the limits.
use Rattle.std.proofs.Common.{◌≡◌, ℕ, zero, suc, ◌+◌, ◌≤◌, Bool, false, cond, List, [], ◌∷◌, ◌++◌, map, length, ℤ, is_some, Some, None, Option, sym, refl, ap, ◌∙◌, subst, ap₂, arith}
use Rattle.std.specs.List.{range_with_len, list_any, flat_map}
use Rattle.std.proofs.lemmas.Bool.{ltb-false, le-ltb}
use Rattle.qea.specs.declared.fault.Description.{Description}
use Rattle.qea.specs.Limits.{max_domain, max_configurations}
use Rattle.qea.specs.Lists.{first_some}
use Rattle.qea.specs.Events.{Event, bad_event_at}
use Rattle.qea.specs.Meaning.{Meaning}
use Rattle.qea.specs.Automaton.{Automaton}
use Rattle.qea.specs.Matching.{sights}
use Rattle.qea.specs.Domains.{domain, domains}
use Rattle.qea.specs.Bindings.{bindings, product}
use Rattle.qea.specs.Steps.{configurations}
use Rattle.qea.specs.WellFormed.{WellFormed}
use Rattle.qea.specs.Refusals.{overfull_at, store_full, out_of_range_at, list_full, at_zero, refused_at, GrantedAfter}
use Rattle.qea.specs.Laws.{number_of, RefusalConditions, Bounded, GrantedBounded}
use Rattle.qea.proofs.Members.{of_map, any_false, any_none}
use Rattle.qea.proofs.Granting.{some_zero, action_somewhere, Clear, clear, kept_along}
use Rattle.qea.proofs.Sighting.{big, Small, any_small, overfull_any, sights_quantified, domains_push}

number_at : (n : ℕ) (o : Option ℕ) (rest : Option Description) → number_of (refused_at n o rest) ≡ cond (is_some o) (Some n) (number_of rest)
number_at n None rest = refl
number_at n (Some i) rest = refl

-- what is granted keeps the limits

pub no_domains : (a : Automaton) (k n : ℕ) → product (map (domain a []) (range_with_len k n)) ≡ 1
no_domains a k zero = refl
no_domains a k (suc n) = let r = no_domains a (k + 1) n in omega arith

module _ (a : Automaton) (m : Meaning) (wf : WellFormed a m) (capacity : ℕ) where
  bounded_first : 1 ≤ capacity → Bounded a m capacity []
  bounded_first some = record {
    values = λ d i. let r = of_map (domain a []) d (range_with_len 0 (length a.quantifiers)) i in subst (λ (x : List ℤ). length x ≤ max_domain) (sym r.2) (omega arith);
    bindings = let none = no_domains a 0 (length a.quantifiers) in omega arith;
    lists = λ b i. omega arith;
  }

  small_domains : (h : List Event) → Bounded a m capacity h → Small (length a.quantifiers) (flat_map (sights a) h)
  small_domains h b = any_small (length a.quantifiers) (flat_map (sights a) h) (any_false big (domains a h) (λ d i. le-ltb max_domain (length d) (b.values d i)))

  full_any : (h : List Event) (e : Event) → Bounded a m capacity h → is_some (overfull_at (flat_map (sights a) h) (sights a e)) ≡ list_any big (domains a (h ++ e ∷ []))
  full_any h e b =
      overfull_any (length a.quantifiers) (flat_map (sights a) h) (sights a e) (sights_quantified a m wf e) (small_domains h b)
      ∙ ap (list_any big) (domains_push a h e)

  bounded_push : (h : List Event) (e : Event) → Bounded a m capacity h → Clear a m capacity h e → Bounded a m capacity (h ++ e ∷ [])
  bounded_push h e b c =
      let new = domains a (h ++ e ∷ []) in
      let small : list_any big new ≡ false = sym (full_any h e b) ∙ ap is_some c.values in
      record {
        values = λ d i. ltb-false max_domain (length d) (any_none big new d small i);
        bindings = ltb-false capacity (product new) c.store;
        lists = λ x i. ltb-false max_configurations (length (configurations a m x (h ++ e ∷ []))) (c.lists x i);
      }

pub granted_bounded : GrantedBounded
granted_bounded a m wf capacity some h g = kept_along (Bounded a m capacity) (GrantedAfter a m capacity) (λ x more e ok b. (bounded_push a m wf capacity x e b (clear a m capacity x e ok.0), ok.1)) [] h g (bounded_first a m wf capacity some)

pub refusal_conditions : RefusalConditions
refusal_conditions a m wf capacity some h e g =
    let new = domains a (h ++ e ∷ []) in
    number_at 9 (bad_event_at e.values) _
    ∙ ap (choose 9 (is_some (bad_event_at e.values)))
    (number_at 10 (overfull_at (flat_map (sights a) h) (sights a e)) _
    ∙ ap₂ (choose 10) (full_any a m wf capacity h e (granted_bounded a m wf capacity some h g))
    (number_at 11 (at_zero (store_full capacity new)) _
    ∙ ap₂ (choose 11) (some_zero (store_full capacity new))
    (number_at 12 (first_some (λ b. out_of_range_at a m e b (configurations a m b h)) (bindings new)) _
    ∙ ap₂ (choose 12) (action_somewhere a m h e new)
    (number_at 13 (at_zero (list_any (λ b. list_full (configurations a m b (h ++ e ∷ []))) (bindings new))) None
    ∙ ap (λ (t : Bool). choose 13 t None) (some_zero (list_any (λ b. list_full (configurations a m b (h ++ e ∷ []))) (bindings new)))))))
  where
    choose : ℕ → Bool → Option ℕ → Option ℕ
    choose n t o = cond t (Some n) o
