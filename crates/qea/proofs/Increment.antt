-- One event more, from the domains and the map alone, comes to what all events define.
use Rattle.std.proofs.Common.{◌≡◌, ℕ, Bool, true, cond, ◌&&◌, ◌||◌, List, [], ◌∷◌, ◌++◌, length, ℤ, Some, None, filter, Option, sym, refl, ap, ◌∙◌, ap₂, append_assoc, append-nil, arith}
use Rattle.qea.specs.declared.automaton.Kind.{Kind}
use Rattle.qea.specs.declared.automaton.Kind.TheVariants.{ForAll, Exists}
use Rattle.qea.specs.declared.automaton.Quantifier.{Quantifier}
use Rattle.qea.specs.declared.configuration.Configuration.{Configuration}
use Rattle.std.specs.List.{list_all, list_any, flat_map}
use Rattle.qea.specs.Lists.{first_some, In}
use Rattle.qea.specs.Events.{Event, bad_event_at}
use Rattle.qea.specs.Meaning.{Meaning}
use Rattle.qea.specs.Automaton.{Automaton}
use Rattle.qea.specs.Matching.{sights}
use Rattle.qea.specs.Domains.{domains}
use Rattle.qea.specs.Bindings.{Binding, BindingOf, TotalOf, bindings, total_bindings, without_new}
use Rattle.qea.specs.Steps.{configurations}
use Rattle.qea.specs.WellFormed.{WellFormed}
use Rattle.qea.specs.Verdicts.{accepts, passes, quantified, judged}
use Rattle.qea.specs.Endings.{lost_binding, won_binding, all_are}
use Rattle.qea.specs.Refusals.{overfull_at, store_full, out_of_range_at, list_full, at_zero, refused_at, refusal}
use Rattle.qea.specs.Stored.{Held, Holds}
use Rattle.qea.specs.Incremental.{next_list, next_lists, list_or_empty, lists_in, NextHeld, refusal_grown, refusal_from, verdict_from}
use Rattle.qea.specs.Laws.{BeginsAtStart, domains_or_position, OneEventMore}
use Rattle.qea.proofs.Members.{of_kept_by}
use Rattle.qea.proofs.Congruences.{every_alike, any_alike, kept_by_alike, first_some_alike}
use Rattle.qea.proofs.Growth.{length_domains, total_binding, binding_long}
use Rattle.qea.proofs.Late.{late_configurations}
use Rattle.qea.proofs.Moving.{goes_on_from_earlier}
use Rattle.qea.proofs.Listing.{of_totals}
use Rattle.qea.proofs.Numbering.{of_domain_bindings}
use Rattle.qea.proofs.Sighting.{grown_domains}
use Rattle.qea.proofs.Refusing.{no_domains}

-- the quantifiers ask about total bindings only

quantified_alike : (k : Kind) (pass f g : ℤ → Bool) (d : List ℤ) → ((v : ℤ) → In v d → f v ≡ g v) → quantified k pass f d ≡ quantified k pass g d
quantified_alike ForAll pass f g d h = every_alike _ _ d (λ v i. ap (λ (t : Bool). cond (pass v) t true) (h v i))
quantified_alike Exists pass f g d h = any_alike _ _ d (λ v i. ap (λ (t : Bool). pass v && t) (h v i))

judged_alike : (m : Meaning) (f g : Binding → Bool) (qs : List Quantifier) (ds : List (List ℤ)) (pre : Binding) → length qs ≡ length ds → ((b : Binding) → TotalOf ds b → f (pre ++ b) ≡ g (pre ++ b)) → judged m f qs ds pre ≡ judged m g qs ds pre
judged_alike m f g [] [] pre n h = ap f (sym (append-nil pre)) ∙ h [] tt ∙ ap g (append-nil pre)
judged_alike m f g (q ∷ qs) (d ∷ ds) pre n h =
    quantified_alike q.kind _ _ _ d
    (λ v i. judged_alike m f g qs ds (pre ++ Some v ∷ []) (omega arith)
    (λ b t. ap f (append_assoc pre (Some v ∷ []) b) ∙ h (Some v ∷ b) (i, t) ∙ sym (ap g (append_assoc pre (Some v ∷ []) b))))
judged_alike m f g qs ds pre n h = absurd (omega arith)

-- the verdict asks for the lists of total bindings only
verdict_alike : (a : Automaton) (m : Meaning) (ds : List (List ℤ)) (f g : Binding → List Configuration) → length a.quantifiers ≡ length ds → ((b : Binding) → BindingOf ds b → f b ≡ g b) → verdict_from a m ds f ≡ verdict_from a m ds g
verdict_alike a m ds f g n h =
    let passing = filter (λ b. list_all (λ q. passes m q b) a.quantifiers) (total_bindings ds) in
    let at : (b : Binding) → In b (total_bindings ds) → f b ≡ g b = λ b i. h b (total_binding ds b (of_totals ds b i)) in
    let p : (b : Binding) → In b passing → f b ≡ g b = λ b i. at b (of_kept_by (λ x. list_all (λ q. passes m q x) a.quantifiers) b (total_bindings ds) i).0 in
    let accepting = judged_alike m (λ b. accepts a (f b)) (λ b. accepts a (g b)) a.quantifiers ds [] n (λ b t. ap (accepts a) (h b (total_binding ds b t))) in
    let lost = any_alike (λ b. lost_binding a (f b)) (λ b. lost_binding a (g b)) passing (λ b i. ap (lost_binding a) (p b i)) in
    let won = any_alike (λ b. won_binding a (f b)) (λ b. won_binding a (g b)) passing (λ b i. ap (won_binding a) (p b i)) in
    let many = ap (λ (bs : List Binding). length bs) (kept_by_alike (λ b. accepts a (f b)) (λ b. accepts a (g b)) (total_bindings ds) (λ b i. ap (accepts a) (at b i))) in
    λ i. record {
      accepts = accepting i;
      for_good = all_are ForAll a.quantifiers && lost i || all_are Exists a.quantifiers && won i;
      count = many i;
    }

module _ (a : Automaton) (m : Meaning) (wf : WellFormed a m) (h : List Event) (before : Held) (holds : Holds a m h before) where
  -- the map has the list of each binding of the domains
  list_held : (b : Binding) → BindingOf (domains a h) b → lists_in before b ≡ configurations a m b h
  list_held b i = ap list_or_empty (holds.all b i)

  module _ (e : Event) where
    -- before the event, of the binding without its new values
    list_before : (b : Binding) → BindingOf (domains a (h ++ e ∷ [])) b → lists_in before (without_new (domains a h) b) ≡ configurations a m b h
    list_before b i =
        list_held (without_new (domains a h) b) (goes_on_from_earlier a m wf h e b i).0
        ∙ sym (late_configurations a m wf h b (binding_long a (h ++ e ∷ []) b i))

    list_after : (b : Binding) → BindingOf (domains a (h ++ e ∷ [])) b → next_lists a m e (domains a h) (lists_in before) b ≡ configurations a m b (h ++ e ∷ [])
    list_after b i =
        let r = goes_on_from_earlier a m wf h e b i in
        ap (next_list a m e b) (list_held (without_new (domains a h) b) r.0) ∙ sym r.1

    held_after : (after : Held) → NextHeld a m e (domains a h) (domains a (h ++ e ∷ [])) before after → Holds a m (h ++ e ∷ []) after
    held_after after k = record { all = λ b i. k.all b i ∙ ap Some (list_after b i); no_more = k.no_more }

    refused_from : (capacity : ℕ) → refusal_from a m capacity (domains a h) (lists_in before) e ≡ refusal a m capacity h e
    refused_from capacity =
        ap (refused_at 9 (bad_event_at e.values))
        (ap (refusal_grown a m capacity (domains a h) (lists_in before) e) (grown_domains a m wf h e)
        ∙ go (overfull_at (flat_map (sights a) h) (sights a e)))
      where
        go : (o : Option ℕ) → refusal_grown a m capacity (domains a h) (lists_in before) e (domains_or_position o (domains a (h ++ e ∷ []))) ≡
            refused_at 10 o (
            refused_at 11 (at_zero (store_full capacity (domains a (h ++ e ∷ [])))) (
            refused_at 12 (first_some (λ b. out_of_range_at a m e b (configurations a m b h)) (bindings (domains a (h ++ e ∷ [])))) (
            refused_at 13 (at_zero (list_any (λ b. list_full (configurations a m b (h ++ e ∷ []))) (bindings (domains a (h ++ e ∷ []))))) None)))
        go (Some position) = refl
        go None =
            ap₂ (λ (place : Option ℕ) (full : Bool). refused_at 11 (at_zero (store_full capacity (domains a (h ++ e ∷ [])))) (refused_at 12 place (refused_at 13 (at_zero full) None)))
            (first_some_alike _ _ (bindings (domains a (h ++ e ∷ []))) (λ b i. ap (out_of_range_at a m e b) (list_before b (of_domain_bindings a (h ++ e ∷ []) b i))))
            (any_alike _ _ (bindings (domains a (h ++ e ∷ []))) (λ b i. ap list_full (list_after b (of_domain_bindings a (h ++ e ∷ []) b i))))

pub begins_at_start : BeginsAtStart
begins_at_start a m = record { empty = λ k. refl; one = no_domains a 0 (length a.quantifiers); lists = λ b. refl }

pub one_event_more : OneEventMore
one_event_more a m wf capacity h e before holds = record {
  grown = grown_domains a m wf h e;
  held = held_after a m wf h before holds e;
  refused = refused_from a m wf h before holds e capacity;
  told = verdict_alike a m (domains a h) (lists_in before) (λ b. configurations a m b h) (sym (length_domains a h)) (list_held a m wf h before holds);
}
