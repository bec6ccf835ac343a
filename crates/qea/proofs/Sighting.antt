-- Domains grown sight by sight, and where the first finds its domain full.
use Rattle.std.proofs.Common.{◌≡◌, ℕ, suc, ◌<◌, Bool, true, false, cond, ltb, List, [], ◌∷◌, ◌++◌, map, length, get_or, set, ℤ, is_some, Some, None, Ok, fold, sym, refl, ap, ◌∙◌, subst, inl, inr, ⊎_elim, append_assoc, append-nil, arith, length-append, length-set, get_or-set_other, get_or-set_same}
use Rattle.std.specs.List.{range_with_len, list_any, flat_map}
use Rattle.std.proofs.lemmas.List.FromFn.{length-map-range_with_len, get_or-map-range_with_len, fill_by_all}
use Rattle.std.proofs.lemmas.List.Folds.{list_any_at}
use Rattle.std.proofs.lemmas.List.Recursion.{or_from_places}
use Rattle.std.proofs.lemmas.Bool.{both_ways, false_from_ne_true, cond_both, eq-eqb, ne_eqb, lt-ltb, ltb-true, cases_eq}
use Rattle.qea.specs.declared.term.Term.{Term}
use Rattle.qea.specs.declared.term.Term.TheVariants.{Variable}
use Rattle.qea.specs.Limits.{max_domain}
use Rattle.qea.specs.Lists.{joined, In}
use Rattle.std.specs.Ordering.{int_eq}
use Rattle.qea.specs.Events.{Event}
use Rattle.qea.specs.Meaning.{Meaning}
use Rattle.qea.specs.Automaton.{Pattern, Automaton}
use Rattle.qea.specs.Matching.{meetings, met, matches, Sight, sight_at, sights_from, sights_through, sights}
use Rattle.qea.specs.Domains.{domain_of, domains}
use Rattle.qea.specs.WellFormed.{WellFormed}
use Rattle.qea.specs.Refusals.{overfull_at}
use Rattle.qea.specs.Incremental.{if_grown, grown_by}
use Rattle.qea.specs.Laws.{domains_or_position}
use Rattle.qea.proofs.Members.{in_append, of_flat_map}
use Rattle.std.proofs.lemmas.Grind.{flat_map-append}
use Rattle.qea.proofs.Growth.{domain_of_more, domain_of_extends}

-- each variable that is seen has a quantifier

sight_term : (i : ℕ) (ts : List Term) (vs : List ℤ) (s : Sight) → In s (sights_from i (meetings ts vs)) → In (Variable s.variable) ts
sight_term i [] vs s m = absurd m
sight_term i (t ∷ ts) [] s m = absurd m
sight_term i (t ∷ ts) (v ∷ vs) s m = ⊎_elim (λ k. inl (here t k)) (λ k. inr (sight_term (suc i) ts vs s k)) (in_append s (sight_at i t v) (sights_from (suc i) (meetings ts vs)) m)
  where
    here : (u : Term) → In s (sight_at i u v) → Variable s.variable ≡ u
    here (Variable j) (inl e) = ap (λ (x : Sight). Variable x.variable) e
    here (Variable j) (inr k) = absurd k
    here u k = absurd k

of_sights_through : (e : Event) (p : Pattern) (s : Sight) → In s (sights_through e p) → In (Variable s.variable) p.terms
of_sights_through e p s = cond_both (matches p e) (sights_from 0 (met p e)) [] (λ ss. In s ss → In (Variable s.variable) p.terms) (λ _ k. sight_term 0 p.terms e.values s k) (λ _ k. absurd k)

abbrev QuantifiedSights : ℕ → List Sight → Type 0
QuantifiedSights n ss = (s : Sight) → In s ss → s.variable < n

pub sights_quantified : (a : Automaton) (m : Meaning) → WellFormed a m → (e : Event) → QuantifiedSights (length a.quantifiers) (sights a e)
sights_quantified a m wf e s i =
    let r = of_flat_map (sights_through e) s a.patterns i in
    wf.patterns r.0 r.1 s.variable (of_sights_through e r.0 s r.2)

-- one sight

seen_own : (before : List Sight) (s : Sight) → domain_of s.variable (before ++ s ∷ []) ≡ joined int_eq (domain_of s.variable before) s.value
seen_own before s =
    domain_of_more s.variable before (s ∷ [])
    ∙ ap (λ (t : Bool). fold (joined int_eq) (domain_of s.variable before) (map (λ x. x.value) (cond t (s ∷ []) []))) (eq-eqb s.variable s.variable refl)

seen_other : (before : List Sight) (s : Sight) (k : ℕ) → (s.variable ≡ k → ⊥) → domain_of k (before ++ s ∷ []) ≡ domain_of k before
seen_other before s k n =
    domain_of_more k before (s ∷ [])
    ∙ ap (λ (t : Bool). fold (joined int_eq) (domain_of k before) (map (λ x. x.value) (cond t (s ∷ []) []))) (ne_eqb s.variable k n)

-- the domains of the first n variables
abbrev pub table : ℕ → List Sight → List (List ℤ)
table n ss = map (λ k. domain_of k ss) (range_with_len 0 n)

length_table : (n : ℕ) (ss : List Sight) → length (table n ss) ≡ n
length_table n ss = length-map-range_with_len (λ k. domain_of k ss) 0 n

table_at : (n k : ℕ) (ss : List Sight) → k < n → get_or (table n ss) k [] ≡ domain_of k ss
table_at n k ss l = get_or-map-range_with_len (λ j. domain_of j ss) 0 n k k [] l (omega arith)

table_seen : (n : ℕ) (before : List Sight) (s : Sight) → s.variable < n → set (table n before) s.variable (domain_of s.variable (before ++ s ∷ [])) ≡ table n (before ++ s ∷ [])
table_seen n before s l =
    let d = domain_of s.variable (before ++ s ∷ []) in
    fill_by_all (λ j. domain_of j (before ++ s ∷ [])) (set (table n before) s.variable d) n [] (length-set (table n before) s.variable d ∙ length_table n before)
    (λ k lk. ⊎_elim
    (λ e. subst (λ (j : ℕ). get_or (set (table n before) s.variable d) j [] ≡ domain_of j (before ++ s ∷ [])) e (get_or-set_same (table n before) s.variable d [] (omega (arith, length_table n before))))
    (λ ne. get_or-set_other (table n before) s.variable k d [] (λ e. ne (sym e)) ∙ table_at n k before lk ∙ sym (seen_other before s k ne))
    (cases_eq s.variable k))

-- all sights of an event

grown_table : (n : ℕ) (before ss : List Sight) → QuantifiedSights n ss → grown_by (table n before) ss ≡ domains_or_position (overfull_at before ss) (table n (before ++ ss))
grown_table n before [] q = ap (λ (x : List Sight). Ok (table n x)) (sym (append-nil before))
grown_table n before (s ∷ ss) q =
    ap (λ (d : List ℤ). if_grown (cond (ltb max_domain (length d)) None (Some d)) s.position (λ x. grown_by (set (table n before) s.variable x) ss))
    (ap (λ (d : List ℤ). joined int_eq d s.value) (table_at n s.variable before (q s (inl refl))) ∙ sym (seen_own before s))
    ∙ go (ltb max_domain (length (domain_of s.variable (before ++ s ∷ [])))) (grown_table n (before ++ s ∷ []) ss (λ x i. q x (inr i)))
  where
    go : (t : Bool) → grown_by (table n (before ++ s ∷ [])) ss ≡ domains_or_position (overfull_at (before ++ s ∷ []) ss) (table n ((before ++ s ∷ []) ++ ss)) →
        if_grown (cond t None (Some (domain_of s.variable (before ++ s ∷ [])))) s.position (λ x. grown_by (set (table n before) s.variable x) ss) ≡ domains_or_position (cond t (Some s.position) (overfull_at (before ++ s ∷ []) ss)) (table n (before ++ s ∷ ss))
    go true rest = refl
    go false rest =
        ap (λ (ds : List (List ℤ)). grown_by ds ss) (table_seen n before s (q s (inl refl)))
        ∙ rest
        ∙ ap (λ (x : List Sight). domains_or_position (overfull_at (before ++ s ∷ []) ss) (table n x)) (append_assoc before (s ∷ []) ss)

-- the domains after one event more
pub domains_push : (a : Automaton) (h : List Event) (e : Event) → table (length a.quantifiers) (flat_map (sights a) h ++ sights a e) ≡ domains a (h ++ e ∷ [])
domains_push a h e =
    ap (table (length a.quantifiers)) (ap (λ (x : List Sight). flat_map (sights a) h ++ x) (sym (append-nil (sights a e))) ∙ sym (flat_map-append (sights a) h (e ∷ [])))

pub grown_domains : (a : Automaton) (m : Meaning) → WellFormed a m → (h : List Event) (e : Event) → grown_by (domains a h) (sights a e) ≡ domains_or_position (overfull_at (flat_map (sights a) h) (sights a e)) (domains a (h ++ e ∷ []))
grown_domains a m wf h e =
    grown_table (length a.quantifiers) (flat_map (sights a) h) (sights a e) (sights_quantified a m wf e)
    ∙ ap (domains_or_position (overfull_at (flat_map (sights a) h) (sights a e))) (domains_push a h e)

-- a sight finds its domain full exactly if some domain passes the limit in the end

abbrev pub big : List ℤ → Bool
big d = ltb max_domain (length d)

abbrev pub Small : ℕ → List Sight → Type 0
Small n ss = (k : ℕ) → k < n → big (domain_of k ss) ≡ false

any_big : (n k : ℕ) (ss : List Sight) → k < n → big (domain_of k ss) ≡ true → list_any big (table n ss) ≡ true
any_big n k ss l t = list_any_at big (table n ss) k [] (omega (arith, length_table n ss)) (ap big (table_at n k ss l) ∙ t)

pub any_small : (n : ℕ) (ss : List Sight) → list_any big (table n ss) ≡ false → Small n ss
any_small n ss none k l = false_from_ne_true (big (domain_of k ss)) (λ t. both_ways (list_any big (table n ss)) none (any_big n k ss l t))

small_any : (n : ℕ) (ss : List Sight) → Small n ss → list_any big (table n ss) ≡ false
small_any n ss small = or_from_places (list_any big) big refl (λ _ _. refl) (table n ss) [] (λ k l. let lk : k < n = omega (arith, length_table n ss) in ap big (table_at n k ss lk) ∙ small k lk)

big_stays : (k : ℕ) (before ss : List Sight) → big (domain_of k before) ≡ true → big (domain_of k (before ++ ss)) ≡ true
big_stays k before ss t =
    let r = domain_of_extends k before ss in
    lt-ltb max_domain (length (domain_of k (before ++ ss))) (omega (arith, ltb-true max_domain (length (domain_of k before)) t, ap length r.1, length-append (domain_of k before) r.0))

small_seen : (n : ℕ) (before : List Sight) (s : Sight) → Small n before → big (domain_of s.variable (before ++ s ∷ [])) ≡ false → Small n (before ++ s ∷ [])
small_seen n before s small here k l = ⊎_elim (λ e. subst (λ (j : ℕ). big (domain_of j (before ++ s ∷ [])) ≡ false) e here) (λ ne. ap big (seen_other before s k ne) ∙ small k l) (cases_eq s.variable k)

pub overfull_any : (n : ℕ) (before ss : List Sight) → QuantifiedSights n ss → Small n before → is_some (overfull_at before ss) ≡ list_any big (table n (before ++ ss))
overfull_any n before [] q small = sym (ap (λ (x : List Sight). list_any big (table n x)) (append-nil before) ∙ small_any n before small)
overfull_any n before (s ∷ ss) q small = go (big (domain_of s.variable (before ++ s ∷ []))) refl (λ x. overfull_any n (before ++ s ∷ []) ss (λ y i. q y (inr i)) x)
  where
    join : list_any big (table n ((before ++ s ∷ []) ++ ss)) ≡ list_any big (table n (before ++ s ∷ ss))
    join = ap (λ (x : List Sight). list_any big (table n x)) (append_assoc before (s ∷ []) ss)

    go : (t : Bool) → big (domain_of s.variable (before ++ s ∷ [])) ≡ t → (Small n (before ++ s ∷ []) → is_some (overfull_at (before ++ s ∷ []) ss) ≡ list_any big (table n ((before ++ s ∷ []) ++ ss))) →
        is_some (cond t (Some s.position) (overfull_at (before ++ s ∷ []) ss)) ≡ list_any big (table n (before ++ s ∷ ss))
    go true e rest =
        sym (sym join ∙ any_big n s.variable ((before ++ s ∷ []) ++ ss) (q s (inl refl)) (big_stays s.variable (before ++ s ∷ []) ss e))
    go false e rest = rest (small_seen n before s small e) ∙ join
