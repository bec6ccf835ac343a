-- Domains only grow, and a binding of them stays one.
use Rattle.std.proofs.Common.{◌≡◌, ℕ, zero, suc, ◌+◌, ◌<◌, eqb, List, [], ◌∷◌, ◌++◌, map, length, get_or, ℤ, Some, None, fold, filter, Option, sym, refl, ap, ◌∙◌, subst, append_assoc, append-nil, arith}
use Rattle.std.specs.List.{range_with_len, list_any, flat_map}
use Rattle.std.proofs.lemmas.List.FromFn.{length-map-range_with_len, get_or-map-range_with_len}
use Rattle.std.proofs.lemmas.List.Elements.{filter-append}
use Rattle.std.proofs.lemmas.List.{map-append}
use Rattle.std.proofs.lemmas.Bool.{cond_both}
use Rattle.qea.specs.Lists.{joined, In}
use Rattle.std.specs.Ordering.{int_eq}
use Rattle.qea.specs.Events.{Event}
use Rattle.qea.specs.Automaton.{Automaton}
use Rattle.qea.specs.Matching.{Sight, sights}
use Rattle.qea.specs.Domains.{met_by, domain_of, domain, domains}
use Rattle.qea.specs.Bindings.{Binding, EntryOf, BindingOf, TotalOf}
use Rattle.qea.specs.Laws.{DomainsGrow, DomainsApart}
use Rattle.qea.proofs.Sameness.{same_self}
use Rattle.qea.proofs.Members.{in_left}
use Rattle.std.proofs.lemmas.List.Sums.{fold-append}
use Rattle.std.proofs.lemmas.Grind.{flat_map-append}
use Rattle.qea.proofs.Firsts.{firsts_distinct}

-- one domain

met_by_append : (k : ℕ) (ss ts : List Sight) → met_by k (ss ++ ts) ≡ met_by k ss ++ met_by k ts
met_by_append k ss ts = ap (map (λ (s : Sight). s.value)) (filter-append (λ s. eqb s.variable k) ss ts) ∙ map-append (λ s. s.value) (filter (λ s. eqb s.variable k) ss) (filter (λ s. eqb s.variable k) ts)

-- later sights go on from the domain
pub domain_of_more : (k : ℕ) (ss ts : List Sight) → domain_of k (ss ++ ts) ≡ fold (joined int_eq) (domain_of k ss) (met_by k ts)
domain_of_more k ss ts = ap (fold (joined int_eq) []) (met_by_append k ss ts) ∙ fold-append (joined int_eq) [] (met_by k ss) (met_by k ts)

joined_more : (d : List ℤ) (v : ℤ) → (new : List ℤ) × (joined int_eq d v ≡ d ++ new)
joined_more d v = cond_both (list_any (λ w. int_eq w v) d) d (d ++ v ∷ []) (λ x. (new : List ℤ) × (x ≡ d ++ new)) (λ _. ([], sym (append-nil d))) (λ _. (v ∷ [], refl))

folded_more : (d vs : List ℤ) → (new : List ℤ) × (fold (joined int_eq) d vs ≡ d ++ new)
folded_more d [] = ([], sym (append-nil d))
folded_more d (v ∷ vs) =
    let r = joined_more d v in
    let s = folded_more (joined int_eq d v) vs in
    (r.0 ++ s.0, s.1 ∙ ap (λ (x : List ℤ). x ++ s.0) r.1 ∙ append_assoc d r.0 s.0)

pub domain_of_extends : (k : ℕ) (ss ts : List Sight) → (new : List ℤ) × (domain_of k (ss ++ ts) ≡ domain_of k ss ++ new)
domain_of_extends k ss ts =
    let r = folded_more (domain_of k ss) (met_by k ts) in
    (r.0, domain_of_more k ss ts ∙ r.1)

domain_extends : (a : Automaton) (h more : List Event) (k : ℕ) → (new : List ℤ) × (domain a (h ++ more) k ≡ domain a h k ++ new)
domain_extends a h more k =
    let r = domain_of_extends k (flat_map (sights a) h) (flat_map (sights a) more) in
    (r.0, ap (domain_of k) (flat_map-append (sights a) h more) ∙ r.1)

domain_grows : (a : Automaton) (h more : List Event) (k : ℕ) (v : ℤ) → In v (domain a h k) → In v (domain a (h ++ more) k)
domain_grows a h more k v m =
    let r = domain_extends a h more k in
    subst (λ (d : List ℤ). In v d) (sym r.1) (in_left v (domain a h k) r.0 m)

pub domains_apart : DomainsApart
domains_apart a h k = firsts_distinct int_eq same_self (met_by k (flat_map (sights a) h))

-- all domains

pub length_domains : (a : Automaton) (h : List Event) → length (domains a h) ≡ length a.quantifiers
length_domains a h = length-map-range_with_len (domain a h) 0 (length a.quantifiers)

pub domains_at : (a : Automaton) (h : List Event) (k : ℕ) → k < length a.quantifiers → get_or (domains a h) k [] ≡ domain a h k
domains_at a h k l = get_or-map-range_with_len (domain a h) 0 (length a.quantifiers) k k [] l (omega arith)

-- bindings

entry_grows : (a : Automaton) (h more : List Event) (k : ℕ) (o : Option ℤ) → EntryOf (domain a h k) o → EntryOf (domain a (h ++ more) k) o
entry_grows a h more k None m = tt
entry_grows a h more k (Some v) m = domain_grows a h more k v m

binding_from : (a : Automaton) (h more : List Event) (k n : ℕ) (b : Binding) → BindingOf (map (domain a h) (range_with_len k n)) b → BindingOf (map (domain a (h ++ more)) (range_with_len k n)) b
binding_from a h more k zero [] m = tt
binding_from a h more k (suc n) (o ∷ b) m = (entry_grows a h more k o m.0, binding_from a h more (k + 1) n b m.1)
binding_from a h more k n b m = absurd m

pub binding_grows : (a : Automaton) (h more : List Event) (b : Binding) → BindingOf (domains a h) b → BindingOf (domains a (h ++ more)) b
binding_grows a h more b m = binding_from a h more 0 (length a.quantifiers) b m

total_from : (a : Automaton) (h more : List Event) (k n : ℕ) (b : Binding) → TotalOf (map (domain a h) (range_with_len k n)) b → TotalOf (map (domain a (h ++ more)) (range_with_len k n)) b
total_from a h more k zero [] m = tt
total_from a h more k (suc n) (Some v ∷ b) m = (domain_grows a h more k v m.0, total_from a h more (k + 1) n b m.1)
total_from a h more k n b m = absurd m

pub total_grows : (a : Automaton) (h more : List Event) (b : Binding) → TotalOf (domains a h) b → TotalOf (domains a (h ++ more)) b
total_grows a h more b m = total_from a h more 0 (length a.quantifiers) b m

pub total_binding : (ds : List (List ℤ)) (b : Binding) → TotalOf ds b → BindingOf ds b
total_binding [] [] m = tt
total_binding (d ∷ ds) (Some v ∷ b) m = (m.0, total_binding ds b m.1)
total_binding ds b m = absurd m

length_binding : (ds : List (List ℤ)) (b : Binding) → BindingOf ds b → length b ≡ length ds
length_binding [] [] m = refl
length_binding (d ∷ ds) (o ∷ b) m = ap suc (length_binding ds b m.1)
length_binding ds b m = absurd m

pub binding_long : (a : Automaton) (h : List Event) (b : Binding) → BindingOf (domains a h) b → length b ≡ length a.quantifiers
binding_long a h b m = length_binding (domains a h) b m ∙ length_domains a h

pub domains_grow : DomainsGrow
domains_grow a h more = (domain_extends a h more, binding_grows a h more)
