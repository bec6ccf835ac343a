-- A binding with values that its domains still lack has lived as the one that gives nothing there.
use Rattle.std.proofs.Common.{◌≡◌, ℕ, zero, suc, ◌+◌, ◌<◌, ◌≤◌, Bool, true, false, cond, ◌&&◌, eqb, ◌⊎◌, List, [], ◌∷◌, length, get_or, ℤ, Some, None, fold, Option, sym, refl, ap, ◌∙◌, subst, ap₂, inl, inr, ⊎_elim, arith}
use Rattle.std.proofs.lemmas.List.{drop-set-add, get_or_past}
use Rattle.std.specs.List.{slice_get, list_any, flat_map}
use Rattle.std.proofs.lemmas.Bool.{eqb-true, eq-eqb, false≢true, true≢false, and_parts, both_ways, cases_lt, cond_both, false_from_ne_true}
use Rattle.qea.specs.declared.automaton.Transition.{Transition}
use Rattle.qea.specs.declared.configuration.Configuration.{Configuration}
use Rattle.qea.specs.declared.term.Term.{Term}
use Rattle.qea.specs.declared.term.Term.TheVariants.{Variable}
use Rattle.qea.specs.Lists.{In, firsts}
use Rattle.std.specs.Ordering.{int_eq}
use Rattle.qea.specs.Events.{Event}
use Rattle.qea.specs.Meaning.{Meaning, Guard, Action, Agree, guard_says, guard_reads, action_says, action_reads, action_writes, guard_reads_at, action_reads_at, holds, written, acted}
use Rattle.qea.specs.Automaton.{Pattern, Automaton}
use Rattle.qea.specs.Matching.{meetings, met, consistent, matches, Sight, sight_at, sights_from, sights_through, sights}
use Rattle.qea.specs.Domains.{domain, domains}
use Rattle.qea.specs.Bindings.{Binding, pick, known, without_new}
use Rattle.qea.specs.Slices.{gives, touches, touched, slice}
use Rattle.qea.specs.Steps.{value_or_zero, row, loaded, arrived, tries, settled, step, start, configurations, same_configuration}
use Rattle.qea.specs.WellFormed.{WellFormed}
use Rattle.qea.specs.Laws.{LateSlice, LateConfigurations}
use Rattle.qea.proofs.Sameness.{same_is, same_self}
use Rattle.std.proofs.lemmas.Option.{same_Some}
use Rattle.qea.proofs.Members.{nth_in, in_right, in_left, in_map, in_flat_map, in_kept_by, of_kept_by, every_at, any_at}
use Rattle.qea.proofs.Congruences.{every_alike, any_alike, flat_map_alike, kept_by_alike, folded_alike}
use Rattle.qea.proofs.Firsts.{firsts_have}
use Rattle.qea.proofs.Growth.{domains_at}

-- r is o, or nothing where o is a value that the domain lacks
abbrev Lacks : List ℤ → Option ℤ → Option ℤ → Type 0
Lacks d o r = (r ≡ o) ⊎ ((v : ℤ) × (o ≡ Some v) × (r ≡ None) × (In v d → ⊥))

-- p is b, but gives nothing at some variables whose domains lack what b gives there
abbrev Before : Automaton → List Event → Binding → Binding → Type 0
Before a h b p = (k : ℕ) → Lacks (domain a h k) (pick b k) (pick p k)

-- what a variable meets in a granted event is in its domain
sight_in_domain : (a : Automaton) (h : List Event) (p : Pattern) (e : Event) (s : Sight) → In p a.patterns → In e h → In s (sights_through e p) → In s.value (domain a h s.variable)
sight_in_domain a h p e s mp me ms =
    firsts_have int_eq same_is _ s.value
    (in_map (λ x. x.value) s _
    (in_kept_by (λ x. eqb x.variable s.variable) s (flat_map (sights a) h)
    (in_flat_map (sights a) e s h me (in_flat_map (sights_through e) p s a.patterns mp ms))
    (eq-eqb s.variable s.variable refl)))

gives_alike : (d : List ℤ) (o r : Option ℤ) (v : ℤ) → In v d → Lacks d o r → gives o v ≡ gives r v
gives_alike d o r v m (inl e) = ap (λ (x : Option ℤ). gives x v) (sym e)
gives_alike d o r v m (inr f) =
    ap (λ (x : Option ℤ). gives x v) f.1
    ∙ false_from_ne_true (int_eq f.0 v) (λ t. f.3 (subst (λ (x : ℤ). In x d) (sym (same_is f.0 v t)) m))
    ∙ sym (ap (λ (x : Option ℤ). gives x v) f.2)

module _ (a : Automaton) (h : List Event) (b p : Binding) (bf : Before a h b p) where
  touches_alike : (q : Pattern) (e : Event) → In q a.patterns → In e h → touches b q e ≡ touches p q e
  touches_alike q e mq me =
      ap (λ (t : Bool). matches q e && t)
      (every_alike _ _ (sights_through e q)
      (λ s ms. gives_alike (domain a h s.variable) (pick b s.variable) (pick p s.variable) s.value (sight_in_domain a h q e s mq me ms) (bf s.variable)))

  slice_alike : slice a b h ≡ slice a p h
  slice_alike = kept_by_alike (touched a b) (touched a p) h (λ e me. any_alike (λ q. touches b q e) (λ q. touches p q e) a.patterns (λ q mq. touches_alike q e mq me))

-- guards and actions

-- rows of two bindings with the same registers agree, if the bindings do at each variable read
pub rows_agree : (reads : ℕ → Bool) (b p : Binding) (rs : List ℤ) → ((i : ℕ) → i < 4 → reads i ≡ true → pick b i ≡ pick p i) → Agree reads (row b rs) (row p rs)
rows_agree reads b p rs h zero t = ap value_or_zero (h 0 (omega arith) t)
rows_agree reads b p rs h (suc zero) t = ap value_or_zero (h 1 (omega arith) t)
rows_agree reads b p rs h (suc (suc zero)) t = ap value_or_zero (h 2 (omega arith) t)
rows_agree reads b p rs h (suc (suc (suc zero))) t = ap value_or_zero (h 3 (omega arith) t)
rows_agree reads b p rs h (suc (suc (suc (suc i)))) t = refl

guard_says_agree : (g : Option Guard) (r s : List ℤ) → Agree (guard_reads g) r s → guard_says g r ≡ guard_says g s
guard_says_agree None r s h = refl
guard_says_agree (Some g) r s h = g.agrees r s h

pub holds_agree : (m : Meaning) (n : ℕ) (r s : List ℤ) → Agree (guard_reads_at m n) r s → holds m n r ≡ holds m n s
holds_agree m zero r s h = refl
holds_agree m (suc n) r s h = guard_says_agree (m.guard (suc n)) r s h

action_says_agree : (x : Option Action) (r s : List ℤ) → Agree (action_reads x) r s → action_says x r ≡ action_says x s
action_says_agree None r s h = refl
action_says_agree (Some x) r s h = x.agrees r s h

-- what an action writes among the registers does not depend on the variables
arrived_alike : (q k : ℕ) (b p : Binding) (rs : List ℤ) (o : Option ℤ) → arrived q (written (row b rs) (4 + k) o) ≡ arrived q (written (row p rs) (4 + k) o)
arrived_alike q k b p rs None = refl
arrived_alike q k b p rs (Some v) = ap (λ (r : List ℤ). Some (record { state = q; registers = r })) (drop-set-add 4 (row b rs) k v ∙ sym (drop-set-add 4 (row p rs) k v))

acted_agree : (m : Meaning) (n q : ℕ) (b p : Binding) (rs : List ℤ) → Agree (action_reads_at m n) (row b rs) (row p rs) → arrived q (acted m n (row b rs)) ≡ arrived q (acted m n (row p rs))
acted_agree m zero q b p rs h = refl
acted_agree m (suc n) q b p rs h =
    let x = m.action (suc n) in
    ap (λ (o : Option ℤ). arrived q (written (row b rs) (4 + action_writes x) o)) (action_says_agree x (row b rs) (row p rs) h)
    ∙ arrived_alike q (action_writes x) b p rs (action_says x (row p rs))

-- a variable of the pattern meets something in an event that matches
sight_from : (i k : ℕ) (ts : List Term) (vs : List ℤ) → In (Variable k) ts → length ts ≡ length vs → (s : Sight) × In s (sights_from i (meetings ts vs)) × (s.variable ≡ k)
sight_from i k [] vs m n = absurd m
sight_from i k (t ∷ ts) [] m n = absurd (omega arith)
sight_from i k (t ∷ ts) (v ∷ vs) (inl e) n =
    (record { variable = k; value = v; position = i }, in_left _ (sight_at i t v) (sights_from (suc i) (meetings ts vs)) (subst (λ (u : Term). In (record { variable = k; value = v; position = i }) (sight_at i u v)) e (inl refl)), refl)
sight_from i k (t ∷ ts) (v ∷ vs) (inr m) n =
    let r = sight_from (suc i) k ts vs m (omega arith) in
    (r.0, in_right r.0 (sight_at i t v) (sights_from (suc i) (meetings ts vs)) r.1, r.2)

matches_long : (q : Pattern) (e : Event) → matches q e ≡ true → length q.terms ≡ length e.values
matches_long q e t = eqb-true (length q.terms) (length e.values) (and_parts (eqb q.event e.number) _ (and_parts (eqb q.event e.number && eqb (length q.terms) (length e.values)) _ (and_parts _ (consistent (met q e)) t).0).0).1

sight_of : (k : ℕ) (q : Pattern) (e : Event) → matches q e ≡ true → In (Variable k) q.terms → (s : Sight) × In s (sights_through e q) × (s.variable ≡ k)
sight_of k q e t m =
    let r = sight_from 0 k q.terms e.values m (matches_long q e t) in
    (r.0, subst (λ (u : Bool). In r.0 (cond u (sights_from 0 (met q e)) [])) (sym t) r.1, r.2)

gives_is : (o : Option ℤ) (v : ℤ) → gives o v ≡ true → o ≡ Some v
gives_is None v t = absurd (false≢true t)
gives_is (Some w) v t = ap {B = Option ℤ} Some (same_is w v t)

-- two bindings that an event touches through a pattern agree at its variables
touched_agree : (b p : Binding) (q : Pattern) (e : Event) → touches b q e ≡ true → touches p q e ≡ true → (k : ℕ) → In (Variable k) q.terms → pick b k ≡ pick p k
touched_agree b p q e tb tp k m =
    let s = sight_of k q e (and_parts (matches q e) _ tb).0 m in
    subst (λ (j : ℕ). pick b j ≡ pick p j) s.2 (gives_is (pick b s.0.variable) s.0.value (given b tb s.0 s.1) ∙ sym (gives_is (pick p s.0.variable) s.0.value (given p tp s.0 s.1)))
  where
    given : (c : Binding) → touches c q e ≡ true → (s : Sight) → In s (sights_through e q) → gives (pick c s.variable) s.value ≡ true
    given c t s ms = every_at (λ x. gives (pick c x.variable) x.value) (sights_through e q) s (and_parts (matches q e) _ t).1 ms

taken_alike : {X : Type 0} (f t u g k : Bool) (x y z : X) → t ≡ u → (t ≡ true → u ≡ true → g ≡ k) → (t ≡ true → u ≡ true → x ≡ y) → cond (f && t && g) x z ≡ cond (f && u && k) y z
taken_alike false t u g k x y z e i j = refl
taken_alike true true true g k x y z e i j = ap₂ (λ (s : Bool) (w : _). cond s w z) (i refl refl) (j refl refl)
taken_alike true true false g k x y z e i j = absurd (true≢false e)
taken_alike true false true g k x y z e i j = absurd (false≢true e)
taken_alike true false false g k x y z e i j = refl

-- what a transition's guard and action read of the variables stands in its pattern
reads_own : (a : Automaton) (m : Meaning) → WellFormed a m → (t : Transition) (q : Pattern) → In t a.transitions → slice_get a.patterns t.pattern ≡ Some q → (i : ℕ) → i < 4 → (guard_reads_at m t.guard i ≡ true) ⊎ (action_reads_at m t.action i ≡ true) → In (Variable i) q.terms
reads_own a m wf t q mt eq i l r =
    let f = (wf.transitions t mt).pattern in
    subst (λ (p : Pattern). In (Variable i) p.terms) (same_Some f.0 q (sym f.1 ∙ eq)) (f.2 i l r)

module _ (a : Automaton) (m : Meaning) (wf : WellFormed a m) (h : List Event) (b p : Binding) (bf : Before a h b p) where
  tries_alike : (e : Event) → In e h → (g : Configuration) (t : Transition) → In t a.transitions → (o : Option Pattern) → slice_get a.patterns t.pattern ≡ o → tries m b e g t o ≡ tries m p e g t o
  tries_alike e me g t mt None eo = refl
  tries_alike e me g t mt (Some q) eo =
      let rs = loaded g.registers (met q e) in
      taken_alike (eqb t.from g.state) (touches b q e) (touches p q e) _ _ _ _ [] (touches_alike a h b p bf q e (nth_in a.patterns t.pattern q eo) me)
      (λ tb tp. holds_agree m t.guard (row b rs) (row p rs) (rows_agree (guard_reads_at m t.guard) b p rs (λ i l r. touched_agree b p q e tb tp i (reads_own a m wf t q mt eo i l (inl r)))))
      (λ tb tp. ap (λ (w : Option Configuration). w ∷ []) (acted_agree m t.action t.to b p rs (rows_agree (action_reads_at m t.action) b p rs (λ i l r. touched_agree b p q e tb tp i (reads_own a m wf t q mt eo i l (inr r))))))

  step_alike : (e : Event) → In e h → (gs : List Configuration) → step a m b gs e ≡ step a m p gs e
  step_alike e me gs =
      ap (firsts same_configuration) (flat_map_alike _ _ gs
      (λ g _. ap (settled a g) (flat_map_alike _ _ a.transitions (λ t mt. tries_alike e me g t mt (slice_get a.patterns t.pattern) refl))))

  configurations_alike : configurations a m b h ≡ configurations a m p h
  configurations_alike =
      folded_alike (step a m b) (step a m p) (start a ∷ []) (slice a b h) (λ e me gs. step_alike e (of_kept_by (touched a b) e h me).0 gs)
      ∙ ap (fold (step a m p) (start a ∷ [])) (slice_alike a h b p bf)

-- the binding without its new values is such a binding

known_nothing : (o : Option ℤ) → known [] o ≡ None
known_nothing None = refl
known_nothing (Some v) = refl

pick_without : (ds : List (List ℤ)) (b : Binding) (k : ℕ) → pick (without_new ds b) k ≡ known (get_or ds k []) (pick b k)
pick_without [] b k = sym (known_nothing (pick b k))
pick_without (d ∷ ds) [] k = refl
pick_without (d ∷ ds) (o ∷ b) zero = refl
pick_without (d ∷ ds) (o ∷ b) (suc k) = pick_without ds b k

known_or_new : (d : List ℤ) (o : Option ℤ) → Lacks d o (known d o)
known_or_new d None = inl refl
known_or_new d (Some v) =
    let there = list_any (λ w. int_eq w v) d in
    cond_both there (Some v) None (Lacks d (Some v)) (λ _. inl refl) (λ e. inr (v, refl, refl, λ m. both_ways there e (any_at (λ w. int_eq w v) d v m (same_self v))))

before_without : (a : Automaton) (h : List Event) (b : Binding) → length b ≡ length a.quantifiers → Before a h b (without_new (domains a h) b)
before_without a h b n k = subst (Lacks (domain a h k) (pick b k)) (sym (pick_without (domains a h) b k)) (⊎_elim within past (cases_lt k (length b)))
  where
    within : k < length b → Lacks (domain a h k) (pick b k) (known (get_or (domains a h) k []) (pick b k))
    within l = subst (λ (d : List ℤ). Lacks (domain a h k) (pick b k) (known d (pick b k))) (sym (domains_at a h k (omega arith))) (known_or_new (domain a h k) (pick b k))

    past : length b ≤ k → Lacks (domain a h k) (pick b k) (known (get_or (domains a h) k []) (pick b k))
    past l = inl (ap (known (get_or (domains a h) k [])) (get_or_past b k None l) ∙ sym (get_or_past b k None l))

pub late_slice : LateSlice
late_slice a h b n = slice_alike a h b (without_new (domains a h) b) (before_without a h b n)

pub late_configurations : LateConfigurations
late_configurations a m wf h b n = configurations_alike a m wf h b (without_new (domains a h) b) (before_without a h b n)
