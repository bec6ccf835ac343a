-- The tests by chains decide the statements: as many rounds as there are transitions suffice.
use Rattle.std.proofs.Common.{◌≡◌, ℕ, zero, suc, ◌<◌, ◌≤◌, Bool, true, false, cond, not, ◌&&◌, ◌||◌, eqb, ◌⊎◌, List, [], ◌∷◌, map, length, get_or, ℤ, Decides, sym, refl, ap, ◌∙◌, subst, inl, inr, ⊎_elim, arith}
use Rattle.std.specs.List.{range_with_len, list_all, list_any, count_by, remove}
use Rattle.std.proofs.lemmas.Bool.{cases_Bool, cond_both, or_left, or_right, or_cases, and_parts, and_from, eqb-true, eq-eqb, both_ways, false≢true, not-true, not-false, not_from_true, not_from_false, false_from_ne_true}
use Rattle.std.proofs.lemmas.Bool.Decides.{Decides-and, Decides-or, Decides-like}
use Rattle.std.proofs.lemmas.Option.{get_or_from_slice_get}
use Rattle.std.proofs.lemmas.List.Sums.{sum_by-remove, sum_by-le-sum_by, count_by-le-length}
use Rattle.qea.specs.declared.automaton.Kind.{Kind}
use Rattle.qea.specs.declared.automaton.Kind.TheVariants.{ForAll, Exists}
use Rattle.qea.specs.declared.automaton.Quantifier.{Quantifier}
use Rattle.qea.specs.declared.automaton.Transition.{Transition}
use Rattle.qea.specs.declared.configuration.Configuration.{Configuration}
use Rattle.qea.specs.Lists.{In}
use Rattle.qea.specs.Events.{Event}
use Rattle.qea.specs.Meaning.{Meaning}
use Rattle.qea.specs.Automaton.{Automaton}
use Rattle.qea.specs.Domains.{domain, domains}
use Rattle.qea.specs.Bindings.{Binding, TotalOf, total_bindings}
use Rattle.qea.specs.Steps.{configurations}
use Rattle.qea.specs.Verdicts.{passes}
use Rattle.qea.specs.Endings.{Leads, stays, goes, final_state, safe_state, Lost, Won, LostBinding, WonBinding, PassingTotal, RejectsForGood, AcceptsForGood, leads_within, leads, lost, won, lost_binding, won_binding, is_kind, all_are, AllAre, passing_totals, rejects_for_good, accepts_for_good}
use Rattle.qea.specs.Laws.{EndingsDecide, WithoutQuantifiers}
use Rattle.qea.proofs.Members.{in_nth, any_none, in_kept_by, of_kept_by, every_at, every_from, any_at, of_any, every_decides, any_decides}
use Rattle.qea.proofs.Listing.{in_totals, of_totals}

-- Of two tests, where what passes the first passes the second, the second counts more if it alone passes one place.
counts_more : {X : Type 0} (f g : X → Bool) (xs : List X) (i : ℕ) (d : X) → i < length xs → ((x : X) → f x ≡ true → g x ≡ true) → f (get_or xs i d) ≡ false → g (get_or xs i d) ≡ true → count_by f xs < count_by g xs
counts_more {X} f g xs i d l more p q =
    let one : (X → Bool) → X → ℕ = λ t x. cond (t x) 1 0 in
    let le : (x : X) → one f x ≤ one g x = λ x. cond_both (f x) 1 0 (λ n. n ≤ one g x) (λ e. subst (λ (t : Bool). 1 ≤ cond t 1 0) (sym (more x e)) (omega arith)) (λ _. omega arith) in
    let none : one f (get_or xs i d) ≡ 0 = ap (λ (t : Bool). cond t 1 0) p in
    let some : one g (get_or xs i d) ≡ 1 = ap (λ (t : Bool). cond t 1 0) q in
    omega (arith, sum_by-remove (one f) xs i d l, sum_by-remove (one g) xs i d l, sum_by-le-sum_by (one f) (one g) (remove xs i) le)

-- the states from which at most n transitions lead to one that passes

module _ (a : Automaton) (test : ℕ → Bool) where
  abbrev mark : ℕ → ℕ → Bool
  mark n q = leads_within a test n q

  abbrev onward : ℕ → ℕ → Bool
  onward n q = list_any (λ t. eqb t.from q && mark n t.to) a.transitions

  onward_by : (n : ℕ) (t : Transition) → In t a.transitions → mark n t.to ≡ true → mark (suc n) t.from ≡ true
  onward_by n t m k = or_right (mark n t.from) (onward n t.from) (any_at (λ u. eqb u.from t.from && mark n u.to) a.transitions t m (and_from (eqb t.from t.from) (mark n t.to) (eq-eqb t.from t.from refl) k))

  of_onward : (n q : ℕ) → onward n q ≡ true → (t : Transition) × In t a.transitions × (t.from ≡ q) × (mark n t.to ≡ true)
  of_onward n q k =
      let r = of_any (λ u. eqb u.from q && mark n u.to) a.transitions k in
      let s = and_parts (eqb r.0.from q) (mark n r.0.to) r.2 in
      (r.0, r.1, eqb-true r.0.from q s.0, s.1)

  abbrev Stable : ℕ → Type 0
  Stable n = (q : ℕ) → mark (suc n) q ≡ true → mark n q ≡ true

  stable_next : (n : ℕ) → Stable n → Stable (suc n)
  stable_next n st q k = ⊎_elim (λ j. j) (λ j. let r = of_onward (suc n) q j in subst (λ (x : ℕ). mark (suc n) x ≡ true) r.2 (onward_by n r.0 r.1 (st r.0.to r.3))) (or_cases (mark (suc n) q) (onward (suc n) q) k)

  abbrev marked_count : ℕ → ℕ
  marked_count n = count_by (λ t. mark n t.from) a.transitions

  one_more : (n : ℕ) → Stable n ⊎ (marked_count n < marked_count (suc n))
  one_more n = ⊎_elim (λ e. inr (counted e)) (λ e. inl (λ q k. ⊎_elim (λ j. j) (known q e) (or_cases (mark n q) (onward n q) k))) (cases_Bool (list_any new a.transitions))
    where
      new : Transition → Bool
      new t = mark (suc n) t.from && not (mark n t.from)

      counted : list_any new a.transitions ≡ true → marked_count n < marked_count (suc n)
      counted e =
          let r = of_any new a.transitions e in
          let s = and_parts (mark (suc n) r.0.from) (not (mark n r.0.from)) r.2 in
          let p = in_nth a.transitions r.0 r.1 in
          let is : get_or a.transitions p.0 r.0 ≡ r.0 = get_or_from_slice_get a.transitions p.0 r.0 r.0 p.2 in
          counts_more (λ t. mark n t.from) (λ t. mark (suc n) t.from) a.transitions p.0 r.0 p.1 (λ t. or_left (mark n t.from) (onward n t.from))
          (ap (λ (t : Transition). mark n t.from) is ∙ not-true (mark n r.0.from) s.1)
          (ap (λ (t : Transition). mark (suc n) t.from) is ∙ s.0)

      known : (q : ℕ) → list_any new a.transitions ≡ false → onward n q ≡ true → mark n q ≡ true
      known q e j =
          let r = of_onward n q j in
          let old = any_none new a.transitions r.0 e r.1 in
          subst (λ (x : ℕ). mark n x ≡ true) r.2 (not-false (mark n r.0.from) (ap (λ (s : Bool). s && not (mark n r.0.from)) (sym (onward_by n r.0 r.1 r.3)) ∙ old))

  progress : (n : ℕ) → Stable n ⊎ (n < marked_count (suc n))
  progress zero = ⊎_elim inl (λ l. inr (omega arith)) (one_more 0)
  progress (suc n) = ⊎_elim (λ s. inl (stable_next n s)) (λ l. ⊎_elim inl (λ k. inr (omega arith)) (one_more (suc n))) (progress n)

  stable_end : Stable (length a.transitions)
  stable_end = let n = length a.transitions in ⊎_elim (λ s. s) (λ l. absurd (omega (arith, count_by-le-length (λ t. mark (suc n) t.from) a.transitions))) (progress n)

  sound : (n q : ℕ) → mark n q ≡ true → (r : ℕ) × Leads a q r × (test r ≡ true)
  sound zero q k = (q, stays refl, k)
  sound (suc n) q k = ⊎_elim (λ j. sound n q j) (λ j. let r = of_onward n q j in let s = sound n r.0.to r.3 in (s.0, goes r.0 r.1 r.2 s.1, s.2)) (or_cases (mark n q) (onward n q) k)

  here : (n q : ℕ) → test q ≡ true → mark n q ≡ true
  here zero q k = k
  here (suc n) q k = or_left (mark n q) (onward n q) (here n q k)

  -- by induction on a chain
  marked : (q r : ℕ) → Leads a q r → test r ≡ true → leads a test q ≡ true
  marked q r (stays e) t = ap (leads a test) e ∙ here (length a.transitions) r t
  marked q r (goes tr k e chain) t = ap (leads a test) (sym e) ∙ stable_end tr.from (onward_by (length a.transitions) tr k (marked tr.to r chain t))

  -- no chain leads to one that passes
  never_decides : (q : ℕ) → Decides (not (leads a test q)) ((r : ℕ) → Leads a q r → test r ≡ false)
  never_decides q = (
    (λ t r chain. false_from_ne_true (test r) (λ f. both_ways (leads a test q) (not-true (leads a test q) t) (marked q r chain f))),
    λ l. not_from_false (leads a test q) (false_from_ne_true (leads a test q) (λ t. let r = sound (length a.transitions) q t in both_ways (test r.0) (l r.0 r.1) r.2)),
  )

-- lost and won

lost_decides : (a : Automaton) (q : ℕ) → Decides (lost a q) (Lost a q)
lost_decides a q = never_decides a (final_state a) q

won_decides : (a : Automaton) (q : ℕ) → Decides (won a q) (Won a q)
won_decides a q =
    Decides-like (won a q)
    (λ never r chain. not-false (safe_state a r) (never r chain))
    (λ w r chain. not_from_true (safe_state a r) (w r chain))
    (never_decides a (λ r. not (safe_state a r)) q)

-- for good

kind_decides : (j k : Kind) → Decides (is_kind j k) (j ≡ k)
kind_decides ForAll ForAll = (λ _. refl, λ _. refl)
kind_decides Exists Exists = (λ _. refl, λ _. refl)
kind_decides ForAll Exists = (λ t. absurd (false≢true t), λ e. cc)
kind_decides Exists ForAll = (λ t. absurd (false≢true t), λ e. cc)

module _ (a : Automaton) (m : Meaning) (h : List Event) where
  passing_from : (b : Binding) → In b (passing_totals a m h) → PassingTotal a m h b
  passing_from b i =
      let r = of_kept_by (λ x. list_all (λ q. passes m q x) a.quantifiers) b (total_bindings (domains a h)) i in
      record { total = of_totals (domains a h) b r.0; guards = λ q k. every_at (λ x. passes m x b) a.quantifiers q r.1 k }

  passing_in : (b : Binding) → PassingTotal a m h b → In b (passing_totals a m h)
  passing_in b p = in_kept_by (λ x. list_all (λ q. passes m q x) a.quantifiers) b (total_bindings (domains a h)) (in_totals (domains a h) b p.total) (every_from (λ q. passes m q b) a.quantifiers p.guards)

  -- all quantifiers are of a kind, and a total binding that passes all guards has a list of some sort
  one_decides : (k : Kind) (test : List Configuration → Bool) (P : List Configuration → Type 0) → ((gs : List Configuration) → Decides (test gs) (P gs)) →
      Decides (all_are k a.quantifiers && list_any (λ b. test (configurations a m b h)) (passing_totals a m h)) (AllAre k a.quantifiers × ((b : Binding) × PassingTotal a m h b × P (configurations a m b h)))
  one_decides k test P d = Decides-and _ _
      (every_decides (λ q. is_kind q.kind k) (λ q. q.kind ≡ k) a.quantifiers (λ q. kind_decides q.kind k))
      (Decides-like _ (λ w. (w.0, passing_from w.0 w.1, w.2)) (λ w. (w.0, passing_in w.0 w.1, w.2))
      (any_decides (λ b. test (configurations a m b h)) (λ b. P (configurations a m b h)) (passing_totals a m h) (λ b. d (configurations a m b h))))

  pub for_good_decides : Decides (rejects_for_good a m h || accepts_for_good a m h) (RejectsForGood a m h ⊎ AcceptsForGood a m h)
  for_good_decides = Decides-or _ _
      (one_decides ForAll (lost_binding a) (LostBinding a) (λ gs. every_decides (λ g. lost a g.state) (λ g. Lost a g.state) gs (λ g. lost_decides a g.state)))
      (one_decides Exists (won_binding a) (WonBinding a) (λ gs. any_decides (λ g. won a g.state) (λ g. Won a g.state) gs (λ g. won_decides a g.state)))

pub endings_decide : EndingsDecide
endings_decide a = ((λ q. (lost_decides a q, won_decides a q)), for_good_decides a)

-- without quantifiers there is one total binding, and no guard to pass

empty_domains : (a : Automaton) (h : List Event) → a.quantifiers ≡ [] → domains a h ≡ []
empty_domains a h none = ap (λ (qs : List Quantifier). map (domain a h) (range_with_len 0 (length qs))) none

only_total : (b : Binding) → TotalOf [] b → b ≡ []
only_total [] t = refl
only_total (o ∷ b) t = absurd t

module _ (a : Automaton) (m : Meaning) (h : List Event) (none : a.quantifiers ≡ []) where
  nowhere : (q : Quantifier) → In q a.quantifiers → ⊥
  nowhere q = subst (λ (xs : List Quantifier). In q xs) none

  the_total : PassingTotal a m h []
  the_total = record { total = subst (λ (ds : List (List ℤ)). TotalOf ds []) (sym (empty_domains a h none)) tt; guards = λ q i. absurd (nowhere q i) }

  of_total : (P : Binding → Type 0) (b : Binding) → PassingTotal a m h b → P b → P []
  of_total P b p x = subst P (only_total b (subst (λ (ds : List (List ℤ)). TotalOf ds b) (empty_domains a h none) p.total)) x

pub without_quantifiers : WithoutQuantifiers
without_quantifiers a m h none =
    let total = of_total a m h none in
    let all : (k : Kind) → AllAre k a.quantifiers = λ k q i. absurd (nowhere a m h none q i) in
    Decides-like _
    (λ s. ⊎_elim (λ r. inl (total (λ b. LostBinding a (configurations a m b h)) r.1.0 r.1.1 r.1.2)) (λ r. inr (total (λ b. WonBinding a (configurations a m b h)) r.1.0 r.1.1 r.1.2)) s)
    (λ s. ⊎_elim (λ l. inl (all ForAll, ([], the_total a m h none, l))) (λ w. inr (all Exists, ([], the_total a m h none, w))) s)
    (for_good_decides a m h)
