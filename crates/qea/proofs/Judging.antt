-- The quantifiers: the test decides the statement, and one total binding that passes all guards decides where all quantifiers are of one kind.
use Rattle.std.proofs.Common.{◌≡◌, ℕ, suc, ◌+◌, ◌≤◌, Bool, true, false, cond, ◌&&◌, List, [], ◌∷◌, ◌++◌, length, ℤ, Some, None, Decides, Option, sym, refl, ap, ◌∙◌, subst, inl, inr, append_assoc, append-nil, arith}
use Rattle.std.specs.List.{slice_get}
use Rattle.std.proofs.lemmas.List.{length_push, get_or_append_left}
use Rattle.std.proofs.lemmas.Bool.{cond_both, and_parts, and_from}
use Rattle.qea.specs.declared.automaton.Kind.{Kind}
use Rattle.qea.specs.declared.automaton.Kind.TheVariants.{ForAll, Exists}
use Rattle.qea.specs.declared.automaton.Quantifier.{Quantifier}
use Rattle.qea.specs.declared.configuration.Configuration.{Configuration}
use Rattle.qea.specs.Lists.{In}
use Rattle.qea.specs.Events.{Event}
use Rattle.qea.specs.Meaning.{Meaning, guard_reads_at}
use Rattle.qea.specs.Automaton.{Automaton}
use Rattle.qea.specs.Domains.{domains}
use Rattle.qea.specs.Bindings.{Binding, pick, TotalOf}
use Rattle.qea.specs.Steps.{row, configurations}
use Rattle.qea.specs.WellFormed.{WellFormed}
use Rattle.qea.specs.Verdicts.{final_at, accepts, accepting, no_registers, passes, quantified, judged, Accepts, Quantified, Judged}
use Rattle.qea.specs.Endings.{AllAre, PassingTotal}
use Rattle.qea.specs.Laws.{VerdictDecides}
use Rattle.qea.proofs.Members.{every_at, every_from, every_false, any_at, of_any}
use Rattle.qea.proofs.Late.{rows_agree, holds_agree}
use Rattle.qea.proofs.Growth.{total_binding, binding_long}

-- the test and the statement

quantified_decides : (k : Kind) (pass rest : ℤ → Bool) (Rest : ℤ → Type 0) (d : List ℤ) → ((v : ℤ) → Decides (rest v) (Rest v)) → Decides (quantified k pass rest d) (Quantified k (λ v. pass v ≡ true) Rest d)
quantified_decides ForAll pass rest Rest d dec = (
  (λ t v m p. (dec v).0 (ap (λ (x : Bool). cond x (rest v) true) (sym p) ∙ every_at (λ w. cond (pass w) (rest w) true) d v t m)),
  λ f. every_from (λ w. cond (pass w) (rest w) true) d (λ v m. cond_both (pass v) (rest v) true (λ t. t ≡ true) (λ p. (dec v).1 (f v m p)) (λ _. refl)),
)
quantified_decides Exists pass rest Rest d dec = (
  (λ t. let r = of_any (λ w. pass w && rest w) d t in let s = and_parts (pass r.0) (rest r.0) r.2 in (r.0, r.1, s.0, (dec r.0).0 s.1)),
  λ f. any_at (λ w. pass w && rest w) d f.0 f.1 (and_from (pass f.0) (rest f.0) f.2 ((dec f.0).1 f.3)),
)

module _ (m : Meaning) (goal : Binding → Bool) (Goal : Binding → Type 0) (agree : (b : Binding) → Decides (goal b) (Goal b)) where
  judged_decides : (qs : List Quantifier) (ds : List (List ℤ)) (b : Binding) → Decides (judged m goal qs ds b) (Judged m Goal qs ds b)
  judged_decides [] ds b = agree b
  judged_decides (q ∷ qs) [] b = agree b
  judged_decides (q ∷ qs) (d ∷ ds) b = quantified_decides q.kind _ _ _ d (λ v. judged_decides qs ds (b ++ Some v ∷ []))

accepts_decides : (a : Automaton) (gs : List Configuration) → Decides (accepts a gs) (Accepts a gs)
accepts_decides a gs = (of_any (final_at a) gs, λ w. any_at (final_at a) gs w.0 w.1 w.2)

pub verdict_decides : VerdictDecides
verdict_decides a m h = judged_decides m (accepting a m h) _ (λ b. accepts_decides a (configurations a m b h)) a.quantifiers (domains a h) []

-- one total binding that passes all guards

-- each guard holds of what is bound so far, as the quantifiers read it
abbrev Passing : Meaning → Binding → List Quantifier → Binding → Type 0
Passing m pre [] [] = Unit {0}
Passing m pre (q ∷ qs) (o ∷ b) = (passes m q (pre ++ o ∷ []) ≡ true) × Passing m (pre ++ o ∷ []) qs b
Passing m pre qs b = ⊥

pick_front : (pre : Binding) (o : Option ℤ) (b : Binding) (i : ℕ) → i ≤ length pre → pick (pre ++ o ∷ []) i ≡ pick (pre ++ o ∷ b) i
pick_front pre o b i l = sym (get_or_append_left (pre ++ o ∷ []) b None i (omega (arith, length_push pre o))) ∙ ap (λ (x : Binding). pick x i) (append_assoc pre (o ∷ []) b)

-- what passes all guards passes each as it is read, since none reads a later variable
passing_from : (m : Meaning) (pre : Binding) (qs : List Quantifier) (b : Binding) → length b ≡ length qs → ((j : ℕ) (q : Quantifier) → slice_get qs j ≡ Some q → (i : ℕ) → guard_reads_at m q.guard i ≡ true → i ≤ length pre + j) → ((q : Quantifier) → In q qs → passes m q (pre ++ b) ≡ true) → Passing m pre qs b
passing_from m pre [] [] n rd h = tt
passing_from m pre (q ∷ qs) (o ∷ b) n rd h = (
  holds_agree m q.guard (row (pre ++ o ∷ []) no_registers) (row (pre ++ o ∷ b) no_registers) (rows_agree (guard_reads_at m q.guard) (pre ++ o ∷ []) (pre ++ o ∷ b) no_registers (λ i _ r. pick_front pre o b i (let l = rd 0 q refl i r in omega arith))) ∙ h q (inl refl),
  passing_from m (pre ++ o ∷ []) qs b (omega arith)
      (λ j p e i r. let l = rd (suc j) p e i r in omega (arith, length_push pre o))
      (λ r i. ap (passes m r) (append_assoc pre (o ∷ []) b) ∙ h r (inr i)),
)
passing_from m pre qs b n rd h = absurd (omega arith)

pub passing : (a : Automaton) (m : Meaning) (h : List Event) (b : Binding) → WellFormed a m → PassingTotal a m h b → Passing m [] a.quantifiers b
passing a m h b wf p = passing_from m [] a.quantifiers b (binding_long a h b (total_binding (domains a h) b p.total)) (λ j q e i r. let l = ((wf.quantifiers j q e).reads i r).0 in omega arith) p.guards

-- the test that settles a quantifier: 'for all' fails by it, and 'exists' succeeds
abbrev pub settles : Kind → Bool
settles ForAll = false
settles Exists = true

quantified_at : (k : Kind) (pass rest : ℤ → Bool) (d : List ℤ) (v : ℤ) → In v d → pass v ≡ true → rest v ≡ settles k → quantified k pass rest d ≡ settles k
quantified_at ForAll pass rest d v i p r = every_false (λ w. cond (pass w) (rest w) true) d v i (ap (λ (s : Bool). cond s (rest v) true) p ∙ r)
quantified_at Exists pass rest d v i p r = any_at (λ w. pass w && rest w) d v i (and_from _ _ p r)

-- where all quantifiers are of one kind, it settles them all
pub judged_settled : (m : Meaning) (goal : Binding → Bool) (k : Kind) (qs : List Quantifier) (ds : List (List ℤ)) (pre b : Binding) → AllAre k qs → TotalOf ds b → Passing m pre qs b → goal (pre ++ b) ≡ settles k → judged m goal qs ds pre ≡ settles k
judged_settled m goal k [] ds pre [] al t ps e = ap goal (sym (append-nil pre)) ∙ e
judged_settled m goal k (q ∷ qs) (d ∷ ds) pre (Some v ∷ b) al t ps e =
    subst (λ (j : Kind). quantified j (λ w. passes m q (pre ++ Some w ∷ [])) (λ w. judged m goal qs ds (pre ++ Some w ∷ [])) d ≡ settles k) (sym (al q (inl refl)))
    (quantified_at k _ _ d v t.0 ps.0 (judged_settled m goal k qs ds (pre ++ Some v ∷ []) b (λ r i. al r (inr i)) t.1 ps.1 (ap goal (append_assoc pre (Some v ∷ []) b) ∙ e)))
judged_settled m goal k (q ∷ qs) ds pre [] al t ps e = absurd ps
judged_settled m goal k [] ds pre (o ∷ b) al t ps e = absurd ps
judged_settled m goal k (q ∷ qs) ds pre (o ∷ b) al t ps e = absurd t
