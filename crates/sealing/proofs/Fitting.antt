-- A row has no fault exactly if it fits.
use Rattle.std.proofs.Common.{◌≡◌, ℕ, ◌<◌, ◌≤◌, true, false, ◌⊎◌, ◌↔◌, List, length, None, refl, ⊎_elim, arith}
use mathlib.Core.Logic.Iff
use Rattle.std.specs.List.{slice_get}
use Rattle.std.proofs.lemmas.Bool.Decides.{nat_tests}
use Rattle.std.proofs.lemmas.Option.{slice_get_cases, slice_get_within}
use Rattle.qea.specs.declared.fault.RowKind.TheVariants.{Transition as transition}
use Rattle.qea.specs.declared.term.Term.{Term}
use Rattle.qea.specs.declared.term.Term.TheVariants.{Variable}
use Rattle.qea.specs.declared.automaton.Quantifier.{Quantifier}
use Rattle.qea.specs.declared.automaton.Transition.{Transition}
use Rattle.qea.specs.Limits.{max_quantifiers, places}
use Rattle.qea.specs.Lists.{In}
use Rattle.qea.specs.Meaning.{Meaning, guard_there, action_there, guard_reads_at, action_reads_at}
use Rattle.qea.specs.Automaton.{Pattern, Automaton}
use Rattle.qea.specs.Matching.{is_variable}
use Rattle.sealing.specs.Sealing.{variables, all_places, misplaced, quantifier_fault, lacks_quantifier, pattern_fault, terms_of, transition_lacks, misread, transition_misreads, transition_fault}
use Rattle.qea.specs.WellFormed.{QuantifierFits, PatternFits, TransitionFits}
use Rattle.sealing.proofs.Faultless.{any_fails, any_finds, row_none}

-- a guard reads only places
reads_listed : (m : Meaning) (n i : ℕ) → guard_reads_at m n i ≡ true → In i all_places
reads_listed m n i e = let below : i < places = grind arith in grind arith

misplaced_fails : (m : Meaning) (k : ℕ) (q : Quantifier) (i : ℕ) → (misplaced m k q i ≡ false) ↔ (guard_reads_at m q.guard i ≡ true → (i ≤ k) × (i < max_quantifiers))
misplaced_fails m k q i = (grind (arith, nat_tests), grind (arith, nat_tests))

pub quantifier_none : (m : Meaning) (k : ℕ) (q : Quantifier) → (quantifier_fault m k q ≡ None) ↔ QuantifierFits m k q
quantifier_none m k q =
    let reads = any_fails (misplaced m k q) (λ i. guard_reads_at m q.guard i ≡ true → (i ≤ k) × (i < max_quantifiers)) (misplaced_fails m k q) all_places in (
      λ e. record { guard = grind arith; reads = λ i is. reads.0 (grind arith) i (reads_listed m q.guard i is) is },
      λ fits. let none = reads.1 (λ i listed. fits.reads i) in let there = fits.guard in grind arith,
    )

-- a term lacks no quantifier if its variable has one
lacks_fails : (many : ℕ) (t : Term) → (lacks_quantifier many t ≡ false) ↔ ((v : ℕ) → t ≡ Variable v → v < many)
lacks_fails many t = (grind (arith, nat_tests), grind (arith, nat_tests))

pub pattern_none : (a : Automaton) (k : ℕ) (p : Pattern) → (pattern_fault a k p ≡ None) ↔ PatternFits a p
pattern_none a k p =
    let many = length a.quantifiers in
    let lacks = any_fails (lacks_quantifier many) (λ t. (v : ℕ) → t ≡ Variable v → v < many) (lacks_fails many) p.terms in (
      λ e v stands. lacks.0 (grind arith) (Variable v) stands v refl,
      λ fits. let none = lacks.1 (λ t stands v is. fits v (rw is at stands)) in grind arith,
    )

is_variable_is : (i : ℕ) (t : Term) → (is_variable i t ≡ true) ↔ (t ≡ Variable i)
is_variable_is i t = (grind (arith, nat_tests), grind (arith, nat_tests))

module _ (a : Automaton) (m : Meaning) (t : Transition) where
  abbrev terms : List Term
  terms = terms_of (slice_get a.patterns t.pattern)

  abbrev read_stands : List Term → ℕ → Type 0
  read_stands terms i = (guard_reads_at m t.guard i ≡ true) ⊎ (action_reads_at m t.action i ≡ true) → In (Variable i) terms

  misread_fails : (terms : List Term) (i : ℕ) → (misread m t terms i ≡ false) ↔ read_stands terms i
  misread_fails terms i =
      let finds = any_finds (is_variable i) (Variable i) (is_variable_is i) terms in (λ e. grind arith, λ h. grind arith)

  -- what the transition names is there
  lacks_nothing : (transition_lacks a m t ≡ false) ↔ ((t.from < length a.states) × (t.pattern < length a.patterns) × (guard_there m t.guard ≡ true) × (action_there m t.action ≡ true) × (t.to < length a.states))
  lacks_nothing = (grind (arith, nat_tests), grind (arith, nat_tests))

  pub transition_none : (k : ℕ) → (transition_fault a m k t ≡ None) ↔ TransitionFits a m t
  transition_none k =
      Iff.trans (row_none transition k (transition_lacks a m t) (transition_misreads a m t) lacks_nothing (any_fails (misread m t terms) (read_stands terms) (misread_fails terms) variables)) (
        λ h. record {
          from = h.0.0;
          to = h.0.4;
          guard = h.0.2;
          action = h.0.3;
          pattern = ⊎_elim (λ here. (here.0, here.2, λ i low. (rw here.2 at h.1) i (grind arith))) (λ past. absurd (omega arith)) (slice_get_cases a.patterns t.pattern).1;
        },
        λ fits. (
          (fits.from, slice_get_within a.patterns t.pattern fits.pattern.0 fits.pattern.1, fits.guard, fits.action, fits.to),
          λ i listed. rw fits.pattern.1 (fits.pattern.2 i (omega arith)),
        ),
      )
