-- What nothing later can change: lost and won states and bindings, and the verdict with 'for good'.
use Rattle.std.specs.Prelude.{◌≡◌, ℕ, zero, suc, Bool, true, false, not, ◌&&◌, ◌||◌, List, length, filter, ◌==◌}
use Rattle.std.specs.List.{slice_get, list_all, list_any}
use Rattle.qea.specs.declared.automaton.Kind.{Kind}
use Rattle.qea.specs.declared.automaton.Kind.TheVariants.{ForAll, Exists}
use Rattle.qea.specs.declared.automaton.Quantifier.{Quantifier}
use Rattle.qea.specs.declared.automaton.Transition.{Transition}
use Rattle.qea.specs.declared.configuration.Configuration.{Configuration}
use Rattle.qea.specs.Lists.{In}
use Rattle.qea.specs.Events.{Event}
use Rattle.qea.specs.Meaning.{Meaning}
use Rattle.qea.specs.Automaton.{Automaton}
use Rattle.qea.specs.Domains.{domains}
use Rattle.qea.specs.Bindings.{Binding, TotalOf, total_bindings}
use Rattle.qea.specs.Steps.{skips, is_final, configurations}
use Rattle.qea.specs.Verdicts.{passes, accepted, count}

-- A chain of transitions, perhaps the empty one, leads from one state to another. Guards and patterns are disregarded.
pub data Leads (a : Automaton) : ℕ → ℕ → Type 0 where
  stays : {q r : ℕ} → q ≡ r → Leads a q r
  goes : {q r : ℕ} (t : Transition) → In t a.transitions → t.from ≡ q → Leads a t.to r → Leads a q r

abbrev pub final_state : Automaton → ℕ → Bool
final_state a q = is_final (slice_get a.states q)

-- final and skip
abbrev pub safe_state : Automaton → ℕ → Bool
safe_state a q = is_final (slice_get a.states q) && skips (slice_get a.states q)

-- A state is lost if no chain leads to a final state, and won if every state so reached is final and skip.
abbrev pub Lost : Automaton → ℕ → Type 0
Lost a q = (r : ℕ) → Leads a q r → final_state a r ≡ false

abbrev pub Won : Automaton → ℕ → Type 0
Won a q = (r : ℕ) → Leads a q r → safe_state a r ≡ true

-- A binding is lost if all its configurations are in lost states, and won if one is in a won state.
abbrev pub LostBinding : Automaton → List Configuration → Type 0
LostBinding a gs = (g : Configuration) → In g gs → Lost a g.state

abbrev pub WonBinding : Automaton → List Configuration → Type 0
WonBinding a gs = (g : Configuration) × In g gs × Won a g.state

abbrev pub AllAre : Kind → List Quantifier → Type 0
AllAre k qs = (q : Quantifier) → In q qs → q.kind ≡ k

-- a total binding that passes all guards
pub record PassingTotal (a : Automaton) (m : Meaning) (h : List Event) (b : Binding) : Type 0 where
  pub total : TotalOf (domains a h) b
  pub guards : (q : Quantifier) → In q a.quantifiers → passes m q b ≡ true

-- All quantifiers are 'for all', and such a binding is lost; or all are 'exists', and such a binding is won. Without quantifiers both cases apply.
abbrev pub RejectsForGood : Automaton → Meaning → List Event → Type 0
RejectsForGood a m h = AllAre ForAll a.quantifiers × ((b : Binding) × PassingTotal a m h b × LostBinding a (configurations a m b h))

abbrev pub AcceptsForGood : Automaton → Meaning → List Event → Type 0
AcceptsForGood a m h = AllAre Exists a.quantifiers × ((b : Binding) × PassingTotal a m h b × WonBinding a (configurations a m b h))

-- The same as tests.

-- a chain of at most n transitions leads to a state that passes
abbrev pub leads_within : Automaton → (ℕ → Bool) → ℕ → ℕ → Bool
leads_within a test zero q = test q
leads_within a test (suc n) q = leads_within a test n q || list_any (λ t. (t.from == q) && leads_within a test n t.to) a.transitions

-- as many as there are transitions suffice
abbrev pub leads : Automaton → (ℕ → Bool) → ℕ → Bool
leads a test q = leads_within a test (length a.transitions) q

abbrev pub lost : Automaton → ℕ → Bool
lost a q = not (leads a (final_state a) q)

abbrev pub won : Automaton → ℕ → Bool
won a q = not (leads a (λ r. not (safe_state a r)) q)

abbrev pub lost_binding : Automaton → List Configuration → Bool
lost_binding a gs = list_all (λ g. lost a g.state) gs

abbrev pub won_binding : Automaton → List Configuration → Bool
won_binding a gs = list_any (λ g. won a g.state) gs

abbrev pub is_kind : Kind → Kind → Bool
is_kind ForAll ForAll = true
is_kind ForAll Exists = false
is_kind Exists ForAll = false
is_kind Exists Exists = true

abbrev pub all_are : Kind → List Quantifier → Bool
all_are k qs = list_all (λ q. is_kind q.kind k) qs

abbrev pub passing_totals : Automaton → Meaning → List Event → List Binding
passing_totals a m h = filter (λ b. list_all (λ q. passes m q b) a.quantifiers) (total_bindings (domains a h))

abbrev pub rejects_for_good : Automaton → Meaning → List Event → Bool
rejects_for_good a m h = all_are ForAll a.quantifiers && list_any (λ b. lost_binding a (configurations a m b h)) (passing_totals a m h)

abbrev pub accepts_for_good : Automaton → Meaning → List Event → Bool
accepts_for_good a m h = all_are Exists a.quantifiers && list_any (λ b. won_binding a (configurations a m b h)) (passing_totals a m h)

-- What a verdict tells: accepts or rejects, whether for good, and how many total bindings accept.
pub record Verdict : Type 0 where
  pub accepts : Bool
  pub for_good : Bool
  pub count : ℕ

abbrev pub verdict : Automaton → Meaning → List Event → Verdict
verdict a m h = record { accepts = accepted a m h; for_good = rejects_for_good a m h || accepts_for_good a m h; count = count a m h }
