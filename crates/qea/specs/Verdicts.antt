-- From configurations to acceptance, and the quantifiers over the total bindings.
use Rattle.std.specs.Prelude.{◌≡◌, ℕ, Bool, true, cond, ◌&&◌, List, [], ◌∷◌, ◌++◌, length, ℤ, pos, Some, filter}
use Rattle.std.specs.List.{slice_get, list_all, list_any}
use Rattle.qea.specs.declared.automaton.Kind.{Kind}
use Rattle.qea.specs.declared.automaton.Kind.TheVariants.{ForAll, Exists}
use Rattle.qea.specs.declared.automaton.Quantifier.{Quantifier}
use Rattle.qea.specs.declared.configuration.Configuration.{Configuration}
use Rattle.qea.specs.Lists.{In}
use Rattle.qea.specs.Events.{Event}
use Rattle.qea.specs.Meaning.{Meaning, holds}
use Rattle.qea.specs.Automaton.{Automaton}
use Rattle.qea.specs.Domains.{domains}
use Rattle.qea.specs.Bindings.{Binding, total_bindings}
use Rattle.qea.specs.Steps.{row, is_final, configurations}

-- A binding accepts if one of its configurations is in a final state.
abbrev pub final_at : Automaton → Configuration → Bool
final_at a g = is_final (slice_get a.states g.state)

abbrev pub accepts : Automaton → List Configuration → Bool
accepts a gs = list_any (final_at a) gs

abbrev pub accepting : Automaton → Meaning → List Event → Binding → Bool
accepting a m h b = accepts a (configurations a m b h)

-- how many total bindings accept
abbrev pub count : Automaton → Meaning → List Event → ℕ
count a m h = length (filter (accepting a m h) (total_bindings (domains a h)))

-- A binding passes a quantifier's guard. The guard reads no register, so these are asked as zeros.
abbrev pub no_registers : List ℤ
no_registers = pos 0 ∷ pos 0 ∷ pos 0 ∷ pos 0 ∷ []

abbrev pub passes : Meaning → Quantifier → Binding → Bool
passes m q b = holds m q.guard (row b no_registers)

-- 'For all' holds if the rest holds for each value of the domain that passes the guard, 'exists' if for some such value.
abbrev pub quantified : Kind → (ℤ → Bool) → (ℤ → Bool) → List ℤ → Bool
quantified ForAll pass rest d = list_all (λ v. cond (pass v) (rest v) true) d
quantified Exists pass rest d = list_any (λ v. pass v && rest v) d

-- The quantifiers from the outermost inwards; b is what the outer ones have bound, and goal is asked of each total binding.
abbrev pub judged : Meaning → (Binding → Bool) → List Quantifier → List (List ℤ) → Binding → Bool
judged m goal [] ds b = goal b
judged m goal (q ∷ qs) [] b = goal b
judged m goal (q ∷ qs) (d ∷ ds) b = quantified q.kind (λ v. passes m q (b ++ Some v ∷ [])) (λ v. judged m goal qs ds (b ++ Some v ∷ [])) d

-- Whether the rule accepts these events.
abbrev pub accepted : Automaton → Meaning → List Event → Bool
accepted a m h = judged m (accepting a m h) a.quantifiers (domains a h) []

-- The same as statements.
abbrev pub Accepts : Automaton → List Configuration → Type 0
Accepts a gs = (g : Configuration) × In g gs × (final_at a g ≡ true)

abbrev pub Quantified : Kind → (ℤ → Type 0) → (ℤ → Type 0) → List ℤ → Type 0
Quantified ForAll Pass Rest d = (v : ℤ) → In v d → Pass v → Rest v
Quantified Exists Pass Rest d = (v : ℤ) × In v d × Pass v × Rest v

abbrev pub Judged : Meaning → (Binding → Type 0) → List Quantifier → List (List ℤ) → Binding → Type 0
Judged m Goal [] ds b = Goal b
Judged m Goal (q ∷ qs) [] b = Goal b
Judged m Goal (q ∷ qs) (d ∷ ds) b = Quantified q.kind (λ v. passes m q (b ++ Some v ∷ []) ≡ true) (λ v. Judged m Goal qs ds (b ++ Some v ∷ [])) d

abbrev pub Accepted : Automaton → Meaning → List Event → Type 0
Accepted a m h = Judged m (λ b. Accepts a (configurations a m b h)) a.quantifiers (domains a h) []
