-- What a store must hold after granted events.
use Rattle.std.specs.Prelude.{◌≡◌, List, [], ◌∷◌, ℤ, Some, None, Option, ◌≢◌}
use Rattle.qea.specs.declared.configuration.Configuration.{Configuration}
use Rattle.qea.specs.declared.configuration.Binding as declared
use Rattle.qea.specs.Events.{Event}
use Rattle.qea.specs.Meaning.{Meaning}
use Rattle.qea.specs.Automaton.{Automaton}
use Rattle.qea.specs.Domains.{domains}
use Rattle.qea.specs.Bindings.{Binding, pick, BindingOf}
use Rattle.qea.specs.Steps.{configurations}

-- a store's meaning: a map from bindings to lists of configurations
abbrev pub Held : Type 0
Held = declared.Binding → Option (List Configuration)

-- a binding as code has it: an entry for each of four variables, nothing where there is no quantifier
abbrev pub key : Binding → declared.Binding
key b = record { values = pick b 0 ∷ pick b 1 ∷ pick b 2 ∷ pick b 3 ∷ [] }

-- The map has exactly the bindings of these domains, each with its list.
pub record Keeps (ds : List (List ℤ)) (lists : Binding → List Configuration) (held : Held) : Type 0 where
  pub all : (b : Binding) → BindingOf ds b → held (key b) ≡ Some (lists b)
  pub no_more : (k : declared.Binding) → ((b : Binding) → BindingOf ds b → key b ≢ k) → held k ≡ None

-- After these events it holds exactly the bindings of the domains with their configurations.
abbrev pub Holds : Automaton → Meaning → List Event → Held → Type 0
Holds a m h held = Keeps (domains a h) (λ b. configurations a m b h) held
