-- Which events touch a binding: its slice of the granted events.
use Rattle.std.specs.Prelude.{Bool, false, ◌&&◌, List, ℤ, Some, None, filter, Option}
use Rattle.std.specs.List.{list_all, list_any}
use Rattle.std.specs.Ordering.{int_eq}
use Rattle.qea.specs.Events.{Event}
use Rattle.qea.specs.Automaton.{Pattern, Automaton}
use Rattle.qea.specs.Matching.{matches, sights_through}
use Rattle.qea.specs.Bindings.{Binding, pick}

abbrev pub gives : Option ℤ → ℤ → Bool
gives None v = false
gives (Some w) v = int_eq w v

-- An event touches a binding through a pattern if it matches and the binding gives each variable there the value met.
abbrev pub touches : Binding → Pattern → Event → Bool
touches b p e = matches p e && list_all (λ s. gives (pick b s.variable) s.value) (sights_through e p)

-- through some pattern
abbrev pub touched : Automaton → Binding → Event → Bool
touched a b e = list_any (λ p. touches b p e) a.patterns

-- The slice of a binding: the events that touch it, out of all granted ones.
abbrev pub slice : Automaton → Binding → List Event → List Event
slice a b h = filter (touched a b) h
