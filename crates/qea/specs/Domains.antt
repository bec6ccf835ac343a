-- The domain of a variable: the values that it has met, in order of first sight.
use Rattle.std.specs.Prelude.{ℕ, cond, List, map, length, ℤ, Some, None, filter, Option, nat_eq, nat_lt}
use Rattle.std.specs.List.{range_with_len, position_from, flat_map}
use Rattle.qea.specs.Limits.{max_domain}
use Rattle.qea.specs.Lists.{joined, firsts}
use Rattle.std.specs.Ordering.{int_eq}
use Rattle.qea.specs.Events.{Event}
use Rattle.qea.specs.Automaton.{Automaton}
use Rattle.qea.specs.Matching.{Sight, sights}

-- where a value stands, if it does
abbrev pub position_of : List ℤ → ℤ → Option ℕ
position_of d v = position_from (λ w. int_eq w v) 0 d

-- the domain with the value in it, at the end if it is new; none if it would pass its limit
abbrev pub grown : List ℤ → ℤ → Option (List ℤ)
grown d v = cond (nat_lt max_domain (length (joined int_eq d v))) None (Some (joined int_eq d v))

-- the values that variable k meets, in the order of the sights
abbrev pub met_by : ℕ → List Sight → List ℤ
met_by k ss = map (λ s. s.value) (filter (λ s. nat_eq s.variable k) ss)

-- the domain that these sights make
abbrev pub domain_of : ℕ → List Sight → List ℤ
domain_of k ss = firsts int_eq (met_by k ss)

-- The domain of variable k after these events: by event, pattern, position.
abbrev pub domain : Automaton → List Event → ℕ → List ℤ
domain a h k = domain_of k (flat_map (sights a) h)

-- the domains of all variables that have a quantifier
abbrev pub domains : Automaton → List Event → List (List ℤ)
domains a h = map (domain a h) (range_with_len 0 (length a.quantifiers))
