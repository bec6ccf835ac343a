-- Which offered events are refused, with which number and place: from the rule, the theory's meaning, the store's capacity and the granted events alone.
use Rattle.std.specs.Prelude.{◌≡◌, ℕ, Bool, cond, List, [], ◌∷◌, ◌++◌, length, ℤ, Some, None, Option, nat_lt}
use Rattle.std.specs.List.{slice_get, list_any, position_from, flat_map}
use Rattle.qea.specs.declared.configuration.Configuration.{Configuration}
use Rattle.qea.specs.declared.fault.Description.{Description}
use Rattle.qea.specs.Limits.{max_domain, max_configurations}
use Rattle.qea.specs.Lists.{first_some}
use Rattle.std.specs.Option.{is_none}
use Rattle.qea.specs.Faults.{in_run}
use Rattle.qea.specs.Events.{Event, bad_event_at}
use Rattle.qea.specs.Meaning.{Meaning}
use Rattle.qea.specs.Automaton.{Automaton}
use Rattle.qea.specs.Matching.{Sight, sights}
use Rattle.qea.specs.Domains.{domain_of, domains}
use Rattle.qea.specs.Bindings.{Binding, bindings, product}
use Rattle.qea.specs.Steps.{tries, configurations}

-- 10: the position of the first sight that makes its variable's domain pass 64, all sights before it counted in
abbrev pub overfull_at : List Sight → List Sight → Option ℕ
overfull_at before [] = None
overfull_at before (s ∷ ss) = cond (nat_lt max_domain (length (domain_of s.variable (before ++ s ∷ [])))) (Some s.position) (overfull_at (before ++ s ∷ []) ss)

-- 11: the bindings would pass the capacity
abbrev pub store_full : ℕ → List (List ℤ) → Bool
store_full capacity ds = nat_lt capacity (product ds)

-- 12: the transition met first whose action is out of range, by configuration and transition
abbrev pub out_of_range_at : Automaton → Meaning → Event → Binding → List Configuration → Option ℕ
out_of_range_at a m e b gs = first_some (λ g. position_from (λ t. list_any is_none (tries m b e g t (slice_get a.patterns t.pattern))) 0 a.transitions) gs

-- 13: nine configurations or more
abbrev pub list_full : List Configuration → Bool
list_full gs = nat_lt max_configurations (length gs)

-- the place of a refusal that has none of its own
abbrev pub at_zero : Bool → Option ℕ
at_zero applies = cond applies (Some 0) None

-- refused with this number, if there is a place for it; else what comes after
abbrev pub refused_at : ℕ → Option ℕ → Option Description → Option Description
refused_at n None other = other
refused_at n (Some place) other = Some (in_run n place)

-- The refusal of an event offered after the granted events h: the first number that applies, with its place. None if it is granted.
abbrev pub refusal : Automaton → Meaning → ℕ → List Event → Event → Option Description
refusal a m capacity h e =
    let new = domains a (h ++ e ∷ []) in
    refused_at 9 (bad_event_at e.values) (
    refused_at 10 (overfull_at (flat_map (sights a) h) (sights a e)) (
    refused_at 11 (at_zero (store_full capacity new)) (
    refused_at 12 (first_some (λ b. out_of_range_at a m e b (configurations a m b h)) (bindings new)) (
    refused_at 13 (at_zero (list_any (λ b. list_full (configurations a m b (h ++ e ∷ []))) (bindings new))) None))))

-- Each event of the second list is granted in its turn, after those of the first.
abbrev pub GrantedAfter : Automaton → Meaning → ℕ → List Event → List Event → Type 0
GrantedAfter a m capacity h [] = Unit {0}
GrantedAfter a m capacity h (e ∷ more) = (refusal a m capacity h e ≡ None) × GrantedAfter a m capacity (h ++ e ∷ []) more

abbrev pub Granted : Automaton → Meaning → ℕ → List Event → Type 0
Granted a m capacity h = GrantedAfter a m capacity [] h
