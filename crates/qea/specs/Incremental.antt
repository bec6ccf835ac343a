-- One event more, from the domains and the map alone: what code can follow, which keeps no history.
-- The law `OneEventMore` (Laws.antt) says that it comes to what the events define.
use Rattle.std.specs.Prelude.{ℕ, Bool, cond, ◌&&◌, ◌||◌, List, [], ◌∷◌, length, ℤ, Some, None, Ok, Err, filter, Option, Result, slice_index_or, slice_set}
use Rattle.qea.specs.declared.automaton.Kind.TheVariants.{ForAll, Exists}
use Rattle.qea.specs.declared.configuration.Configuration.{Configuration}
use Rattle.qea.specs.declared.fault.Description.{Description}
use Rattle.std.specs.List.{list_all, list_any}
use Rattle.qea.specs.Lists.{first_some}
use Rattle.qea.specs.Faults.{in_run}
use Rattle.qea.specs.Events.{Event, bad_event_at}
use Rattle.qea.specs.Meaning.{Meaning}
use Rattle.qea.specs.Automaton.{Automaton}
use Rattle.qea.specs.Matching.{Sight, sights}
use Rattle.qea.specs.Domains.{grown}
use Rattle.qea.specs.Bindings.{Binding, bindings, total_bindings, without_new}
use Rattle.qea.specs.Slices.{touched}
use Rattle.qea.specs.Steps.{step}
use Rattle.qea.specs.Verdicts.{accepts, passes, judged}
use Rattle.qea.specs.Endings.{lost_binding, won_binding, all_are, Verdict}
use Rattle.qea.specs.Refusals.{store_full, out_of_range_at, list_full, at_zero, refused_at}
use Rattle.qea.specs.Stored.{Held, key, Keeps}

-- Domains

abbrev pub if_grown : {X : Type 0} → Option (List ℤ) → ℕ → (List ℤ → Result X ℕ) → Result X ℕ
if_grown None position rest = Err position
if_grown (Some d) position rest = rest d

-- the domains after these sights, or the position of the first that finds its domain full
abbrev pub grown_by : List (List ℤ) → List Sight → Result (List (List ℤ)) ℕ
grown_by ds [] = Ok ds
grown_by ds (s ∷ ss) = if_grown (grown (slice_index_or ds s.variable []) s.value) s.position (λ d. grown_by (slice_set ds s.variable d) ss)

-- Lists

-- a binding's list after an event, from its list before it moves
abbrev pub next_list : Automaton → Meaning → Event → Binding → List Configuration → List Configuration
next_list a m e b gs = cond (touched a b e) (step a m b gs e) gs

-- the lists after an event: each binding goes on from the list of the binding without its new values
abbrev pub next_lists : Automaton → Meaning → Event → List (List ℤ) → (Binding → List Configuration) → Binding → List Configuration
next_lists a m e old lists b = next_list a m e b (lists (without_new old b))

-- the list that a map has for a binding, the empty one if none
abbrev pub list_or_empty : Option (List Configuration) → List Configuration
list_or_empty None = []
list_or_empty (Some gs) = gs

abbrev pub lists_in : Held → Binding → List Configuration
lists_in held b = list_or_empty (held (key b))

-- The map after an event, from the domains before and after it and the map before it.
abbrev pub NextHeld : Automaton → Meaning → Event → List (List ℤ) → List (List ℤ) → Held → Held → Type 0
NextHeld a m e old new before after = Keeps new (next_lists a m e old (lists_in before)) after

-- Refusals

abbrev pub refusal_grown : Automaton → Meaning → ℕ → List (List ℤ) → (Binding → List Configuration) → Event → Result (List (List ℤ)) ℕ → Option Description
refusal_grown a m capacity old lists e (Err position) = Some (in_run 10 position)
refusal_grown a m capacity old lists e (Ok new) =
    refused_at 11 (at_zero (store_full capacity new)) (
    refused_at 12 (first_some (λ b. out_of_range_at a m e b (lists (without_new old b))) (bindings new)) (
    refused_at 13 (at_zero (list_any (λ b. list_full (next_lists a m e old lists b)) (bindings new))) None))

-- the refusal of an event, from the domains and the lists before it
abbrev pub refusal_from : Automaton → Meaning → ℕ → List (List ℤ) → (Binding → List Configuration) → Event → Option Description
refusal_from a m capacity ds lists e = refused_at 9 (bad_event_at e.values) (refusal_grown a m capacity ds lists e (grown_by ds (sights a e)))

-- Verdicts

abbrev pub count_from : Automaton → List (List ℤ) → (Binding → List Configuration) → ℕ
count_from a ds lists = length (filter (λ b. accepts a (lists b)) (total_bindings ds))

abbrev pub for_good_from : Automaton → Meaning → List (List ℤ) → (Binding → List Configuration) → Bool
for_good_from a m ds lists =
    let passing = filter (λ b. list_all (λ q. passes m q b) a.quantifiers) (total_bindings ds) in
    all_are ForAll a.quantifiers && list_any (λ b. lost_binding a (lists b)) passing || all_are Exists a.quantifiers && list_any (λ b. won_binding a (lists b)) passing

-- the verdict, from the domains and the lists
abbrev pub verdict_from : Automaton → Meaning → List (List ℤ) → (Binding → List Configuration) → Verdict
verdict_from a m ds lists = record {
  accepts = judged m (λ b. accepts a (lists b)) a.quantifiers ds [];
  for_good = for_good_from a m ds lists;
  count = count_from a ds lists;
}
