-- The laws of the semantics, on which runs rest. Each is the contract of a function in src/laws.rt.
use Rattle.std.specs.Prelude.{◌≡◌, ℕ, ◌<◌, ◌≤◌, true, false, cond, ◌⊎◌, List, [], ◌∷◌, ◌++◌, map, length, ℤ, is_some, Some, None, Ok, Err, Decides, Option, Result, nat_lt}
use Rattle.std.specs.List.{range_with_len, list_any, flat_map}
use Rattle.qea.specs.declared.fault.Description.{Description}
use Rattle.qea.specs.Limits.{max_domain, max_configurations}
use Rattle.qea.specs.Lists.{In, Distinct}
use Rattle.std.specs.Option.{is_none}
use Rattle.qea.specs.Events.{Event, bad_event_at}
use Rattle.qea.specs.Meaning.{Meaning}
use Rattle.qea.specs.Automaton.{Automaton}
use Rattle.qea.specs.Matching.{sights}
use Rattle.qea.specs.Domains.{domain, domains}
use Rattle.qea.specs.Bindings.{Binding, BindingOf, bindings, product, number, binding_at, without_new}
use Rattle.qea.specs.Slices.{touched, slice}
use Rattle.qea.specs.Steps.{start, step, outcomes, configurations}
use Rattle.qea.specs.WellFormed.{WellFormed}
use Rattle.qea.specs.Verdicts.{accepted, Accepted}
use Rattle.qea.specs.Endings.{Lost, Won, LostBinding, WonBinding, lost, won, RejectsForGood, AcceptsForGood, verdict}
use Rattle.qea.specs.Refusals.{overfull_at, store_full, list_full, refusal, Granted, GrantedAfter}
use Rattle.qea.specs.Stored.{Held, Holds}
use Rattle.qea.specs.Runs.{Call, offer, ask_verdict, begin_again, refused, added_unless, granted_of, events, answers}
use Rattle.qea.specs.Incremental.{grown_by, next_list, lists_in, NextHeld, refusal_from, verdict_from}

-- Slices

-- A binding that gives values its domains still lack has, so far, the slice and the configurations of the binding that gives nothing there.
abbrev pub LateSlice : Type 0
LateSlice = (a : Automaton) (h : List Event) (b : Binding) → length b ≡ length a.quantifiers → slice a b h ≡ slice a (without_new (domains a h) b) h

abbrev pub LateConfigurations : Type 0
LateConfigurations = (a : Automaton) (m : Meaning) → WellFormed a m → (h : List Event) (b : Binding) → length b ≡ length a.quantifiers → configurations a m b h ≡ configurations a m (without_new (domains a h) b) h

-- A binding moves at the events of its slice and stands still at all others.
pub record Moves (a : Automaton) (m : Meaning) (b : Binding) (h : List Event) (e : Event) : Type 0 where
  pub moves : touched a b e ≡ true → (slice a b (h ++ e ∷ []) ≡ slice a b h ++ e ∷ []) × (configurations a m b (h ++ e ∷ []) ≡ step a m b (configurations a m b h) e)
  pub stands : touched a b e ≡ false → (slice a b (h ++ e ∷ []) ≡ slice a b h) × (configurations a m b (h ++ e ∷ []) ≡ configurations a m b h)

abbrev pub MovesInSlice : Type 0
MovesInSlice = (a : Automaton) (m : Meaning) (b : Binding) (h : List Event) (e : Event) → Moves a m b h e

-- After one event more, each binding's list comes from the list that the binding without its new values had before the event.
abbrev pub GoesOnFromEarlier : Type 0
GoesOnFromEarlier =
    (a : Automaton) (m : Meaning) → WellFormed a m → (h : List Event) (e : Event) (b : Binding) → BindingOf (domains a (h ++ e ∷ [])) b →
    BindingOf (domains a h) (without_new (domains a h) b) × (configurations a m b (h ++ e ∷ []) ≡ next_list a m e b (configurations a m (without_new (domains a h) b) h))

-- An earlier binding has no new values, and so goes on from its own list.
abbrev pub EarlierKeepsOwn : Type 0
EarlierKeepsOwn = (a : Automaton) (h : List Event) (b : Binding) → BindingOf (domains a h) b → without_new (domains a h) b ≡ b

-- Domains and bindings

-- Domains only grow, at their end, and hold no value twice; a binding stays a binding.
abbrev pub DomainsGrow : Type 0
DomainsGrow =
    (a : Automaton) (h more : List Event) →
    ((k : ℕ) → (new : List ℤ) × (domain a (h ++ more) k ≡ domain a h k ++ new)) × ((b : Binding) → BindingOf (domains a h) b → BindingOf (domains a (h ++ more)) b)

abbrev pub DomainsApart : Type 0
DomainsApart = (a : Automaton) (h : List Event) (k : ℕ) → Distinct (domain a h k)

-- The listing has every binding, and nothing else, each once; it is as long as the product, and stands in the order of the numbers.
pub record Listing (ds : List (List ℤ)) : Type 0 where
  pub complete : (b : Binding) → BindingOf ds b → In b (bindings ds)
  pub sound : (b : Binding) → In b (bindings ds) → BindingOf ds b
  pub apart : Distinct (bindings ds)
  pub many : length (bindings ds) ≡ product ds
  pub ordered : bindings ds ≡ map (binding_at ds) (range_with_len 0 (product ds))

abbrev pub BindingsListed : Type 0
BindingsListed = (a : Automaton) (h : List Event) → Listing (domains a h)

-- Number and binding determine each other.
pub record Numbering (ds : List (List ℤ)) : Type 0 where
  pub of_binding : (b : Binding) → BindingOf ds b → (number ds b < product ds) × (binding_at ds (number ds b) ≡ b)
  pub of_number : (n : ℕ) → n < product ds → BindingOf ds (binding_at ds n) × (number ds (binding_at ds n) ≡ n)

abbrev pub BindingsNumbered : Type 0
BindingsNumbered = (a : Automaton) (h : List Event) → Numbering (domains a h)

-- Verdicts

-- The verdict's test decides the statement.
abbrev pub VerdictDecides : Type 0
VerdictDecides = (a : Automaton) (m : Meaning) (h : List Event) → Decides (accepted a m h) (Accepted a m h)

-- The tests for lost and won, and for 'for good', decide the statements by chains.
abbrev pub EndingsDecide : Type 0
EndingsDecide =
    (a : Automaton) → ((q : ℕ) → Decides (lost a q) (Lost a q) × Decides (won a q) (Won a q)) ×
    ((m : Meaning) (h : List Event) → Decides (verdict a m h).for_good (RejectsForGood a m h ⊎ AcceptsForGood a m h))

-- What is for good stays so over every longer granted list, and so does the verdict.
abbrev pub RejectsLasts : Type 0
RejectsLasts = (a : Automaton) (m : Meaning) → WellFormed a m → (h more : List Event) → RejectsForGood a m h → RejectsForGood a m (h ++ more) × (accepted a m (h ++ more) ≡ false)

abbrev pub AcceptsLasts : Type 0
AcceptsLasts = (a : Automaton) (m : Meaning) → WellFormed a m → (capacity : ℕ) (h more : List Event) → GrantedAfter a m capacity h more → AcceptsForGood a m h → AcceptsForGood a m (h ++ more) × (accepted a m (h ++ more) ≡ true)

abbrev pub ForGoodLasts : Type 0
ForGoodLasts =
    (a : Automaton) (m : Meaning) → WellFormed a m → (capacity : ℕ) (h more : List Event) → GrantedAfter a m capacity h more → (verdict a m h).for_good ≡ true →
    ((verdict a m (h ++ more)).for_good ≡ true) × ((verdict a m (h ++ more)).accepts ≡ (verdict a m h).accepts)

-- Without quantifiers both cases apply, to the one binding that there is.
abbrev pub WithoutQuantifiers : Type 0
WithoutQuantifiers =
    (a : Automaton) (m : Meaning) (h : List Event) → a.quantifiers ≡ [] →
    Decides (verdict a m h).for_good (LostBinding a (configurations a m [] h) ⊎ WonBinding a (configurations a m [] h))

-- Refusals

-- After granted events the number of a refusal is that of the first condition that applies.
abbrev pub first_condition : Automaton → Meaning → ℕ → List Event → Event → Option ℕ
first_condition a m capacity h e =
    let new = domains a (h ++ e ∷ []) in
    cond (is_some (bad_event_at e.values)) (Some 9) (
    cond (list_any (λ d. nat_lt max_domain (length d)) new) (Some 10) (
    cond (store_full capacity new) (Some 11) (
    cond (list_any (λ b. list_any (λ g. list_any is_none (outcomes a m b e g)) (configurations a m b h)) (bindings new)) (Some 12) (
    cond (list_any (λ b. list_full (configurations a m b (h ++ e ∷ []))) (bindings new)) (Some 13) None))))

abbrev pub number_of : Option Description → Option ℕ
number_of None = None
number_of (Some f) = Some f.number

abbrev pub RefusalConditions : Type 0
RefusalConditions = (a : Automaton) (m : Meaning) → WellFormed a m → (capacity : ℕ) → 1 ≤ capacity → (h : List Event) (e : Event) → Granted a m capacity h → number_of (refusal a m capacity h e) ≡ first_condition a m capacity h e

-- What is granted keeps the limits: at most 64 values in a domain, no more bindings than the capacity, at most 8 configurations.
pub record Bounded (a : Automaton) (m : Meaning) (capacity : ℕ) (h : List Event) : Type 0 where
  pub values : (d : List ℤ) → In d (domains a h) → length d ≤ max_domain
  pub bindings : product (domains a h) ≤ capacity
  pub lists : (b : Binding) → BindingOf (domains a h) b → length (configurations a m b h) ≤ max_configurations

abbrev pub GrantedBounded : Type 0
GrantedBounded = (a : Automaton) (m : Meaning) → WellFormed a m → (capacity : ℕ) → 1 ≤ capacity → (h : List Event) → Granted a m capacity h → Bounded a m capacity h

-- Runs

-- What is granted in turn, of any offered events and of any calls, is a granted list.
abbrev pub AlwaysGranted : Type 0
AlwaysGranted =
    (a : Automaton) (m : Meaning) (capacity : ℕ) →
    ((offered : List Event) → Granted a m capacity (granted_of a m capacity [] offered)) × ((calls : List Call) → Granted a m capacity (events a m capacity calls))

-- One call more: an offer adds its event if it is granted, a question nothing, and a beginning empties.
abbrev pub after_call : Automaton → Meaning → ℕ → List Event → Call → List Event
after_call a m capacity h (offer e) = added_unless (refusal a m capacity h e) h e
after_call a m capacity h ask_verdict = h
after_call a m capacity h begin_again = []

abbrev pub CallsInTurn : Type 0
CallsInTurn = (a : Automaton) (m : Meaning) (capacity : ℕ) (calls : List Call) (c : Call) → events a m capacity (calls ++ c ∷ []) ≡ after_call a m capacity (events a m capacity calls) c

-- A refused event leaves no trace: without the offer every other call is answered the same, and the same events stand granted.
abbrev pub NoTrace : Type 0
NoTrace =
    (a : Automaton) (m : Meaning) (capacity : ℕ) (before later : List Call) (e : Event) (f : Description) → refusal a m capacity (events a m capacity before) e ≡ Some f →
    (answers a m capacity [] (before ++ offer e ∷ later) ≡ answers a m capacity [] before ++ refused f ∷ answers a m capacity before later) ×
    (answers a m capacity [] (before ++ later) ≡ answers a m capacity [] before ++ answers a m capacity before later) ×
    (events a m capacity (before ++ offer e ∷ later) ≡ events a m capacity (before ++ later))

-- One event more

-- Before any event each domain is empty, so that there is one binding, which gives nothing; every binding stands at the start.
pub record Beginning (a : Automaton) (m : Meaning) : Type 0 where
  pub empty : (k : ℕ) → domain a [] k ≡ []
  pub one : product (domains a []) ≡ 1
  pub lists : (b : Binding) → configurations a m b [] ≡ start a ∷ []

abbrev pub BeginsAtStart : Type 0
BeginsAtStart = (a : Automaton) (m : Meaning) → Beginning a m

abbrev pub domains_or_position : Option ℕ → List (List ℤ) → Result (List (List ℤ)) ℕ
domains_or_position None ds = Ok ds
domains_or_position (Some position) ds = Err position

-- The incremental description agrees with the one over all events, at a list longer by one.
pub record Incremental (a : Automaton) (m : Meaning) (capacity : ℕ) (h : List Event) (e : Event) (before : Held) : Type 0 where
  pub grown : grown_by (domains a h) (sights a e) ≡ domains_or_position (overfull_at (flat_map (sights a) h) (sights a e)) (domains a (h ++ e ∷ []))
  pub held : (after : Held) → NextHeld a m e (domains a h) (domains a (h ++ e ∷ [])) before after → Holds a m (h ++ e ∷ []) after
  pub refused : refusal_from a m capacity (domains a h) (lists_in before) e ≡ refusal a m capacity h e
  pub told : verdict_from a m (domains a h) (lists_in before) ≡ verdict a m h

abbrev pub OneEventMore : Type 0
OneEventMore = (a : Automaton) (m : Meaning) → WellFormed a m → (capacity : ℕ) (h : List Event) (e : Event) (before : Held) → Holds a m h before → Incremental a m capacity h e before
