-- A run as a list of calls: which events stand granted since the latest beginning, and what each call answers.
use Rattle.std.specs.Prelude.{ℕ, Bool, true, false, cond, List, [], ◌∷◌, ◌++◌, Some, None, fold, Option}
use Rattle.qea.specs.declared.fault.Description.{Description}
use Rattle.std.specs.List.{list_any, flat_map}
use Rattle.qea.specs.Events.{Event}
use Rattle.qea.specs.Meaning.{Meaning}
use Rattle.qea.specs.Automaton.{Automaton}
use Rattle.qea.specs.Verdicts.{count}
use Rattle.qea.specs.Endings.{Verdict, verdict}
use Rattle.qea.specs.Refusals.{refusal}

pub data Call : Type 0 where
  offer : Event → Call
  ask_verdict : Call
  begin_again : Call

pub data Reply : Type 0 where
  -- an offer granted, with the count of accepting total bindings, its own event counted in
  granted : ℕ → Reply
  refused : Description → Reply
  told : Verdict → Reply
  begun : Reply

abbrev pub is_beginning : Call → Bool
is_beginning (offer e) = false
is_beginning ask_verdict = false
is_beginning begin_again = true

-- the calls after the latest beginning: those before it, and it, are passed over
abbrev pub since_beginning : List Call → List Call
since_beginning [] = []
since_beginning (c ∷ calls) = cond (list_any is_beginning (c ∷ calls)) (since_beginning calls) (c ∷ calls)

abbrev pub offered_by : Call → List Event
offered_by (offer e) = e ∷ []
offered_by ask_verdict = []
offered_by begin_again = []

-- a granted event is added, and a refused one is not
abbrev pub added_unless : Option Description → List Event → Event → List Event
added_unless None h e = h ++ e ∷ []
added_unless (Some f) h e = h

-- the events after h and those of the second list that are granted, each in its turn
abbrev pub granted_of : Automaton → Meaning → ℕ → List Event → List Event → List Event
granted_of a m capacity h es = fold (λ g e. added_unless (refusal a m capacity g e) g e) h es

-- The events granted since the latest beginning.
abbrev pub events : Automaton → Meaning → ℕ → List Call → List Event
events a m capacity calls = granted_of a m capacity [] (flat_map offered_by (since_beginning calls))

abbrev pub offer_reply : Option Description → ℕ → Reply
offer_reply None n = granted n
offer_reply (Some f) n = refused f

-- What a call answers after the granted events h.
abbrev pub reply : Automaton → Meaning → ℕ → List Event → Call → Reply
reply a m capacity h (offer e) = offer_reply (refusal a m capacity h e) (count a m (h ++ e ∷ []))
reply a m capacity h ask_verdict = told (verdict a m h)
reply a m capacity h begin_again = begun

-- The answers of the second list of calls, made after the first: each by the events granted since the latest beginning before it.
abbrev pub answers : Automaton → Meaning → ℕ → List Call → List Call → List Reply
answers a m capacity before [] = []
answers a m capacity before (c ∷ calls) = reply a m capacity (events a m capacity before) c ∷ answers a m capacity (before ++ c ∷ []) calls
