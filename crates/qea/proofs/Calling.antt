-- Runs as lists of calls: what is granted in turn is granted, and a refused offer leaves no trace.
use Rattle.std.proofs.Common.{◌≡◌, ℕ, Bool, false, cond, ◌||◌, List, [], ◌∷◌, ◌++◌, Some, None, Option, sym, refl, ap, ◌∙◌, ap₂, append_assoc, append-nil}
use Rattle.qea.specs.declared.fault.Description.{Description}
use Rattle.std.specs.List.{list_any, flat_map}
use Rattle.qea.specs.Events.{Event}
use Rattle.qea.specs.Meaning.{Meaning}
use Rattle.qea.specs.Automaton.{Automaton}
use Rattle.qea.specs.Verdicts.{count}
use Rattle.qea.specs.Refusals.{refusal, GrantedAfter, Granted}
use Rattle.qea.specs.Runs.{Call, offer, ask_verdict, begin_again, Reply, is_beginning, since_beginning, offered_by, added_unless, granted_of, events, offer_reply, reply, answers}
use Rattle.qea.specs.Laws.{AlwaysGranted, after_call, CallsInTurn, NoTrace}
use Rattle.std.proofs.lemmas.List.Sums.{fold-append}
use Rattle.std.proofs.lemmas.List.Folds.{list_any-append}
use Rattle.std.proofs.lemmas.Bool.{cond-true, cond-false, cond_both}
use Rattle.std.proofs.Math.Bool.{or-true, or-false}
use Rattle.std.proofs.lemmas.Grind.{flat_map-append}

-- granted in turn

module _ (a : Automaton) (m : Meaning) (capacity : ℕ) where
  granted_push : (h more : List Event) (e : Event) → GrantedAfter a m capacity h more → refusal a m capacity (h ++ more) e ≡ None → GrantedAfter a m capacity h (more ++ e ∷ [])
  granted_push h [] e g ok = (ap (λ (x : List Event). refusal a m capacity x e) (sym (append-nil h)) ∙ ok, tt)
  granted_push h (f ∷ more) e g ok = (g.0, granted_push (h ++ f ∷ []) more e g.1 (ap (λ (x : List Event). refusal a m capacity x e) (append_assoc h (f ∷ []) more) ∙ ok))

  granted_from : (h offered : List Event) → Granted a m capacity h → Granted a m capacity (granted_of a m capacity h offered)
  granted_from h [] g = g
  granted_from h (e ∷ offered) g = go (refusal a m capacity h e) refl (λ x k. granted_from x offered k)
    where
      go : (o : Option Description) → refusal a m capacity h e ≡ o → ((x : List Event) → Granted a m capacity x → Granted a m capacity (granted_of a m capacity x offered)) → Granted a m capacity (granted_of a m capacity (added_unless o h e) offered)
      go None k f = f (h ++ e ∷ []) (granted_push [] h e g k)
      go (Some d) k f = f h g

pub always_granted : AlwaysGranted
always_granted a m capacity = (
  (λ offered. granted_from a m capacity [] offered tt),
  λ calls. granted_from a m capacity [] (flat_map offered_by (since_beginning calls)) tt,
)

-- one call more

-- a beginning leaves nothing before it
since_begun : (calls : List Call) → since_beginning (calls ++ begin_again ∷ []) ≡ []
since_begun [] = refl
since_begun (x ∷ calls) = cond-true (list_any is_beginning (x ∷ calls ++ begin_again ∷ [])) _ _ (list_any-append is_beginning (x ∷ calls) (begin_again ∷ []) ∙ or-true _) ∙ since_begun calls

-- any other call is added
since_push : (calls : List Call) (c : Call) → is_beginning c ≡ false → since_beginning (calls ++ c ∷ []) ≡ since_beginning calls ++ c ∷ []
since_push [] c n = ap (λ (t : Bool). cond (t || false) [] (c ∷ [])) n
since_push (x ∷ calls) c n =
    let begins = list_any is_beginning (x ∷ calls) in
    let then = list_any is_beginning (x ∷ calls ++ c ∷ []) in
    let same : then ≡ begins = list_any-append is_beginning (x ∷ calls) (c ∷ []) ∙ ap (λ (t : Bool). begins || (t || false)) n ∙ or-false begins in
    cond_both begins (since_beginning calls) (x ∷ calls) (λ xs. since_beginning (x ∷ calls ++ c ∷ []) ≡ xs ++ c ∷ []) (λ e. cond-true then _ _ (same ∙ e) ∙ since_push calls c n) (λ e. cond-false then _ _ (same ∙ e))

module _ (a : Automaton) (m : Meaning) (capacity : ℕ) where
  events_push : (calls : List Call) (c : Call) → is_beginning c ≡ false → events a m capacity (calls ++ c ∷ []) ≡ granted_of a m capacity (events a m capacity calls) (offered_by c)
  events_push calls c n =
      ap (granted_of a m capacity [])
      (ap (flat_map offered_by) (since_push calls c n) ∙ flat_map-append offered_by (since_beginning calls) (c ∷ []) ∙ ap (λ (x : List Event). flat_map offered_by (since_beginning calls) ++ x) (append-nil (offered_by c)))
      ∙ fold-append (λ g e. added_unless (refusal a m capacity g e) g e) [] (flat_map offered_by (since_beginning calls)) (offered_by c)

pub calls_in_turn : CallsInTurn
calls_in_turn a m capacity calls (offer e) = events_push a m capacity calls (offer e) refl
calls_in_turn a m capacity calls ask_verdict = events_push a m capacity calls ask_verdict refl
calls_in_turn a m capacity calls begin_again = ap (λ (x : List Call). granted_of a m capacity [] (flat_map offered_by x)) (since_begun calls)

-- no trace

module _ (a : Automaton) (m : Meaning) (capacity : ℕ) where
  -- the next events, later answers and all later events depend on the events so far alone
  next_alike : (before other : List Call) (c : Call) → events a m capacity before ≡ events a m capacity other → events a m capacity (before ++ c ∷ []) ≡ events a m capacity (other ++ c ∷ [])
  next_alike before other c e = calls_in_turn a m capacity before c ∙ ap (λ (h : List Event). after_call a m capacity h c) e ∙ sym (calls_in_turn a m capacity other c)

  events_alike : (before other later : List Call) → events a m capacity before ≡ events a m capacity other → events a m capacity (before ++ later) ≡ events a m capacity (other ++ later)
  events_alike before other [] e = ap (events a m capacity) (append-nil before) ∙ e ∙ sym (ap (events a m capacity) (append-nil other))
  events_alike before other (c ∷ later) e =
      ap (events a m capacity) (sym (append_assoc before (c ∷ []) later))
      ∙ events_alike (before ++ c ∷ []) (other ++ c ∷ []) later (next_alike before other c e)
      ∙ ap (events a m capacity) (append_assoc other (c ∷ []) later)

  answers_alike : (before other later : List Call) → events a m capacity before ≡ events a m capacity other → answers a m capacity before later ≡ answers a m capacity other later
  answers_alike before other [] e = refl
  answers_alike before other (c ∷ later) e =
      ap₂ ◌∷◌ (ap (λ (h : List Event). reply a m capacity h c) e)
      (answers_alike (before ++ c ∷ []) (other ++ c ∷ []) later (next_alike before other c e))

  answers_append : (start before later : List Call) → answers a m capacity start (before ++ later) ≡ answers a m capacity start before ++ answers a m capacity (start ++ before) later
  answers_append start [] later = ap (λ (x : List Call). answers a m capacity x later) (sym (append-nil start))
  answers_append start (c ∷ before) later =
      ap (λ (r : List Reply). reply a m capacity (events a m capacity start) c ∷ r)
      (answers_append (start ++ c ∷ []) before later ∙ ap (λ (x : List Call). answers a m capacity (start ++ c ∷ []) before ++ answers a m capacity x later) (append_assoc start (c ∷ []) before))

pub no_trace : NoTrace
no_trace a m capacity before later e f refusing =
    let same : events a m capacity (before ++ offer e ∷ []) ≡ events a m capacity before =
    calls_in_turn a m capacity before (offer e) ∙ ap (λ (o : Option Description). added_unless o (events a m capacity before) e) refusing in (
      answers_append a m capacity [] before (offer e ∷ later)
          ∙ ap₂ (λ (x : Reply) (r : List Reply). answers a m capacity [] before ++ x ∷ r)
          (ap (λ (o : Option Description). offer_reply o (count a m (events a m capacity before ++ e ∷ []))) refusing)
          (answers_alike a m capacity (before ++ offer e ∷ []) before later same),
      answers_append a m capacity [] before later,
      ap (events a m capacity) (sym (append_assoc before (offer e ∷ []) later)) ∙ events_alike a m capacity (before ++ offer e ∷ []) before later same,
    )
