-- Worked cases: what a run must answer, in one table. The definitions compute each row, so a slip in them shows here.
use Rattle.std.specs.Prelude.{◌≡◌, ℕ, suc, Bool, true, false, List, [], ◌∷◌, ◌++◌, map, pos}
use Rattle.qea.specs.declared.term.Term.{Term}
use Rattle.qea.specs.declared.term.Term.TheVariants.{Blank, Variable, Register}
use Rattle.qea.specs.declared.automaton.Kind.TheVariants.{ForAll, Exists}
use Rattle.qea.specs.declared.automaton.Mode.TheVariants.{Skip, Next}
use Rattle.qea.specs.declared.automaton.Quantifier.{Quantifier}
use Rattle.qea.specs.declared.automaton.State.{State}
use Rattle.qea.specs.declared.automaton.Transition.{Transition}
use Rattle.qea.specs.Faults.{in_run}
use Rattle.qea.specs.Meaning.{Meaning}
use Rattle.qea.specs.Automaton.{Pattern, Automaton}
use Rattle.qea.specs.Runs.{Call, offer, ask_verdict, begin_again, Reply, granted, refused, told, begun, answers}
use Rattle.qea.specs.WorkedTheory.{no_theory, distance_theory, nonzero_theory}

-- a rule, a theory's meaning and a store's capacity, the calls made, and what they must answer
pub record Case : Type 0 where
  pub rule : Automaton
  pub meaning : Meaning
  pub capacity : ℕ
  pub calls : List Call
  pub replies : List Reply

-- Words for rows.
abbrev pub for_all : Quantifier
for_all = record { kind = ForAll; guard = 0 }

abbrev pub exists : Quantifier
exists = record { kind = Exists; guard = 0 }

abbrev pub skip_final : State
skip_final = record { mode = Skip; accepting = true }

abbrev pub skip_open : State
skip_open = record { mode = Skip; accepting = false }

abbrev pub next_final : State
next_final = record { mode = Next; accepting = true }

abbrev pub pattern : ℕ → List Term → Pattern
pattern n ts = record { event = n; terms = ts }

-- from a state through a pattern to a state, with guard and action 0
abbrev pub move : ℕ → ℕ → ℕ → Transition
move q p r = record { from = q; pattern = p; guard = 0; action = 0; to = r }

-- event n with these values
abbrev pub offers : ℕ → List ℕ → Call
offers n vs = offer (record { number = n; values = map pos vs })

abbrev pub accepts : Bool
accepts = true

abbrev pub rejects : Bool
rejects = false

abbrev pub for_good : Bool
for_good = true

abbrev pub so_far : Bool
so_far = false

-- a verdict with its count
abbrev pub says : Bool → Bool → ℕ → Reply
says verdict ending n = told (record { accepts = verdict; for_good = ending; count = n })

-- a refusal with its number and place
abbrev pub refuses : ℕ → ℕ → Reply
refuses n place = refused (in_run n place)

-- the greatest value
abbrev pub most : ℕ
most = 1_000_000_000_000

-- Rules.

-- nothing ever happens in the only state
abbrev pub still_rule : List Quantifier → State → List Pattern → Automaton
still_rule qs s ps = record { quantifiers = qs; starts = []; states = s ∷ []; patterns = ps; transitions = [] }

-- For all routes: a gauge (event 3) and then the route (event 1) lead to the only state that is not final.
abbrev pub gauge_rule : Automaton
gauge_rule = record {
  quantifiers = for_all ∷ [];
  starts = [];
  states = skip_final ∷ skip_final ∷ skip_open ∷ [];
  patterns = pattern 3 (Register 0 ∷ []) ∷ pattern 1 (Variable 0 ∷ []) ∷ [];
  transitions = move 0 0 1 ∷ move 1 1 2 ∷ [];
}

-- For all routes: a leg (event 1: route, length) adds its length to the sum; a panel (event 2: route, figure) that shows too little fails.
abbrev pub distance_rule : Automaton
distance_rule = record {
  quantifiers = for_all ∷ [];
  starts = [];
  states = skip_final ∷ skip_open ∷ [];
  patterns = pattern 1 (Variable 0 ∷ Register 0 ∷ []) ∷ pattern 2 (Variable 0 ∷ Register 2 ∷ []) ∷ [];
  transitions = record { from = 0; pattern = 0; guard = 0; action = 1; to = 0 } ∷ record { from = 0; pattern = 1; guard = 1; action = 0; to = 1 } ∷ [];
}

-- each value stays in state 0 and goes to state 1 as well
abbrev pub split_rule : Automaton
split_rule = record {
  quantifiers = [];
  starts = [];
  states = skip_final ∷ skip_final ∷ [];
  patterns = pattern 1 (Register 0 ∷ []) ∷ [];
  transitions = move 0 0 0 ∷ move 0 0 1 ∷ [];
}

-- event 1 leads to states 1, 2 and 1 again; at event 2 the sum of the start values is out of range in both
abbrev pub repeat_rule : Automaton
repeat_rule = record {
  quantifiers = [];
  starts = pos most ∷ pos 1 ∷ [];
  states = skip_final ∷ skip_final ∷ skip_final ∷ [];
  patterns = pattern 1 [] ∷ pattern 2 [] ∷ [];
  transitions = move 0 0 1 ∷ move 0 0 2 ∷ move 0 0 1 ∷ record { from = 1; pattern = 1; guard = 0; action = 1; to = 1 } ∷ record { from = 2; pattern = 1; guard = 0; action = 1; to = 2 } ∷ [];
}

-- For all values but 0: event 1 fails, and event 2 does nothing.
abbrev pub nonzero_rule : Automaton
nonzero_rule = record {
  quantifiers = record { kind = ForAll; guard = 1 } ∷ [];
  starts = [];
  states = skip_final ∷ skip_open ∷ [];
  patterns = pattern 1 (Variable 0 ∷ []) ∷ pattern 2 (Variable 0 ∷ []) ∷ [];
  transitions = move 0 0 1 ∷ [];
}

-- For all values: each of an event's four values is one.
abbrev pub fours_rule : Automaton
fours_rule = still_rule (for_all ∷ []) skip_final
    (pattern 1 (Variable 0 ∷ Blank ∷ Blank ∷ Blank ∷ []) ∷
    pattern 1 (Blank ∷ Variable 0 ∷ Blank ∷ Blank ∷ []) ∷
    pattern 1 (Blank ∷ Blank ∷ Variable 0 ∷ Blank ∷ []) ∷
    pattern 1 (Blank ∷ Blank ∷ Blank ∷ Variable 0 ∷ []) ∷ [])

abbrev pub cases : List Case
cases =
    -- Without a quantifier there is one total binding, the empty one. Its state is final and skip and no transition leaves it, so that is for good.
    record {
      rule = still_rule [] skip_final [];
      meaning = no_theory;
      capacity = 1;
      calls = ask_verdict ∷ [];
      replies = says accepts for_good 1 ∷ [];
    } ∷
    -- 'For all' holds over an empty domain, and not for good: values may still come.
    record {
      rule = still_rule (for_all ∷ []) skip_final [];
      meaning = no_theory;
      capacity = 4;
      calls = ask_verdict ∷ [];
      replies = says accepts so_far 0 ∷ [];
    } ∷
    -- 'Exists' fails over an empty domain, and not for good either.
    record {
      rule = still_rule (exists ∷ []) skip_final [];
      meaning = no_theory;
      capacity = 4;
      calls = ask_verdict ∷ [];
      replies = says rejects so_far 0 ∷ [];
    } ∷
    -- A slice has the events from before its values were seen: the gauge counts for route 7, which comes later.
    record {
      rule = gauge_rule;
      meaning = no_theory;
      capacity = 4;
      calls = offers 3 (50 ∷ []) ∷ offers 1 (7 ∷ []) ∷ ask_verdict ∷ [];
      replies = granted 0 ∷ granted 0 ∷ says rejects for_good 0 ∷ [];
    } ∷
    -- The other order leaves route 7 in state 1. That is final although no later state is, so the route is not lost.
    record {
      rule = gauge_rule;
      meaning = no_theory;
      capacity = 4;
      calls = offers 1 (7 ∷ []) ∷ offers 3 (50 ∷ []) ∷ ask_verdict ∷ [];
      replies = granted 1 ∷ granted 1 ∷ says accepts so_far 1 ∷ [];
    } ∷
    -- There is room for four bindings, one of them without a value, so a fourth value is refused. It is in no domain then.
    record {
      rule = gauge_rule;
      meaning = no_theory;
      capacity = 4;
      calls = offers 1 (1 ∷ []) ∷ offers 1 (2 ∷ []) ∷ offers 1 (3 ∷ []) ∷ offers 1 (4 ∷ []) ∷ ask_verdict ∷ offers 1 (3 ∷ []) ∷ [];
      replies = granted 1 ∷ granted 2 ∷ granted 3 ∷ refuses 11 0 ∷ says accepts so_far 3 ∷ granted 3 ∷ [];
    } ∷
    -- Each route has a slice and a sum of its own: 20 is too little for the 2080 of route 7, and route 9 goes on.
    record {
      rule = distance_rule;
      meaning = distance_theory;
      capacity = 128;
      calls = offers 1 (7 ∷ 1040 ∷ []) ∷ offers 1 (7 ∷ 1040 ∷ []) ∷ offers 1 (9 ∷ 500 ∷ []) ∷ ask_verdict ∷ offers 2 (7 ∷ 20 ∷ []) ∷ ask_verdict ∷ [];
      replies = granted 1 ∷ granted 1 ∷ granted 2 ∷ says accepts so_far 2 ∷ granted 1 ∷ says rejects for_good 1 ∷ [];
    } ∷
    -- The sum may be the greatest value and not pass it. The refused leg leaves route 7 as it was.
    record {
      rule = distance_rule;
      meaning = distance_theory;
      capacity = 128;
      calls = offers 1 (7 ∷ most ∷ []) ∷ offers 1 (7 ∷ 0 ∷ []) ∷ offers 1 (7 ∷ 1 ∷ []) ∷ ask_verdict ∷ [];
      replies = granted 1 ∷ granted 1 ∷ refuses 12 0 ∷ says accepts so_far 1 ∷ [];
    } ∷
    -- Each value makes one configuration more, and the ninth is refused.
    record {
      rule = split_rule;
      meaning = no_theory;
      capacity = 1;
      calls = offers 1 (1 ∷ []) ∷ offers 1 (2 ∷ []) ∷ offers 1 (3 ∷ []) ∷ offers 1 (4 ∷ []) ∷ offers 1 (5 ∷ []) ∷ offers 1 (6 ∷ []) ∷ offers 1 (7 ∷ []) ∷ offers 1 (8 ∷ []) ∷ [];
      replies = granted 1 ∷ granted 1 ∷ granted 1 ∷ granted 1 ∷ granted 1 ∷ granted 1 ∷ granted 1 ∷ refuses 13 0 ∷ [];
    } ∷
    -- Where no transition is taken, a next state drops its configuration, and a binding without configurations is lost.
    record {
      rule = still_rule [] next_final (pattern 1 (Register 0 ∷ []) ∷ []);
      meaning = no_theory;
      capacity = 1;
      calls = ask_verdict ∷ offers 1 (5 ∷ []) ∷ ask_verdict ∷ [];
      replies = says accepts so_far 1 ∷ granted 0 ∷ says rejects for_good 0 ∷ [];
    } ∷
    -- Of equal configurations the first stays, so state 1 stands before state 2: transition 3 is out of range first, not 4.
    record {
      rule = repeat_rule;
      meaning = distance_theory;
      capacity = 1;
      calls = offers 1 [] ∷ offers 2 [] ∷ [];
      replies = granted 1 ∷ refuses 12 3 ∷ [];
    } ∷
    -- Five values are no event, nor is one with a value out of range. Refused, they change nothing: 9 is in no domain.
    record {
      rule = distance_rule;
      meaning = distance_theory;
      capacity = 128;
      calls = offers 1 (7 ∷ 1040 ∷ []) ∷ offers 1 (9 ∷ suc most ∷ 0 ∷ 0 ∷ 0 ∷ []) ∷ offers 1 (9 ∷ suc most ∷ []) ∷ ask_verdict ∷ [];
      replies = granted 1 ∷ refuses 9 4 ∷ refuses 9 1 ∷ says accepts so_far 1 ∷ [];
    } ∷
    -- After a new beginning the domains are empty again.
    record {
      rule = gauge_rule;
      meaning = no_theory;
      capacity = 4;
      calls = offers 1 (7 ∷ []) ∷ offers 1 (8 ∷ []) ∷ begin_again ∷ ask_verdict ∷ offers 1 (9 ∷ []) ∷ [];
      replies = granted 1 ∷ granted 2 ∷ begun ∷ says accepts so_far 0 ∷ granted 1 ∷ [];
    } ∷
    -- For all x exists y, with no y ever seen: that holds while there is no x, and fails for each x.
    record {
      rule = still_rule (for_all ∷ exists ∷ []) skip_final (pattern 1 (Variable 0 ∷ []) ∷ []);
      meaning = no_theory;
      capacity = 4;
      calls = ask_verdict ∷ offers 1 (7 ∷ []) ∷ ask_verdict ∷ [];
      replies = says accepts so_far 0 ∷ granted 0 ∷ says rejects so_far 0 ∷ [];
    } ∷
    -- The guard leaves out value 0, so it does no harm that 0 fails, and harm that 1 does. The count disregards the guard.
    record {
      rule = nonzero_rule;
      meaning = nonzero_theory;
      capacity = 4;
      calls = offers 2 (0 ∷ []) ∷ ask_verdict ∷ offers 1 (0 ∷ []) ∷ ask_verdict ∷ offers 1 (1 ∷ []) ∷ ask_verdict ∷ [];
      replies = granted 1 ∷ says accepts so_far 1 ∷ granted 0 ∷ says accepts so_far 0 ∷ granted 0 ∷ says rejects for_good 0 ∷ [];
    } ∷
    -- A domain has room for 64 values. The place of the refusal is the position of the value that has none.
    record {
      rule = fours_rule;
      meaning = no_theory;
      capacity = 4096;
      calls = map (offers 1) (
          (0 ∷ 1 ∷ 2 ∷ 3 ∷ []) ∷ (4 ∷ 5 ∷ 6 ∷ 7 ∷ []) ∷ (8 ∷ 9 ∷ 10 ∷ 11 ∷ []) ∷ (12 ∷ 13 ∷ 14 ∷ 15 ∷ []) ∷
          (16 ∷ 17 ∷ 18 ∷ 19 ∷ []) ∷ (20 ∷ 21 ∷ 22 ∷ 23 ∷ []) ∷ (24 ∷ 25 ∷ 26 ∷ 27 ∷ []) ∷ (28 ∷ 29 ∷ 30 ∷ 31 ∷ []) ∷
          (32 ∷ 33 ∷ 34 ∷ 35 ∷ []) ∷ (36 ∷ 37 ∷ 38 ∷ 39 ∷ []) ∷ (40 ∷ 41 ∷ 42 ∷ 43 ∷ []) ∷ (44 ∷ 45 ∷ 46 ∷ 47 ∷ []) ∷
          (48 ∷ 49 ∷ 50 ∷ 51 ∷ []) ∷ (52 ∷ 53 ∷ 54 ∷ 55 ∷ []) ∷ (56 ∷ 57 ∷ 58 ∷ 59 ∷ []) ∷ (60 ∷ 61 ∷ 62 ∷ 63 ∷ []) ∷ [])
          ++ offers 1 (64 ∷ 0 ∷ 1 ∷ 2 ∷ []) ∷ offers 1 (0 ∷ 1 ∷ 64 ∷ 2 ∷ []) ∷ [];
      replies = map granted (4 ∷ 8 ∷ 12 ∷ 16 ∷ 20 ∷ 24 ∷ 28 ∷ 32 ∷ 36 ∷ 40 ∷ 44 ∷ 48 ∷ 52 ∷ 56 ∷ 60 ∷ 64 ∷ []) ++ refuses 10 0 ∷ refuses 10 2 ∷ [];
    } ∷
    []

abbrev pub WorkedCasesComeOut : Type 0
WorkedCasesComeOut = map (λ c. answers c.rule c.meaning c.capacity [] c.calls) cases ≡ map (λ c. c.replies) cases
