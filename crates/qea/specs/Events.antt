-- Events, and the refusal of what is none.
use Rattle.std.specs.Prelude.{ℕ, cond, not, List, length, ℤ, Some, None, Ok, Err, Option, Result, nat_lt}
use Rattle.qea.specs.declared.fault.Description.{Description}
use Rattle.qea.specs.Limits.{max_terms}
use Rattle.std.specs.List.{position_from}
use Rattle.qea.specs.Values.{is_value}
use Rattle.qea.specs.Faults.{in_run}

-- a number, and the values that came with it
pub record Event : Type 0 where
  pub number : ℕ
  pub values : List ℤ

-- the place of refusal 9: 4 if there are more than 4 values, else the position of the first that is out of range
abbrev pub bad_event_at : List ℤ → Option ℕ
bad_event_at vs = cond (nat_lt max_terms (length vs)) (Some max_terms) (position_from (λ v. not (is_value v)) 0 vs)

abbrev pub event_unless : Option ℕ → ℕ → List ℤ → Result Event Description
event_unless None n vs = Ok (record { number = n; values = vs })
event_unless (Some at) n vs = Err (in_run 9 at)

-- The event of this number and these values, or the refusal.
abbrev pub event_from : ℕ → List ℤ → Result Event Description
event_from n vs = event_unless (bad_event_at vs) n vs
