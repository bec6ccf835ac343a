-- Circular theories: what their rows mean.
use Rattle.std.specs.Prelude.{ℕ, cond, ◌&&◌, ◌||◌, pos, Some, None, Option, ◌==◌, nat_eq, nat_lt}
use Rattle.std.proofs.Common.{ap}
use Rattle.qea.specs.Limits.{places, registers}
use Rattle.qea.specs.Meaning.{Guard, Action}
use Rattle.circular_theory.specs.declared.rows.CircularGuard.{CircularGuard}
use Rattle.circular_theory.specs.declared.rows.CircularAction.{CircularAction}
use Rattle.circular_theory.specs.Bearings.{circle}
use Rattle.circular_theory.specs.Laws.{arc_holds, turned, arc_agrees, turned_agrees, turned_value, reads_one, reads_two}

-- A guard holds if lo ≤ bearing ≤ hi.
abbrev pub circular_guard : CircularGuard → Guard
circular_guard g = record {
  reads = nat_eq g.place;
  holds = arc_holds g.place g.lo g.hi;
  agrees = arc_agrees g.place g.lo g.hi;
  reads_places = reads_one g.place g.at_place;
}

-- An action writes A + B + c, reduced.
abbrev pub circular_action : CircularAction → Action
circular_action x = record {
  reads = λ i. (x.a == i) || (x.b == i);
  result = λ row. Some (pos (turned x.a x.b x.c row));
  register = x.register;
  agrees = λ r s h. ap (λ (n : ℕ). Some (pos n)) (turned_agrees x.a x.b x.c r s h);
  reads_places = reads_two x.a x.b x.at_a x.at_b;
  gives_value = λ r v e. turned_value x.a x.b x.c r v e;
  writes_register = x.within;
}

-- A row has these numbers if they are in range, else there is no row.
abbrev pub guard_numbers : CircularGuard → ℕ × ℕ × ℕ
guard_numbers g = (g.place, g.lo, g.hi)

abbrev pub ranged_guard : ℕ → ℕ → ℕ → Option (ℕ × ℕ × ℕ)
ranged_guard at lo hi = cond (nat_lt at places && nat_lt lo circle && nat_lt hi circle) (Some (at, lo, hi)) None

abbrev pub action_numbers : CircularAction → ℕ × ℕ × ℕ × ℕ
action_numbers x = (x.register, x.a, x.b, x.c)

abbrev pub ranged_action : ℕ → ℕ → ℕ → ℕ → Option (ℕ × ℕ × ℕ × ℕ)
ranged_action register a b c = cond (nat_lt register registers && nat_lt a places && nat_lt b places && nat_lt c circle) (Some (register, a, b, c)) None
