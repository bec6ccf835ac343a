-- Linear theories: what their rows mean.
use Rattle.std.specs.Prelude.{ℕ, cond, ◌&&◌, pos, Some, None, Option, nat_lt}
use Rattle.std.proofs.Common.{ap}
use Rattle.qea.specs.Limits.{registers}
use Rattle.qea.specs.Meaning.{Guard, Action}
use Rattle.linear_theory.specs.declared.form.Relation.{Relation}
use Rattle.linear_theory.specs.declared.form.LinearForm.{LinearForm}
use Rattle.linear_theory.specs.declared.rows.LinearGuard.{LinearGuard}
use Rattle.linear_theory.specs.declared.rows.LinearAction.{LinearAction}
use Rattle.linear_theory.specs.Forms.{form_in_range, sum, form_reads, stands, value_of}
use Rattle.linear_theory.specs.Laws.{sum_agrees, reads_within, value_in_range}

-- A guard holds if its form stands so to 0.
abbrev pub linear_guard : LinearGuard → Guard
linear_guard g = record {
  reads = form_reads g.form;
  holds = λ row. stands g.relation (sum g.form row);
  agrees = λ r s h. ap (stands g.relation) (sum_agrees g.form r s h);
  reads_places = reads_within g.form g.ranged;
}

-- An action writes its form's sum, and is out of range if that is no value.
abbrev pub linear_action : LinearAction → Action
linear_action x = record {
  reads = form_reads x.form;
  result = λ row. value_of (sum x.form row);
  register = x.register;
  agrees = λ r s h. ap value_of (sum_agrees x.form r s h);
  reads_places = reads_within x.form x.ranged;
  gives_value = λ r. value_in_range (sum x.form r);
  writes_register = x.within;
}

-- A row has these numbers if they are in range, else there is no row.
abbrev pub guard_numbers : LinearGuard → LinearForm × Relation
guard_numbers g = (g.form, g.relation)

abbrev pub ranged_guard : LinearForm → Relation → Option (LinearForm × Relation)
ranged_guard f relation = cond (form_in_range f) (Some (f, relation)) None

abbrev pub action_numbers : LinearAction → ℕ × LinearForm
action_numbers x = (x.register, x.form)

abbrev pub ranged_action : ℕ → LinearForm → Option (ℕ × LinearForm)
ranged_action register f = cond (nat_lt register registers && form_in_range f) (Some (register, f)) None

-- what unused slots of a theory hold
abbrev pub zero_form : LinearForm
zero_form = record { m = pos 0; a = 0; n = pos 0; b = 0; c = pos 0 }
