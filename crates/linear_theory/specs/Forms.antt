-- Linear forms: m × A + n × B + c over the places of a row.
use Rattle.std.specs.Prelude.{ℕ, Bool, cond, not, ◌&&◌, ◌||◌, List, ℤ, pos, ◌+ℤ◌, ◌*ℤ◌, Some, None, Option, ◌==◌, int_lt, nat_le, nat_lt, unsigned_abs}
use Rattle.qea.specs.Limits.{places}
use Rattle.std.specs.Ordering.{int_eq}
use Rattle.qea.specs.Values.{is_value}
use Rattle.qea.specs.Meaning.{place}
use Rattle.linear_theory.specs.declared.form.Relation.{Relation}
use Rattle.linear_theory.specs.declared.form.Relation.TheVariants.{Less, Equal, Greater}
use Rattle.linear_theory.specs.declared.form.LinearForm.{LinearForm}

-- m and n lie from -max_factor to max_factor
abbrev pub max_factor : ℕ
max_factor = 1_000_000

abbrev pub is_factor : ℤ → Bool
is_factor v = nat_le (unsigned_abs v) max_factor

abbrev pub form_in_range : LinearForm → Bool
form_in_range f = is_factor f.m && nat_lt f.a places && is_factor f.n && nat_lt f.b places && is_value f.c

abbrev pub sum : LinearForm → List ℤ → ℤ
sum f row = f.m *ℤ place row f.a +ℤ f.n *ℤ place row f.b +ℤ f.c

-- A is read unless m is 0, B unless n is 0
abbrev pub form_reads : LinearForm → ℕ → Bool
form_reads f i = not (int_eq f.m (pos 0)) && f.a == i || not (int_eq f.n (pos 0)) && f.b == i

abbrev pub stands : Relation → ℤ → Bool
stands Less z = int_lt z (pos 0)
stands Equal z = int_eq z (pos 0)
stands Greater z = int_lt (pos 0) z

-- the number if it is a value, else 'out of range'
abbrev pub value_of : ℤ → Option ℤ
value_of z = cond (is_value z) (Some z) None
