-- Arcs and turns over a row, and their reading law. The meaning of a circular theory carries it.
use Rattle.std.specs.Prelude.{◌≡◌, ℕ, ◌+◌, ◌<◌, Bool, true, ◌&&◌, ◌||◌, List, ℤ, pos, Some, ◌==◌, nat_eq, nat_le}
use Rattle.std.proofs.Common.{arith}
use Rattle.qea.specs.Limits.{places}
use Rattle.qea.specs.Values.{is_value}
use Rattle.qea.specs.Meaning.{place, Agree}
use Rattle.circular_theory.specs.Bearings.{bearing}

-- the bearing at a place lies on the arc from lo to hi
abbrev pub arc_holds : ℕ → ℕ → ℕ → List ℤ → Bool
arc_holds at lo hi row = nat_le lo (bearing (place row at)) && nat_le (bearing (place row at)) hi

-- each value is reduced first, and the sum again
abbrev pub turned : ℕ → ℕ → ℕ → List ℤ → ℕ
turned a b c row = bearing (pos (bearing (place row a) + bearing (place row b) + c))

pub arc_agrees : (at lo hi : ℕ) (r s : List ℤ) → Agree (nat_eq at) r s → arc_holds at lo hi r ≡ arc_holds at lo hi s
arc_agrees at lo hi r s h = grind arith

pub turned_agrees : (a b c : ℕ) (r s : List ℤ) → Agree (λ i. (a == i) || b == i) r s → turned a b c r ≡ turned a b c s
turned_agrees a b c r s h = grind arith

pub turned_value : (a b c : ℕ) (row : List ℤ) (v : ℤ) → Some (pos (turned a b c row)) ≡ Some v → is_value v ≡ true
turned_value a b c row v e = grind arith

pub reads_one : (at : ℕ) → at < places → (i : ℕ) → (at == i) ≡ true → i < places
reads_one at h i e = grind arith

pub reads_two : (a b : ℕ) → a < places → b < places → (i : ℕ) → (a == i || b == i) ≡ true → i < places
reads_two a b h k i e = grind arith
