-- A bounded list has no more items than it may.
use Rattle.std.proofs.Common.{ℕ, ◌≤◌, length, arith}
use Rattle.std.proofs.lemmas.List.{length-take-le}
use Rattle.bounded.specs.declared.list.BoundedList.{BoundedList}
use Rattle.bounded.specs.Items.{items}

pub items_few : {T : Type 0} (most : ℕ) (l : BoundedList T most) → length (items l) ≤ most
items_few most l = let f = l.fits in let w = l.whole in omega (arith, length-take-le l.len l.slots (omega arith))
