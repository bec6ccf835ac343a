use Rattle.std.proofs.Common.{◌≡◌, take}
use Rattle.bounded.specs.Items.{items}
use Rattle.bounded.proofs.list.BoundedList.from_slice.Given as goal

-- what was taken over so far
abbrev pub invariant-loop-item : goal.invariant-loop-item
invariant-loop-item g l = items l.list ≡ take l.item-index l.all
