use Rattle.qea.proofs.Moving.{moves_in_slice, goes_on_from_earlier, earlier_keeps_own}
use Rattle.qea.proofs.laws.bindings_move_in_their_slices.Goals as goal

pub returns : goal.returns
returns c = record { moves = moves_in_slice; earlier = goes_on_from_earlier; own = earlier_keeps_own }
