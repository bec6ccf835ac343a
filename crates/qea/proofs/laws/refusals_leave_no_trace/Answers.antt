use Rattle.qea.proofs.Calling.{always_granted, calls_in_turn, no_trace}
use Rattle.qea.proofs.laws.refusals_leave_no_trace.Goals as goal

pub returns : goal.returns
returns c = record { granted = always_granted; turn = calls_in_turn; trace = no_trace }
