use Rattle.qea.proofs.Increment.{begins_at_start, one_event_more}
use Rattle.qea.proofs.laws.one_event_more_agrees.Goals as goal

pub returns : goal.returns
returns c = record { begins = begins_at_start; agrees = one_event_more }
