-- What a declared event means.
use Rattle.std.specs.Prelude.{Ok, Err, Result}
use Rattle.bounded.specs.Items.{items}
use Rattle.qea.specs.declared.fault.Description.{Description}
use Rattle.qea.specs.declared.fault.RunFault.{RunFault}
use Rattle.qea.specs.declared.event.Event as declared
use Rattle.qea.specs.Faults.{run_fault}
use Rattle.qea.specs.Events.{Event}

abbrev pub event_of : declared.Event → Event
event_of e = record { number = e.number; values = items e.values }

-- the answer of a call that makes an event, in numbers
abbrev pub event_told : Result declared.Event RunFault → Result Event Description
event_told (Ok e) = Ok (event_of e)
event_told (Err f) = Err (run_fault f)
