-- What contracts see of the values that the code lends from a line, and what the code read, against the definition.
use Rattle.std.specs.Prelude.{◌≡◌, Option, Some, None, Result, Ok, Err}
use Rattle.base.specs.Fields.{Spot}
use Rattle.yds_kernel.specs.declared.stamp.Stamp.{Stamp as StampRead}
use Rattle.yds_kernel.specs.declared.mark.Marked.{Marked as MarkedRead}
use Rattle.yds_kernel.specs.declared.form.Named.{Named as NamedRead}
use Rattle.yds_kernel.specs.declared.event.Thread.{Thread as ThreadRead}
use Rattle.yds_kernel.specs.declared.event.Happening.{Happening as HappeningRead}
use Rattle.yds_kernel.specs.declared.event.Happening.TheVariants as happenings
use Rattle.yds_kernel.specs.declared.event.Event.{Event as EventRead}
use Rattle.yds_kernel.specs.declared.event.Said.{Said as SaidRead}
use Rattle.yds_kernel.specs.declared.event.Said.TheVariants as saids
use Rattle.yds_kernel.specs.declared.fault.Reason.{Reason}
use Rattle.yds_kernel.specs.declared.fault.LineFault.{LineFault}
use Rattle.yds_kernel.specs.Stamp.{Stamp}
use Rattle.yds_kernel.specs.Form.{Marked, Named}
use Rattle.yds_kernel.specs.Event.{Thread, Happening, Switch, WakeUp, Speed, Loss, Marker, Other, Event, Said, Stamped, Lost, Nothing}

-- what was read is what the definition reads, or neither reads anything
abbrev pub Reads : {X Y : Type 0} → (X → Y) → Option X → Option Y → Type 0
Reads view None defined = defined ≡ None
Reads view (Some x) defined = defined ≡ Some (view x)

abbrev pub stamp_read : StampRead → Stamp
stamp_read stamp = record {
  processor = stamp.processor;
  left = stamp.left;
  seconds = stamp.seconds;
  fraction = stamp.fraction.now;
  word = stamp.word.now;
  text = stamp.text.now;
}

abbrev pub marked_read : MarkedRead → Marked
marked_read mark = record { pid = mark.pid; state = mark.state.now; rest = mark.rest.now }

abbrev pub thread_read : ThreadRead → Thread
thread_read thread = record { name = thread.name.now; pid = thread.pid }

abbrev pub named_read : NamedRead → Named
named_read named = record { thread = thread_read named.thread; state = named.state.now; rest = named.rest.now }

abbrev pub happening_read : HappeningRead → Happening
happening_read (happenings.Switch previous state next) = Switch (thread_read previous) state (thread_read next)
happening_read (happenings.WakeUp thread starts) = WakeUp (thread_read thread) starts
happening_read (happenings.Speed processor khz) = Speed processor khz
happening_read happenings.Loss = Loss
happening_read happenings.Marker = Marker
happening_read happenings.Other = Other

abbrev pub event_read : EventRead → Event
event_read event = record { processor = event.processor; time = event.time; happening = happening_read event.happening }

abbrev pub said_read : SaidRead → Said
said_read (saids.Event event) = Stamped (event_read event)
said_read (saids.Lost processor since) = Lost processor since
said_read saids.Nothing = Nothing

abbrev pub spot_read : LineFault → Spot Reason
spot_read fault = record { column = fault.column; reason = fault.reason }

-- what was said of a text is what the definition says of it, or it is refused for the same reason
abbrev pub Knows : Result HappeningRead Reason → Result Happening Reason → Type 0
Knows (Ok happening) defined = defined ≡ Ok (happening_read happening)
Knows (Err reason) defined = defined ≡ Err reason

-- the line says what the definition says of it, or is refused at the same column for the same reason
abbrev pub Says : Result SaidRead LineFault → Result Said (Spot Reason) → Type 0
Says (Ok said) defined = defined ≡ Ok (said_read said)
Says (Err fault) defined = defined ≡ Err (spot_read fault)
