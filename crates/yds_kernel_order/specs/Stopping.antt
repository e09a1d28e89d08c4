-- Where the reading of the text stopped.
use Rattle.std.specs.Prelude.{Option, Some, None}
use Rattle.yds_kernel_order.specs.declared.reader.Stop.{Stop as StopRead}
use Rattle.yds_kernel_order.specs.declared.reader.Stop.TheVariants as stops
use Rattle.yds_kernel_order.specs.Ordering.{Stop, AtEnd, AtFault}

abbrev pub stop_of : Option StopRead → Option Stop
stop_of None = None
stop_of (Some stops.AtEnd) = Some AtEnd
stop_of (Some (stops.AtFault number fault)) = Some (AtFault (record { line = number; column = fault.column; reason = fault.reason }))
