-- How a trace is begun.
use Rattle.std.specs.Prelude.{◌≡◌, ℕ, ◌+◌, ◌^◌, ◌≤◌, List, [], Bool, true, false, Option, Some, None}
use Rattle.yds_port.specs.Count.{Rose}
use Rattle.yds_kernel_text.specs.declared.limits.TheConstants.{ROOM}
use Rattle.yds_kernel_order.specs.declared.step.Step.{Step}
use Rattle.yds_kernel_order.specs.declared.step.Step.TheVariants as steps
use Rattle.yds_kernel_order.specs.Order.{order_of}
use Rattle.yds_kernel_order.specs.Ordering.{Ordering, IsGiven, IsOrderOf}
use Rattle.yds_trace_bounds.specs.declared.bounds.Bounds.{Bounds}
use Rattle.yds_trace_bounds.specs.Bounds.{first_of}
use Rattle.yds_trace_reading.specs.declared.first.NoBegin.{NoBegin}
use Rattle.yds_trace_reading.specs.declared.first.NoBegin.TheVariants as begins
use Rattle.yds_trace_reading.specs.declared.stopped.Stopped.{Stopped}
use Rattle.yds_trace_reading.specs.declared.stopped.Stopped.TheVariants as stops

-- The reader stands before the first line of this input, and this is the time from which the bounds count.
pub record IsBegun (bounds : Bounds) (input : List ℕ) (ordering : Ordering) (left : Option (List ℕ)) (first : ℕ) : Type 0 where
  pub in_order : IsOrderOf input ordering [] left
  pub known : first_of bounds (order_of input) ≡ Some first

-- Why the trace isn't begun: as many bytes were taken as can be counted, but for one buffer, or a read failed, or memory ran out; or else the
-- bounds count from a first event that was lost.
abbrev pub IsNotBegun : Bounds → Ordering → Ordering → Option (List ℕ) → ℕ → ℕ → NoBegin → Type 0
IsNotBegun bounds old new before faults_before faults_now begins.Lost =
    (faults_now ≡ faults_before)
    × ((input : List ℕ) → IsGiven old [] → IsOrderOf input old [] before → first_of bounds (order_of input) ≡ None)
IsNotBegun bounds old new before faults_before faults_now begins.TooLong = (faults_now ≡ faults_before) × (2 ^ 64 ≤ new.reader.taken + ROOM)
IsNotBegun bounds old new before faults_before faults_now begins.ReadFault = Rose faults_before faults_now
IsNotBegun bounds old new before faults_before faults_now begins.Memory = faults_now ≡ faults_before

-- the reader can't go on
abbrev pub is_stuck : Step → Bool
is_stuck steps.Failed = true
is_stuck steps.TooLong = true
is_stuck steps.Memory = true
is_stuck _ = false

abbrev pub stuck_by : Step → NoBegin
stuck_by steps.Failed = begins.ReadFault
stuck_by steps.TooLong = begins.TooLong
stuck_by _ = begins.Memory

-- why the reading of a trace ended that wasn't begun
abbrev pub stopped_for : NoBegin → Stopped
stopped_for begins.Lost = stops.NoFirst
stopped_for begins.TooLong = stops.TooLong
stopped_for begins.ReadFault = stops.ReadFault
stopped_for begins.Memory = stops.Memory
