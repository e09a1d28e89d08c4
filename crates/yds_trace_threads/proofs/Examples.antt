-- Small traces, and near misses: what they tell of the thread 7. The last line stands first.
use Rattle.base.proofs.Common.{◌≡◌, ℕ, List, [], ◌∷◌, Some, None, true, codes, refl}
use Rattle.yds_kernel.specs.declared.state.State.TheVariants as states
use Rattle.yds_kernel.specs.declared.loss.Since.TheVariants as since
use Rattle.yds_kernel.specs.Event.{Thread, Switch, WakeUp, Happening, Said, Stamped, Lost}
use Rattle.yds_kernel.specs.Text.{Trace}
use Rattle.yds_kernel_order.specs.Order.{in_order}
use Rattle.yds_trace.specs.declared.fault.Cause.TheVariants as causes
use Rattle.yds_trace_reading.specs.LineFault.{AtLine}
use Rattle.yds_trace_threads.specs.Acts.{Act, acts}
use Rattle.yds_trace_threads.specs.Faults.{line_fault}
use Rattle.yds_trace_threads.specs.Threads.{threads_of, own, name_of, ran_in, switches_in, wake_ups_in}

abbrev idle : Thread
idle = record { name = codes "swapper/0"; pid = 0 }

abbrev seven : Thread
seven = record { name = codes "a"; pid = 7 }

abbrev eight : Thread
eight = record { name = codes "b"; pid = 8 }

abbrev at : ℕ → ℕ → Happening → Said
at processor time happening = Stamped (record { processor = processor; time = time; happening = happening })

abbrev comes : ℕ → Said
comes time = at 0 time (Switch idle states.GoesOn seven)

abbrev leaves : ℕ → Said
leaves time = at 0 time (Switch seven states.Sleeps idle)

abbrev mine : List Said → List Act
mine past = own 7 (acts past)

-- # Time

-- from coming to leaving
ran : ran_in (mine (leaves 150 ∷ comes 100 ∷ [])) ≡ 50
ran = refl

-- another thread on another processor changes nothing
ran_beside : ran_in (mine (leaves 150 ∷ at 1 120 (Switch idle states.GoesOn eight) ∷ comes 100 ∷ [])) ≡ 50
ran_beside = refl

-- who leaves isn't who came: neither gets the time between
not_seen_to_leave : ran_in (mine (at 0 150 (Switch eight states.Sleeps idle) ∷ comes 100 ∷ [])) ≡ 0
not_seen_to_leave = refl

not_seen_to_come : ran_in (own 8 (acts (at 0 150 (Switch eight states.Sleeps idle) ∷ comes 100 ∷ []))) ≡ 0
not_seen_to_come = refl

-- nor where events of the processor were lost between, but where those of another one were
lost_between : ran_in (mine (leaves 150 ∷ Lost 0 since.ItsLastLine ∷ comes 100 ∷ [])) ≡ 0
lost_between = refl

lost_elsewhere : ran_in (mine (leaves 150 ∷ Lost 1 since.ItsLastLine ∷ comes 100 ∷ [])) ≡ 50
lost_elsewhere = refl

-- # Counts

-- one wake-up on two lines
woken_once : wake_ups_in (mine (at 0 91 (WakeUp seven true) ∷ at 0 90 (WakeUp seven true) ∷ [])) ≡ 1
woken_once = refl

-- two, with a switch of the thread between them
woken_twice : wake_ups_in (mine (at 0 160 (WakeUp seven true) ∷ leaves 150 ∷ comes 100 ∷ at 0 90 (WakeUp seven true) ∷ [])) ≡ 2
woken_twice = refl

-- it came once; to leave is no coming
came_once : switches_in (mine (leaves 150 ∷ comes 100 ∷ [])) ≡ 1
came_once = refl

-- # Names and threads

-- the last name
renamed : name_of (mine (at 0 160 (WakeUp (record { name = codes "c"; pid = 7 }) true) ∷ comes 100 ∷ [])) ≡ codes "c"
renamed = refl

-- in the order in which they come first, without the idle one
in_order_of_coming : threads_of (acts (at 0 160 (Switch seven states.GoesOn eight) ∷ comes 100 ∷ [])) ≡ 7 ∷ 8 ∷ []
in_order_of_coming = refl

-- # Lines out of order

abbrev saying : List Said → Trace
saying said = record { said = said; fault = None }

abbrev woken : ℕ → Said
woken time = at 0 time (WakeUp seven true)

-- Two lines changed places: neither is refused.
exchanged : line_fault (in_order (saying (woken 1001 ∷ woken 1000 ∷ []))) ≡ None
exchanged = refl

-- The second one is before the first one by a nanosecond more than a millisecond: it is refused, at its place in order of time.
too_far_back : line_fault (in_order (saying (woken 5000000 ∷ woken 3999999 ∷ []))) ≡ Some (AtLine 2 causes.TimeGoesBack)
too_far_back = refl
