-- What an event is to each task: what is common to all of them, and who leaves, comes or is woken.
use Rattle.std.specs.Prelude.{ℕ, List, Bool, ◌&&◌, if◌then◌else◌, Option, Some, None}
use Rattle.yds_kernel.specs.declared.loss.Since.TheVariants as since
use Rattle.yds_kernel.specs.Event.{Thread, Happening, Switch, WakeUp, Speed, Loss, Marker, Other, Event, Said}
use Rattle.yds_trace.specs.declared.job.Pace.{Pace}
use Rattle.yds_trace.specs.declared.step.Step.{Step}
use Rattle.yds_trace.specs.declared.step.Step.TheVariants as steps
use Rattle.yds_trace.specs.declared.step.Whose.{Whose}
use Rattle.yds_trace.specs.Asked.{Task, Asked, task_of, is_number}
use Rattle.yds_trace.specs.Past.{lost_since, speed_after}
use Rattle.yds_trace.specs.Jobs.{Known, leaving_at, missing_of, after_switch, wakes_up, speeds, loses, all_known}

abbrev pub step_in : Asked → List Said → Event → (ℕ → Known) → Happening → Step
step_in asked past event known (Switch previous state next) =
    steps.Switch state (leaving_at asked past event previous) (missing_of asked previous next (leaving_at asked past event previous) known 0 asked.tasks)
step_in asked past event known (WakeUp thread starts) = steps.WakeUp event.time starts
step_in asked past event known (Speed processor khz) = steps.Speed processor event.time (speed_after asked.start processor past)
step_in asked past event known Loss = steps.Loss (lost_since event.processor since.ItsLastLine past)
step_in asked past event known Marker = steps.Nothing
step_in asked past event known Other = steps.Nothing

abbrev pub step_of : Asked → List Said → Event → Step
step_of asked past event = step_in asked past event (all_known asked past) event.happening

-- what is known of a thread after it, where it is the one that leaves or is woken, or the one that comes
abbrev pub stepped : Pace → Bool → Bool → Bool → Step → Known → Known
stepped pace wakes first second (steps.Switch state leaving missing) known = after_switch pace wakes first second state leaving missing known
stepped pace wakes first second (steps.WakeUp time starts) known = if first && wakes then wakes_up pace starts time known else known
stepped pace wakes first second (steps.Speed processor time khz) known = speeds processor time khz known
stepped pace wakes first second (steps.Loss since) known = loses since known
stepped pace wakes first second steps.Nothing known = known

-- # Whose threads it tells of

abbrev pub nobody : Whose
nobody = record { number = None; pid = 0 }

abbrev pub whose : List Task → Thread → Whose
whose tasks thread = record { number = task_of tasks thread; pid = thread.pid }

-- who leaves, or is woken
abbrev pub first_in : List Task → Happening → Whose
first_in tasks (Switch previous state next) = whose tasks previous
first_in tasks (WakeUp thread starts) = whose tasks thread
first_in tasks _ = nobody

-- who comes
abbrev pub second_in : List Task → Happening → Whose
second_in tasks (Switch previous state next) = whose tasks next
second_in tasks _ = nobody

-- the thread's number, where it is the task of this number
abbrev pub pid_of : ℕ → Whose → Option ℕ
pid_of number whose = if is_number number whose.number then Some whose.pid else None
