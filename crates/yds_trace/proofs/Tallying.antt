-- What is counted, line by line: who came to a processor, and the longest time without a line.
use Rattle.base.proofs.Common.{◌≡◌, ℕ, ◌<◌, ◌≤◌, ◌==◌, ◌&&◌, List, Bool, true, false, nat_lt, ltb-true, ltb-false, if◌then◌else◌, Option, Some, refl, arith}
use Rattle.yds_kernel.specs.Event.{Thread, Happening, Switch, WakeUp, Speed, Loss, Marker, Other, Event}
use Rattle.yds_trace.specs.Past.{has_it}
use Rattle.yds_trace.specs.declared.step.Whose.{Whose}
use Rattle.yds_trace.specs.declared.tally.Pause.{Pause}
use Rattle.yds_trace.specs.Asked.{Task}
use Rattle.yds_trace.specs.Kept.{unlisted, came_by}
use Rattle.yds_trace.specs.Steps.{whose, second_in}
use Rattle.yds_trace.specs.Tally.{longer}

who_came : (tasks : List Task) (b : Bool) (next : Thread) (who : Option Thread) (before came : Option ℕ) → came ≡ unlisted tasks (Some next) →
    before ≡ unlisted tasks who → (if b then came else before) ≡ unlisted tasks (if b then Some next else who)
who_came tasks true next who before came here was = here
who_came tasks false next who before came here was = was

pub came_more : (tasks : List Task) (processor : ℕ) (event : Event) (happening : Happening) (who : Option Thread) (before came : Option ℕ) (second : Whose) →
    ((thread : Thread) → second ≡ whose tasks thread → came ≡ unlisted tasks (Some thread)) → second ≡ second_in tasks happening → before ≡ unlisted tasks who →
    came_by processor event happening came before ≡ unlisted tasks (has_it processor event happening who)
came_more tasks processor event (Switch previous state next) who before came second told is was =
    who_came tasks (event.processor == processor) next who before came (told next is) was
came_more tasks processor event (WakeUp thread starts) who before came second told is was = was
came_more tasks processor event (Speed there khz) who before came second told is was = was
came_more tasks processor event Loss who before came second told is was = refl
came_more tasks processor event Marker who before came second told is was = was
came_more tasks processor event Other who before came second told is was = was

-- # The longest time without a line

pub is_longer : (before : Pause) (is : Bool) (since lasted : ℕ) → before.lasted < lasted → is ≡ true →
    longer before is since lasted ≡ record { since = since; lasted = lasted }
is_longer before is since lasted less holds = by (nat_lt before.lasted lasted) refl
  where
    by : (b : Bool) → nat_lt before.lasted lasted ≡ b → (let made : Pause = record { since = since; lasted = lasted } in if b && is then made else before) ≡ record { since = since; lasted = lasted }
    by true low = rw holds refl
    by false high = let not_less : lasted ≤ before.lasted = ltb-false before.lasted lasted high in absurd (omega (arith, not_less, less))

pub not_longer : (before : Pause) (is : Bool) (since lasted : ℕ) → lasted ≤ before.lasted → longer before is since lasted ≡ before
not_longer before is since lasted most = by (nat_lt before.lasted lasted) refl
  where
    by : (b : Bool) → nat_lt before.lasted lasted ≡ b → (let made : Pause = record { since = since; lasted = lasted } in if b && is then made else before) ≡ before
    by true low = let less : before.lasted < lasted = ltb-true before.lasted lasted low in absurd (omega (arith, less, most))
    by false high = refl

pub none_longer : (before : Pause) (is : Bool) (since lasted : ℕ) → is ≡ false → longer before is since lasted ≡ before
none_longer before is since lasted none = by (nat_lt before.lasted lasted)
  where
    by : (b : Bool) → (let made : Pause = record { since = since; lasted = lasted } in if b && is then made else before) ≡ before
    by true = rw none refl
    by false = refl
