-- Which tasks the lines name.
use Rattle.base.proofs.Common.{◌≡◌, ◌∙◌, ℕ, suc, ◌+◌, ◌<◌, List, [], ◌∷◌, length, slice_index_or, Bool, true, false, not, ◌||◌, if◌then◌else◌, Option, Some, None, is_some, is_none, refl, arith, ap, ap₂}
use Rattle.std.specs.List.{position_from}
use Rattle.yds_kernel.specs.Parts.{or_else}
use Rattle.yds_kernel.specs.Event.{Happening, Switch, WakeUp, Speed, Loss, Marker, Other, Said}
use Rattle.yds_trace.specs.Asked.{Task, Asked, task_of, is_number}
use Rattle.yds_trace.specs.Faults.{pid_in, pid_before, unseen_from}
use Rattle.yds_trace.specs.Steps.{first_in, second_in}

of_two : (a b : Bool) (x y : ℕ) (rest : Option ℕ) →
    is_some (or_else (or_else (if a then Some x else None) (if b then Some y else None)) rest) ≡ (a || (b || is_some rest))
of_two true b x y rest = refl
of_two false true x y rest = refl
of_two false false x y rest = refl

of_one : (b : Bool) (y : ℕ) (rest : Option ℕ) → is_some (or_else (if b then Some y else None) rest) ≡ (b || is_some rest)
of_one true y rest = refl
of_one false y rest = refl

pub seen_more : (asked : Asked) (number : ℕ) (happening : Happening) (rest : Option ℕ) →
    is_some (or_else (pid_in asked number happening) rest)
    ≡ (is_number number (second_in asked.tasks happening).number || (is_number number (first_in asked.tasks happening).number || is_some rest))
seen_more asked number (Switch previous state next) rest =
    of_two (is_number number (task_of asked.tasks next)) (is_number number (task_of asked.tasks previous)) next.pid previous.pid rest
seen_more asked number (WakeUp thread starts) rest = of_one (is_number number (task_of asked.tasks thread)) thread.pid rest
seen_more asked number (Speed processor khz) rest = refl
seen_more asked number Loss rest = refl
seen_more asked number Marker rest = refl
seen_more asked number Other rest = refl

-- # The first task that no line names

not_seen : (pid : Option ℕ) → not (is_some pid) ≡ is_none pid
not_seen None = refl
not_seen (Some pid) = refl

pub unseen_is : (asked : Asked) (past : List Said) (start : ℕ) (tasks : List Task) (seen : List Bool) → length seen ≡ length tasks →
    ((k n : ℕ) → k < length tasks → start + k ≡ n → slice_index_or seen k false ≡ is_some (pid_before asked n past)) →
    position_from not start seen ≡ unseen_from asked past start tasks
unseen_is asked past start [] [] many each = refl
unseen_is asked past start [] (one ∷ seen) many each = absurd (omega arith)
unseen_is asked past start (task ∷ tasks) [] many each = absurd (omega arith)
unseen_is asked past start (task ∷ tasks) (one ∷ seen) many each =
    ap₂ (λ (b : Bool) (rest : Option ℕ). if b then Some start else rest)
    (ap not (each 0 start (omega arith) (omega arith)) ∙ not_seen (pid_before asked start past))
    (unseen_is asked past (start + 1) tasks seen (omega arith) (λ k n within is. each (suc k) n (omega arith) (omega arith)))
