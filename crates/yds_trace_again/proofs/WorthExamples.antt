-- What a text is worth, tried on a trace of two jobs: texts that dropped something are refused. A unit of time is 10 nanoseconds.
use Rattle.yds_model.proofs.Common.{◌≡◌, ◌≢◌, ℕ, zero, suc, ◌*◌, ◌<◌, List, [], ◌∷◌, codes, length, map, reverse, true, false, Some, None, Result, Ok, Err, refl, ap, subst, arith, of_whole, digits, Document, no_document, reading, All, All-nil, All-cons, recursion_from_All, get_or, one-dvd, job_at, IsDivided, IsInWindow, IsFeasible, slots_at, work_given}
use Rattle.base.specs.Fields.{Fault}
use Rattle.yds_model.specs.declared.reason.Reason.{Reason}
use Rattle.model_lemmas.proofs.Scale.{one_scale_decides}
use Rattle.yds_kernel.specs.declared.state.State.TheVariants as states
use Rattle.yds_kernel.specs.Event.{Thread, Happening, Switch, WakeUp, Said, Stamped}
use Rattle.yds_trace.specs.Asked.{Asked, Task, Named, Same}
use Rattle.yds_trace.specs.Document.{all_judged, units_of}
use Rattle.yds_trace_laws.specs.Faithful.{HasItsJob}
use Rattle.yds_trace_laws.proofs.Ordered.{All-map_back}
use Rattle.yds_trace_laws.proofs.Runs.{contained}
use Rattle.yds_trace_text.specs.Text.{name_of}
use Rattle.yds_trace_again.specs.Again.{IsReadAgain}
use Rattle.yds_trace_again.specs.Worth.{IsReadFeasible, IsFaithfulText, IsToldLate, NothingLate}

-- # A trace of two jobs

abbrev t : Thread
t = record { name = codes "t"; pid = 7 }

abbrev u : Thread
u = record { name = codes "u"; pid = 8 }

abbrev idle : Thread
idle = record { name = codes "swapper"; pid = 0 }

abbrev line_of : ℕ → ℕ → Happening → Said
line_of processor time happening = Stamped (record { processor = processor; time = time; happening = happening })

abbrev task_due : ℕ → List ℕ → Task
task_due deadline name = record { label = name; thread = Named name; deadline = deadline; apart = 0; period = 0 }

-- Jobs of `t` are due 100 nanoseconds after their begin, those of `u` 41.
abbrev asked : Asked
asked = record {
  tasks = task_due 100 (codes "t") ∷ task_due 41 (codes "u") ∷ [];
  processor = 0;
  unit = 10;
  khz = 1;
  start = Same 5;
  from = None;
  to = None;
  begin_at_run = false;
  cut_losses = false;
  in_parts = false;
  everywhere = false;
  moved_parts = false;
  others = None;
}

-- The job of `t` runs from 1020 to 1040 and is in time, that of `u` from 1210 to 1260 and is due at 1241.
abbrev lines : List Said
lines = reverse
    (line_of 0 1000 (WakeUp t true) ∷ line_of 0 1020 (Switch idle states.GoesOn t) ∷ line_of 0 1040 (Switch t states.Sleeps idle) ∷ line_of 0 1200 (WakeUp u true)
    ∷ line_of 0 1210 (Switch idle states.GoesOn u) ∷ line_of 0 1260 (Switch u states.Sleeps idle) ∷ [])

one_is_late : map (λ one. one.late) (all_judged asked lines) ≡ None ∷ Some 19 ∷ []
one_is_late = refl

-- # The empty text

empty_is_feasible : IsFeasible [] []
empty_is_feasible =
    one_scale_decides [] [] 1 (record { positive = omega arith; divided = All-nil (IsDivided 1) })
    (record { one_at_a_time = tt; in_windows = All-nil (IsInWindow [] 1); served = λ number within. absurd (omega (arith, within)) })

-- It is read as a document without a job, which is feasible.
empty_is_read : IsReadFeasible []
empty_is_read = record { document = no_document; read = refl; feasible = empty_is_feasible }

-- So it hides a late job.
empty_hides_a_job : NothingLate asked lines [] → ⊥
empty_hides_a_job told =
    let each = recursion_from_All (IsToldLate asked lines []) (all_judged asked lines) (told empty_is_read) in
    let early : 19 < 10 = (each.1.0 19 refl).0 in omega (arith, early)

-- # A text without the late job

abbrev only_t : Document
only_t = record no_document {
  names = codes "t.0" ∷ [];
  jobs = record { release = 0; deadline = 10; work = 10 } ∷ [];
  slots = record { job = 0; from = of_whole 2; to = of_whole 4; work = of_whole 10 } ∷ [];
}

abbrev without_u : List ℕ
without_u = codes "job t.0 0 10 10\nticks 1\nrun t.0 2 4 5\n"

without_u_is_read : reading without_u ≡ Ok only_t
unfolding digits
without_u_is_read = refl

served : (number : ℕ) → number < 1 → work_given (slots_at 1 only_t.slots) number ≡ (job_at only_t.jobs number).work * 1
served zero within = refl
served (suc number) within = absurd (omega (arith, within))

only_t_is_feasible : IsFeasible only_t.jobs only_t.slots
only_t_is_feasible =
    one_scale_decides only_t.jobs only_t.slots 1
    (record {
      positive = omega arith;
      divided = All-cons (IsDivided 1) _ [] (record { from = one-dvd 1; to = one-dvd 1; work = one-dvd 1 }) (All-nil (IsDivided 1));
    })
    (record {
      one_at_a_time = (omega arith, omega arith, tt);
      in_windows = All-cons (IsInWindow only_t.jobs 1) _ [] (record { known = omega arith; released = omega arith; due = omega arith })
          (All-nil (IsInWindow only_t.jobs 1));
      served = served;
    })

-- It is read as a feasible document, and hides a job that is late by more than a unit.
late_job_dropped : NothingLate asked lines without_u → ⊥
late_job_dropped told =
    let each = recursion_from_All (IsToldLate asked lines without_u) (all_judged asked lines)
    (told (record { document = only_t; read = without_u_is_read; feasible = only_t_is_feasible })) in
    let early : 19 < 10 = (each.1.0 19 refl).0 in omega (arith, early)

-- # A text without the job in time

abbrev only_u : Document
only_u = record no_document {
  names = codes "u.0" ∷ [];
  jobs = record { release = 20; deadline = 24; work = 25 } ∷ [];
  slots = record { job = 0; from = of_whole 21; to = of_whole 26; work = of_whole 25 } ∷ [];
}

abbrev without_t : List ℕ
without_t = codes "job u.0 20 24 25\nticks 1\nrun u.0 21 26 5\n"

without_t_is_read : reading without_t ≡ Ok only_u
unfolding digits
without_t_is_read = refl

abbrev IsOther : List ℕ → Type 0
IsOther name = name ≢ codes "t.0"

is_other : IsOther (codes "u.0")
is_other same = let first : 117 ≡ 116 = ap (λ (name : List ℕ). get_or name 0 0) same in omega (arith, first)

abbrev IsFaithfulHere : List ℕ → Type 0
IsFaithfulHere text = IsFaithfulText asked (units_of asked lines) (all_judged asked lines) text

-- What a text is read as isn't faithful where that job isn't there.
dropped : (text : List ℕ) (document : Document) → reading text ≡ Ok document → All IsOther document.names → IsFaithfulHere text → ⊥
unfolding digits
dropped text document read others faithful =
    let is = faithful document read in
    let none : All (λ job. IsOther (name_of job)) is.shown.jobs =
    All-map_back IsOther name_of is.shown.jobs (subst (λ (one : Document). All IsOther one.names) is.is others) in
    let each = recursion_from_All (HasItsJob (units_of asked lines) is.shown) (all_judged asked lines) is.faithful.no_job_missing in
    contained (λ job. IsOther (name_of job)) is.shown.jobs _ (each.0.standing refl) none refl

-- This one is no feasible document, so no job is hidden in it; but it isn't faithful.
job_in_time_dropped : IsFaithfulHere without_t → ⊥
job_in_time_dropped faithful = dropped without_t only_u without_t_is_read (All-cons IsOther (codes "u.0") [] is_other (All-nil IsOther)) faithful

-- Nor is the empty text, which isn't read again as the trace's document either.
empty_drops_a_job : IsFaithfulHere [] → ⊥
empty_drops_a_job faithful = dropped [] no_document refl (All-nil IsOther) faithful

abbrev names_in : Result Document (Fault Reason) → ℕ
names_in (Ok document) = length document.names
names_in (Err fault) = 0

empty_is_another : IsReadAgain asked lines [] → ⊥
empty_is_another again = let none : 0 ≡ 2 = ap names_in again.read in omega (arith, none)
