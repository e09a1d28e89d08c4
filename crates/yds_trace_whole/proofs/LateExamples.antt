-- A late job of a part: by less than a unit of time it is in time as it is written, and a comment names it. By a unit it isn't.
use Rattle.yds_model.proofs.Common.{◌≡◌, ℕ, zero, suc, ◌*◌, ◌<◌, List, [], ◌∷◌, true, codes, reverse, flat_map, map, Some, None, refl, sym, subst, arith, All-nil, All-cons, one-dvd, job_at, IsDivided, IsInWindow, IsFeasible, slots_at, work_given}
use Rattle.model_lemmas.proofs.Scale.{one_scale_decides}
use Rattle.std.specs.Fmt.{digits}
use Rattle.yds_kernel.specs.declared.state.State.TheVariants as states
use Rattle.yds_kernel.specs.Event.{Switch, WakeUp, Said}
use Rattle.yds_trace.specs.Asked.{Asked}
use Rattle.yds_trace.specs.Document.{Document, Written, all_judged}
use Rattle.yds_trace.specs.Parts.{no_cut}
use Rattle.yds_trace_laws.specs.AsSlots.{jobs_read, slots_read}
use Rattle.yds_trace_laws.proofs.AsRead.{runs_within}
use Rattle.yds_trace_text.specs.Text.{comment, late_comment}
use Rattle.yds_trace_whole.specs.Parts.{Part, made}
use Rattle.yds_trace_whole.specs.Worth.{IsPartFeasible}
use Rattle.yds_trace_whole.proofs.Traces.{t, idle, line_of, task_due, asked_of}

-- A job is due 41 nanoseconds after its begin.
abbrev asked : Asked
asked = asked_of (task_due 41 (codes "t") ∷ [])

-- It is woken at 1000, comes at 1020, and sleeps at this time.
abbrev ended_at : ℕ → List Said
ended_at end = reverse (line_of 0 1000 (WakeUp t true) ∷ line_of 0 1020 (Switch idle states.GoesOn t) ∷ line_of 0 end (Switch t states.Sleeps idle) ∷ [])

abbrev part : ℕ → Part
part end = made asked (ended_at end) no_cut None

-- the job that is due in unit 4 and runs up to this one
abbrev runs_to : ℕ → ℕ → Written
runs_to end work = record { name = codes "t.0"; release = 0; deadline = 4; work = work; runs = record { from = 2; to = end; speed = 5 } ∷ [] }

abbrev just : ℕ → ℕ → Document
just end work = record { jobs = runs_to end work ∷ []; runs = record { job = 0; run = record { from = 2; to = end; speed = 5 } } ∷ [] }

-- Its end is 4 nanoseconds after its deadline, and is written in the deadline's unit.
late_by_four : map (λ one. one.late) (all_judged asked (ended_at 1045)) ≡ Some 4 ∷ []
late_by_four = refl

in_time_as_written : (part 1045).settled.document ≡ just 4 10
unfolding digits
in_time_as_written = refl

-- So the part is feasible.
abbrev IsFeasibleDocument : Document → Type 0
IsFeasibleDocument document = IsFeasible (jobs_read document.jobs) (slots_read document.runs)

served : (number : ℕ) → number < 1 → work_given (slots_at 1 (slots_read (just 4 10).runs)) number ≡ (job_at (jobs_read (just 4 10).jobs) number).work * 1
served zero within = refl
served (suc number) within = absurd (omega (arith, within))

feasible_as_written : IsFeasibleDocument (just 4 10)
feasible_as_written =
    one_scale_decides (jobs_read (just 4 10).jobs) (slots_read (just 4 10).runs) 1
    (record {
      positive = omega arith;
      divided = All-cons (IsDivided 1) _ [] (record { from = one-dvd 1; to = one-dvd 1; work = one-dvd 1 }) (All-nil (IsDivided 1));
    })
    (record {
      one_at_a_time = (omega arith, omega arith, tt);
      in_windows = All-cons (IsInWindow (jobs_read (just 4 10).jobs) 1) _ [] (record { known = omega arith; released = omega arith; due = omega arith })
          (All-nil (IsInWindow (jobs_read (just 4 10).jobs) 1));
      served = served;
    })

feasible : IsPartFeasible (part 1045)
feasible = subst IsFeasibleDocument (sym in_time_as_written) feasible_as_written

named : flat_map (late_comment (part 1045).settled.units) (part 1045).settled.judged ≡ codes "# late by less than a unit of time: t.0, 0.000004 ms after its deadline\n"
unfolding digits comment
named = refl

-- Near miss: one that is late by a unit runs beyond its deadline, so its part isn't feasible.
late_by_ten : map (λ one. one.late) (all_judged asked (ended_at 1051)) ≡ Some 10 ∷ []
late_by_ten = refl

too_late_as_written : (part 1051).settled.document ≡ just 5 15
unfolding digits
too_late_as_written = refl

not_feasible : IsPartFeasible (part 1051) → ⊥
not_feasible is =
    let within = runs_within (jobs_read (just 5 15).jobs) (just 5 15).runs (subst IsFeasibleDocument too_late_as_written is) in omega (arith, within.0)
