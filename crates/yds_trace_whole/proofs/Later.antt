-- A job and its runs in the units of a part are those in the units of the whole, so many units later.
use Rattle.yds_model.proofs.Common.{◌≡◌, ◌∙◌, ℕ, ◌+◌, ◌-◌, ◌*◌, ◌/◌, ◌<◌, ◌≤◌, ◌⊎◌, inl, inr, ◌==◌, ◌&&◌, ◌||◌, List, [], ◌∷◌, map, reverse, max, Bool, true, false, not, nat_lt, nat_le, if◌then◌else◌, Option, Some, None, is_some, option_map, unwrap_or, refl, sym, ap, ap₂, arith, cases_lt, nat_tests, sum_by-cons, filter_map}
use Rattle.std.specs.List.{AllByRecursion, cons_option}
use Rattle.yds_trace.specs.declared.job.End.{End}
use Rattle.yds_trace.specs.declared.job.End.TheVariants as ends
use Rattle.yds_trace.specs.declared.job.Stretch.{Stretch}
use Rattle.yds_trace.specs.Late.{is_open}
use Rattle.yds_trace.specs.WrittenTime.{Units, Run, written_time, written_speed, run_of, before, runs_of, work_of_run, work_of_runs, runs_end}
use Rattle.yds_trace.specs.Document.{Judged, stands, Written, written_name, written_end, written_runs, is_hidden, owed, with_runs, release_without_runs, without_runs, written_of}
use Rattle.yds_trace.specs.Parts.{is_written}
use Rattle.yds_trace_laws.proofs.Runs.{reverse-all}
use Rattle.yds_trace_whole.specs.Whole.{run_later, is_at_zero, release_later, job_later, jobs_later}

-- # Numbers

lt_later : (a b n : ℕ) → nat_lt (a + n) (b + n) ≡ nat_lt a b
lt_later a b n = grind (arith, nat_tests)

pub le_later : (a b n : ℕ) → nat_le (a + n) (b + n) ≡ nat_le a b
le_later a b n = grind (arith, nat_tests)

eq_later : (a b n : ℕ) → (a + n == b + n) ≡ (a == b)
eq_later a b n = grind (arith, nat_tests)

-- # Times

-- From this time on, what is written in these units is written so many units later in those.
pub record AreLater (units whole : Units) (shift low : ℕ) : Type 0 where
  pub times : (time : ℕ) → low ≤ time → written_time whole time ≡ written_time units time + shift
  pub order : (time other : ℕ) → time ≤ other → (written_time units time ≤ written_time units other) × (written_time whole time ≤ written_time whole other)
  pub speed : whole.speed ≡ units.speed

-- # Runs

abbrev a_run : ℕ → ℕ → ℕ → Run
a_run first last speed = record { from = first; to = last; speed = speed }

abbrev IsFrom : ℕ → Stretch → Type 0
IsFrom low stretch = (low ≤ stretch.from) × (low ≤ stretch.to)

-- two runs that are so many units later
before_later : (shift : ℕ) (run : Run) (runs : List Run) → before (run_later shift run) (map (run_later shift) runs) ≡ map (run_later shift) (before run runs)
before_later shift run [] = refl
before_later shift run (next ∷ runs) =
    ap (λ (b : Bool). if b && (run.speed == next.speed) then record { from = run.from + shift; to = next.to + shift; speed = run.speed } ∷ map (run_later shift) runs
    else run_later shift run ∷ run_later shift next ∷ map (run_later shift) runs) (eq_later run.to next.from shift)
    ∙ by ((run.to == next.from) && (run.speed == next.speed))
  where
    by : (b : Bool) →
        (if b then record { from = run.from + shift; to = next.to + shift; speed = run.speed } ∷ map (run_later shift) runs
        else run_later shift run ∷ run_later shift next ∷ map (run_later shift) runs)
        ≡ map (run_later shift) (if b then record { from = run.from; to = next.to; speed = run.speed } ∷ runs else run ∷ next ∷ runs)
    by true = refl
    by false = refl

module _ (units whole : Units) (shift low : ℕ) (later : AreLater units whole shift low) where
  run_is_later : (stretch : Stretch) → IsFrom low stretch → run_of whole stretch ≡ run_later shift (run_of units stretch)
  run_is_later stretch from =
      let khz : ℕ = unwrap_or stretch.khz 0 in
      ap₂ (λ (first last : ℕ). a_run first last (written_speed whole khz)) (later.times stretch.from from.0) (later.times stretch.to from.1)
      ∙ ap (λ (speed : ℕ). a_run (written_time units stretch.from + shift) (written_time units stretch.to + shift) ((2 * khz + speed) / (2 * speed))) later.speed

  runs_are_later : (stretches : List Stretch) → AllByRecursion (IsFrom low) stretches → runs_of whole stretches ≡ map (run_later shift) (runs_of units stretches)
  runs_are_later [] from = refl
  runs_are_later (stretch ∷ stretches) from =
      let rest : runs_of whole stretches ≡ map (run_later shift) (runs_of units stretches) = runs_are_later stretches from.1 in
      ap₂ (λ (run : Run) (runs : List Run). if nat_lt run.from run.to then before run runs else runs) (run_is_later stretch from.0) rest
      ∙ ap (λ (b : Bool). if b then before (run_later shift (run_of units stretch)) (map (run_later shift) (runs_of units stretches)) else map (run_later shift) (runs_of units stretches))
      (lt_later (run_of units stretch).from (run_of units stretch).to shift)
      ∙ by (nat_lt (run_of units stretch).from (run_of units stretch).to)
    where
      by : (b : Bool) →
          (if b then before (run_later shift (run_of units stretch)) (map (run_later shift) (runs_of units stretches)) else map (run_later shift) (runs_of units stretches))
          ≡ map (run_later shift) (if b then before (run_of units stretch) (runs_of units stretches) else runs_of units stretches)
      by true = before_later shift (run_of units stretch) (runs_of units stretches)
      by false = refl

work_later : (shift : ℕ) (runs : List Run) → work_of_runs (map (run_later shift) runs) ≡ work_of_runs runs
work_later shift [] = refl
work_later shift (run ∷ runs) =
    let one : work_of_run (run_later shift run) ≡ work_of_run run = ap (λ (n : ℕ). run.speed * n)
    (let e : (run.to + shift) - (run.from + shift) ≡ run.to - run.from = omega arith in e) in
    sum_by-cons work_of_run (run_later shift run) (map (run_later shift) runs) ∙ ap₂ (λ (m n : ℕ). m + n) one (work_later shift runs) ∙ sym (sum_by-cons work_of_run run runs)

-- whether the runs end by a time
end_later : (shift due : ℕ) (runs : List Run) → nat_le (runs_end (map (run_later shift) runs)) (due + shift) ≡ nat_le (runs_end runs) due
end_later shift due [] = grind (arith, nat_tests)
end_later shift due (run ∷ []) = le_later run.to due shift
end_later shift due (run ∷ next ∷ runs) = end_later shift due (next ∷ runs)

-- # Jobs

abbrev a_job : List ℕ → ℕ → ℕ → ℕ → List Run → Written
a_job name release deadline work runs = record { name = name; release = release; deadline = deadline; work = work; runs = runs }

abbrev time_if : Bool → ℕ → ℕ
time_if b time = if b then time else 0

abbrev one_if : Bool → ℕ
one_if b = if b then 1 else 0

-- What is known of a judged job's times: from `low` on. So is its deadline where it stands, or its begin isn't known: and then that comes a unit
-- later, or nothing is taken off.
pub record IsTimed (units : Units) (shift low : ℕ) (one : Judged) : Type 0 where
  pub begin : low ≤ one.job.begin
  pub due : stands one ≡ true → low ≤ one.due
  pub window : one.job.begin_known ≡ false → (low ≤ one.due) × ((shift ≡ 0) ⊎ (1 ≤ written_time units one.due))
  pub end : (time : ℕ) → one.job.end ≡ ends.Ended time → low ≤ time
  pub stretches : AllByRecursion (IsFrom low) one.job.stretches

module _ (units whole : Units) (shift low : ℕ) (later : AreLater units whole shift low) (one : Judged) (timed : IsTimed units shift low one) where
  runs_of_job : written_runs whole one.job ≡ map (run_later shift) (written_runs units one.job)
  runs_of_job = runs_are_later units whole shift low later (reverse one.job.stretches) (reverse-all (IsFrom low) one.job.stretches timed.stretches)

  hidden_later : low ≤ one.due → is_hidden whole one ≡ is_hidden units one
  hidden_later due_on = by one.job.end refl
    where
      runs_late : nat_le (runs_end (written_runs whole one.job)) (written_time whole one.due) ≡ nat_le (runs_end (written_runs units one.job)) (written_time units one.due)
      runs_late =
          ap₂ (λ (runs : List Run) (due : ℕ). nat_le (runs_end runs) due) runs_of_job (later.times one.due due_on)
          ∙ end_later shift (written_time units one.due) (written_runs units one.job)

      by : (end : End) → one.job.end ≡ end →
          (is_open end || (nat_lt (written_time whole one.due) (written_end whole end) && nat_le (runs_end (written_runs whole one.job)) (written_time whole one.due)))
          ≡ (is_open end || (nat_lt (written_time units one.due) (written_end units end) && nat_le (runs_end (written_runs units one.job)) (written_time units one.due)))
      by ends.Open is = refl
      by (ends.Ended end) is =
          ap₂ (λ (b c : Bool). b && c)
          (ap₂ (λ (m n : ℕ). nat_lt m n) (later.times one.due due_on) (later.times end (timed.end end is))
          ∙ lt_later (written_time units one.due) (written_time units end) shift) runs_late
      by (ends.Lost since) is = refl

  standing_later : stands one ≡ true → with_runs whole one ≡ job_later shift one (with_runs units one)
  standing_later stands_so =
      let release : written_time whole one.job.begin ≡ release_later shift (is_at_zero one) (written_time units one.job.begin) =
      later.times one.job.begin timed.begin
      ∙ ap (λ (b : Bool). release_later shift (not b && not one.job.begin_known) (written_time units one.job.begin)) (sym stands_so) in
      let work : work_of_runs (written_runs whole one.job) + owed whole one ≡ work_of_runs (written_runs units one.job) + owed units one =
      ap₂ (λ (m n : ℕ). m + n) (ap work_of_runs runs_of_job ∙ work_later shift (written_runs units one.job))
      (ap (λ (b : Bool). one_if (is_some one.late && b)) (hidden_later (timed.due stands_so))) in
      ap₂ (λ (from due : ℕ). a_job (written_name one) from due (work_of_runs (written_runs whole one.job) + owed whole one) (written_runs whole one.job)) release (later.times one.due (timed.due stands_so))
      ∙ ap₂ (λ (some : ℕ) (runs : List Run).
      a_job (written_name one) (release_later shift (is_at_zero one) (written_time units one.job.begin)) (written_time units one.due + shift) some runs) work runs_of_job

  missed_later : stands one ≡ false → without_runs whole one ≡ job_later shift one (without_runs units one)
  missed_later stands_not =
      at one.job.begin_known refl
      ∙ ap (λ (b : Bool). a_job (written_name one) (release_later shift (not b && not one.job.begin_known) (release_without_runs units one.job))
      (max (release_without_runs units one.job + 1) (written_time units one.due) + shift) 1 []) (sym stands_not)
    where
      due_at : low ≤ one.due → (shift ≡ 0) ⊎ (1 ≤ written_time units one.due) → max (0 + 1) (written_time whole one.due) ≡ max (0 + 1) (written_time units one.due) + shift
      due_at due_on (inl none) = omega (arith, later.times one.due due_on, none)
      due_at due_on (inr one_more) = omega (arith, later.times one.due due_on, one_more)

      -- where its deadline is over before `low`, it is before the job's begin
      due_by : (one.due < low) ⊎ (low ≤ one.due) →
          max (written_time whole one.job.begin + 1) (written_time whole one.due) ≡ max (written_time units one.job.begin + 1) (written_time units one.due) + shift
      due_by (inl before) =
          let on = later.order one.due one.job.begin (omega (arith, before, timed.begin)) in omega (arith, later.times one.job.begin timed.begin, on.0, on.1)
      due_by (inr due_on) = omega (arith, later.times one.job.begin timed.begin, later.times one.due due_on)

      at : (b : Bool) → one.job.begin_known ≡ b →
          a_job (written_name one) (time_if b (written_time whole one.job.begin)) (max (time_if b (written_time whole one.job.begin) + 1) (written_time whole one.due)) 1 []
          ≡ a_job (written_name one) (release_later shift (not false && not b) (time_if b (written_time units one.job.begin)))
          (max (time_if b (written_time units one.job.begin) + 1) (written_time units one.due) + shift) 1 []
      at true known =
          ap₂ (λ (from due : ℕ). a_job (written_name one) from due 1 []) (later.times one.job.begin timed.begin) (due_by (cases_lt one.due low))
      at false unknown = ap (λ (due : ℕ). a_job (written_name one) 0 due 1 []) (due_at (timed.window unknown).0 (timed.window unknown).1)

  -- What is written of a job in the units of its part is what is written in those of the whole.
  pub written_later : option_map (job_later shift one) (written_of units one) ≡ written_of whole one
  written_later = by (stands one) refl
    where
      by : (b : Bool) → stands one ≡ b →
          option_map (job_later shift one) (if b then Some (with_runs units one) else (if is_some one.late then Some (without_runs units one) else None))
          ≡ (if b then Some (with_runs whole one) else (if is_some one.late then Some (without_runs whole one) else None))
      by true is = ap Some (sym (standing_later is))
      by false is = late (is_some one.late) (missed_later is)
        where
          late : (b : Bool) → without_runs whole one ≡ job_later shift one (without_runs units one) →
              option_map (job_later shift one) (if b then Some (without_runs units one) else None) ≡ (if b then Some (without_runs whole one) else None)
          late true same = ap Some (sym same)
          late false same = refl

-- # The jobs of a part

-- there is none in none
none_later : (shift : ℕ) (judged : List Judged) → jobs_later shift judged [] ≡ []
none_later shift [] = refl
none_later shift (one ∷ judged) = refl

-- one that isn't written is passed over
passed_over : (shift : ℕ) (one : Judged) (judged : List Judged) (jobs : List Written) → is_written one ≡ false → jobs_later shift (one ∷ judged) jobs ≡ jobs_later shift judged jobs
passed_over shift one judged [] off = sym (none_later shift judged)
passed_over shift one judged (job ∷ jobs) off =
    ap (λ (b : Bool). if b then job_later shift one job ∷ jobs_later shift judged jobs else jobs_later shift judged (job ∷ jobs)) off

written_so : (units : Units) (one : Judged) → is_some (written_of units one) ≡ is_written one
written_so units one = by (stands one)
  where
    late : (b : Bool) → is_some (if b then Some (without_runs units one) else None) ≡ b
    late true = refl
    late false = refl

    by : (b : Bool) → is_some (if b then Some (with_runs units one) else (if is_some one.late then Some (without_runs units one) else None)) ≡ (b || is_some one.late)
    by true = refl
    by false = late (is_some one.late)

-- The jobs of a part in the times of the whole.
pub part_jobs_later : (units whole : Units) (shift low : ℕ) → AreLater units whole shift low → (judged : List Judged) → AllByRecursion (IsTimed units shift low) judged →
    jobs_later shift judged (filter_map (written_of units) judged) ≡ filter_map (written_of whole) judged
part_jobs_later units whole shift low later [] timed = refl
part_jobs_later units whole shift low later (one ∷ judged) timed =
    by (written_of units one) refl (part_jobs_later units whole shift low later judged timed.1)
    ∙ ap (λ (o : Option Written). cons_option o (filter_map (written_of whole) judged)) (written_later units whole shift low later one timed.0)
  where
    rest : List Written
    rest = filter_map (written_of units) judged

    by : (o : Option Written) → written_of units one ≡ o → jobs_later shift judged rest ≡ filter_map (written_of whole) judged →
        jobs_later shift (one ∷ judged) (cons_option o rest) ≡ cons_option (option_map (job_later shift one) (written_of units one)) (filter_map (written_of whole) judged)
    by None is same =
        passed_over shift one judged rest (sym (written_so units one) ∙ ap is_some is)
        ∙ same ∙ ap (λ (o : Option Written). cons_option (option_map (job_later shift one) o) (filter_map (written_of whole) judged)) (sym is)
    by (Some job) is same =
        ap (λ (b : Bool). if b then job_later shift one job ∷ jobs_later shift judged rest else jobs_later shift judged (job ∷ rest)) (sym (written_so units one) ∙ ap is_some is)
        ∙ ap (λ (l : List Written). job_later shift one job ∷ l) same
        ∙ ap (λ (o : Option Written). cons_option (option_map (job_later shift one) o) (filter_map (written_of whole) judged)) (sym is)
