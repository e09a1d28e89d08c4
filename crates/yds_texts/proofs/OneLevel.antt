-- Where the jobs of each task follow one another without a gap until the horizon, a plan has one level.
use Rattle.yds_model.proofs.Common.{◌≡◌, ℕ, ◌+◌, ◌-◌, ◌*◌, ◌<◌, ◌≤◌, true, List, [], ◌∷◌, length, get_or, refl, sym, ap, ◌∙◌, arith, inl, inr, All, sum_by, list_all, range_with_len, le_of_mul-le-mul_left, eq_of_mul-eq-mul_left, mul-le-mul_left, mul-sub, cases_lt, sum_by-cons, get_or-le-sum_by, Job, no_job, job_at, WrittenSlot, WholeSlot, IsScale, slots_at, IsFeasibleAt, excess, horizon, busy, Piece, IsConfined, total_length, Level, IsPlan, Task, fills_horizon, sum_by-mul, sum_by_at_most, sum_by_zero}
use Rattle.model_lemmas.proofs.Horizon.{busy_and_idle, deadlines_within}
use Rattle.model_lemmas.proofs.Scale.{scale_exists}
use Rattle.yds_texts.specs.TaskLaws.{IsOneLevel}
use Rattle.yds_laws.proofs.Bound.{confinement_bound}
use Rattle.yds_laws.proofs.Curve.{curve, AreFalling, DoTheSame, same_levels}
use Rattle.yds_laws.proofs.Explained.{proper_explains}
use Rattle.yds_laws.proofs.Plans.{plan_falls, plan_excess}
use Rattle.yds_laws.proofs.Served.{counted_once, all_numbers}
use Rattle.yds_laws.proofs.TaskWork.{jobs_until, confined_work}
use Rattle.yds_laws.proofs.JobNumbers.{sum_by_number}

-- # The time until the horizon

-- one piece, from the start to a time
abbrev until : ℕ → List Piece
until time = record { from = 0; to = time } ∷ []

until_long : (time : ℕ) → total_length (until time) ≡ time
until_long time = omega (arith, sum_by-cons (λ (piece : Piece). piece.to - piece.from) (record { from = 0; to = time }) [])

-- a job that is due by then is confined to it
confined_until : (time : ℕ) (job : Job) → job.deadline ≤ time → IsConfined job (until time)
confined_until time job due now released before = (0, record { from = 0; to = time }, omega arith, refl, (omega arith, omega arith))

-- so nothing runs longer
busy_until : (time : ℕ) (jobs : List Job) (scale : ℕ) (slots : List WholeSlot) → All (λ job. job.deadline ≤ time) jobs → IsFeasibleAt jobs scale slots → busy slots ≤ scale * time
busy_until time jobs scale slots due feasible =
    let last : horizon jobs ≤ time = omega (arith, deadlines_within time 0 jobs (omega arith) due) in
    omega (arith, busy_and_idle jobs scale slots feasible, mul-le-mul_left scale last)

-- # The excess of a plan of such tasks

-- the work of one slot above p/q, where it isn't faster than work / time
slot_above : (p q work time all long : ℕ) → long * work ≤ all * time → p * long ≤ q * all → long * (q * work - p * time) ≤ (q * all - p * long) * time
slot_above p q work time all long slow less =
    omega (arith, ap (λ n. n * time) (whole (q * all) (p * long) less), mul-le-mul_left q slow, mul-sub long (q * work) (p * time))
  where
    -- a difference with what was taken is the whole
    whole : (a b : ℕ) → b ≤ a → (a - b) + b ≡ a
    whole a b within = omega arith

-- above a speed that isn't less a slot does nothing
slot_below : (p q work time all long : ℕ) → 1 ≤ long → long * work ≤ all * time → q * all ≤ p * long → q * work - p * time ≡ 0
slot_below p q work time all long some slow more =
    let under : q * work ≤ p * time = le_of_mul-le-mul_left {k = long} (omega (arith, mul-le-mul_left q slow, mul-le-mul_left time more)) some in
    omega arith

-- Slots that do `scale * all` of work in at most `scale * long` of time, none faster than all / long, do above each speed just what one level does.
excess_of_one : (p q scale all long : ℕ) (slots : List WholeSlot) → 1 ≤ long → busy slots ≤ scale * long → All (λ slot. long * slot.work ≤ all * (slot.to - slot.from)) slots →
    q * scale * all ≤ excess p q slots + p * scale * long → excess p q slots ≡ scale * (q * all - p * long)
excess_of_one p q scale all long slots some within slow least = elim (cases_lt (p * long) (q * all)) [
  | inr fast ↦
      let none : excess p q slots ≡ 0 = sum_by_zero (λ slot. q * slot.work - p * (slot.to - slot.from)) slots
      (λ k d inside. slot_below p q (get_or slots k d).work ((get_or slots k d).to - (get_or slots k d).from) all long some (slow k d inside) fast) in
      let nothing : q * all - p * long ≡ 0 = omega arith in
      omega (arith, none, ap (λ n. scale * n) nothing)
  | inl less ↦
      let rest : ℕ = q * all - p * long in
      let split : rest + p * long ≡ q * all = omega arith in
      let most : long * excess p q slots ≤ rest * busy slots =
      omega (
        arith,
        sum_by-mul long (λ (slot : WholeSlot). q * slot.work - p * (slot.to - slot.from)) slots,
        sum_by_at_most (λ (slot : WholeSlot). long * (q * slot.work - p * (slot.to - slot.from))) (λ slot. rest * (slot.to - slot.from)) slots
            (λ k d inside. slot_above p q (get_or slots k d).work ((get_or slots k d).to - (get_or slots k d).from) all long (slow k d inside) (omega arith)),
        sum_by-mul rest (λ (slot : WholeSlot). slot.to - slot.from) slots,
      ) in
      let above : excess p q slots ≤ scale * rest = le_of_mul-le-mul_left {k = long} (omega (arith, most, mul-le-mul_left rest within)) some in
      omega (arith, above, least, ap (λ n. scale * n) split)
]

-- At one scale of a plan: the jobs are those of tasks that fill the horizon.
module _ (time : ℕ) (tasks : List Task) (slots : List WrittenSlot) (levels : List Level) (filled : list_all (fills_horizon time) tasks ≡ true)
    (some : All (λ task. 1 ≤ task.period) tasks) (positive : 1 ≤ time) (due : All (λ job. job.deadline ≤ time) (jobs_until time tasks))
    (plan : IsPlan (jobs_until time tasks) slots levels) (scale : ℕ) (is : IsScale scale slots) where
  abbrev jobs : List Job
  jobs = jobs_until time tasks

  abbrev all : ℕ
  all = sum_by (λ job. job.work) jobs

  abbrev whole : List WholeSlot
  whole = slots_at scale slots

  feasible : IsFeasibleAt jobs scale whole
  feasible = plan.proper.feasible.holds scale is

  -- nothing is done above the speed at which the jobs of all tasks run
  none_above : excess all time whole ≡ 0
  none_above =
      let force = ((proper_explains jobs slots levels plan.proper).holds scale is).forced all time positive in
      let bound = confined_work time tasks _ _ filled some positive force.different force.known force.confined in
      omega (arith, force.exact, mul-le-mul_left scale bound)

  -- so no slot is faster
  slow : All (λ slot. time * slot.work ≤ all * (slot.to - slot.from)) whole
  slow k d within = omega (arith, none_above, get_or-le-sum_by (λ (slot : WholeSlot). time * slot.work - all * (slot.to - slot.from)) whole k d within)

  -- all jobs are confined to the time until the horizon
  confined : All (λ number. IsConfined (job_at jobs number) (until time)) (range_with_len 0 (length jobs))
  confined = all_numbers (λ number. IsConfined (job_at jobs number) (until time)) jobs (λ number below. confined_until time (job_at jobs number) (due number no_job below))

  plan_like_one : (p q : ℕ) → 1 ≤ q → curve p q levels ≡ q * all - p * time
  plan_like_one p q some_q =
      let least = confinement_bound jobs scale p q whole (range_with_len 0 (length jobs)) (until time) is.positive (λ number. counted_once number 0 (length jobs))
      (all_numbers (λ number. number < length jobs) jobs (λ number below. below)) confined feasible in
      let one = excess_of_one p q scale all time whole positive (busy_until time jobs scale whole due feasible) slow (omega (arith, least, ap (λ n. q * scale * n) (sum_by_number (λ job. job.work) jobs), ap (λ n. p * scale * n) (until_long time))) in
      eq_of_mul-eq-mul_left scale is.positive (curve p q levels) (q * all - p * time) (omega (arith, one, plan_excess jobs slots levels scale p q plan is some_q))

-- the one level
abbrev one : ℕ → ℕ → Level
one work long = record { work = work; length = long; pieces = []; members = [] }

curve_one : (p q work long : ℕ) → curve p q (one work long ∷ []) ≡ q * work - p * long
curve_one p q work long = omega (arith, sum_by-cons (λ (level : Level). q * level.work - p * level.length) (one work long) [])

-- Every plan has just it.
pub one_level_planned : (time : ℕ) (tasks : List Task) (slots : List WrittenSlot) (levels : List Level) → list_all (fills_horizon time) tasks ≡ true → All (λ task. 1 ≤ task.period) tasks → 1 ≤ time →
    All (λ job. job.deadline ≤ time) (jobs_until time tasks) → 1 ≤ sum_by (λ job. job.work) (jobs_until time tasks) → IsPlan (jobs_until time tasks) slots levels →
    IsOneLevel (sum_by (λ job. job.work) (jobs_until time tasks)) time levels
one_level_planned time tasks slots levels filled some positive due works plan =
    let jobs : List Job = jobs_until time tasks in
    let all : ℕ = sum_by (λ (job : Job). job.work) jobs in
    let scale = scale_exists slots plan.proper.feasible.solid in
    let falls : AreFalling (one all time ∷ []) = (works, positive, tt, tt) in
    let same : DoTheSame levels (one all time ∷ []) = λ p q some_q. plan_like_one time tasks slots levels filled some positive due plan scale.0 scale.1 p q some_q ∙ sym (curve_one p q all time) in
    let alike = same_levels levels (one all time ∷ []) (plan_falls jobs slots levels plan) falls same in
    let first = alike.1 0 (omega (arith, alike.0)) in
    record { one = alike.0; same_work = first.0; same_length = first.1 }
