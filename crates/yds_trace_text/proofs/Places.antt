-- Each job is written, or counted once among those that are left out.
use Rattle.base.proofs.Common.{◌≡◌, ℕ, ◌+◌, ◌&&◌, ◌||◌, Bool, true, false, not, cond, List, [], ◌∷◌, filter, length, refl, arith, nat_le, Option, Some, None, is_some, cond_both, ltb-false, sum_by, sum_by-cons, sum_by-append, count_by, filter_map, length-filter}
use Rattle.std.specs.Prelude.{is_none}
use Rattle.std.specs.List.{cons_option}
use Rattle.yds_kernel.specs.Event.{Said}
use Rattle.yds_trace.specs.declared.reason.Reason.{Reason}
use Rattle.yds_trace.specs.declared.reason.Reason.TheVariants as reasons
use Rattle.yds_trace.specs.Asked.{Task, Asked}
use Rattle.yds_trace.specs.WrittenTime.{Units}
use Rattle.yds_trace.specs.Document.{Judged, stands, is_left_out, judged_of, judged_from, put_in, in_order, all_judged, units_of, Written, with_runs, without_runs, written_of, written_jobs}
use Rattle.yds_trace_document.specs.Settled.{judged_by_task}
use Rattle.yds_trace_document.specs.LeftOut.{is_for}
use Rattle.yds_trace_text.specs.Text.{Group, is_left_out_for, groups_of_task, has_jobs, all_groups, is_cut_off, is_without_runs}
use Rattle.yds_trace_text.specs.Laws.{count_of, EveryJobHasItsPlace}

-- # Written or left out

abbrev one : Bool → ℕ
one b = cond b 1 0

-- what is written of a job, by why it can't stand and how late it is
count_one : (reason : Option Reason) (late : Option ℕ) → one (is_none reason) + one (not (is_none reason) && is_some late) + one (not (is_none reason) && is_none late) ≡ 1
count_one None None = refl
count_one None (Some late) = refl
count_one (Some reason) None = refl
count_one (Some reason) (Some late) = refl

length_one : (standing lately : Bool) (with_runs without_runs : Written) (jobs : List Written) →
    length (cons_option (cond standing (Some with_runs) (cond lately (Some without_runs) None)) jobs)
    ≡ one standing + one (not standing && lately) + length jobs
length_one true lately with_runs without_runs jobs = omega arith
length_one false true with_runs without_runs jobs = omega arith
length_one false false with_runs without_runs jobs = omega arith

abbrev counted_by : (Judged → Bool) → Judged → ℕ
counted_by p judged = cond (p judged) 1 0

written_count : (units : Units) (judged : List Judged) → length (filter_map (written_of units) judged) ≡ count_by stands judged + count_by is_without_runs judged
written_count units [] = refl
written_count units (first ∷ more) =
    omega (
      arith,
      length_one (stands first) (is_some first.late) (with_runs units first) (without_runs units first) (filter_map (written_of units) more),
      written_count units more,
      sum_by-cons (counted_by stands) first more,
      sum_by-cons (counted_by is_without_runs) first more,
    )

place_count : (judged : List Judged) → count_by stands judged + count_by is_without_runs judged + count_by is_left_out judged ≡ length judged
place_count [] = refl
place_count (first ∷ more) =
    omega (
      arith,
      count_one first.reason first.late,
      place_count more,
      sum_by-cons (counted_by stands) first more,
      sum_by-cons (counted_by is_without_runs) first more,
      sum_by-cons (counted_by is_left_out) first more,
    )

-- # Order changes no count

put_sum : {A : Type 0} (f key : A → ℕ) (x : A) (xs : List A) → sum_by f (put_in key x xs) ≡ f x + sum_by f xs
put_sum f key x [] = sum_by-cons f x []
put_sum {A} f key x (y ∷ ys) =
    cond_both (nat_le (key x) (key y)) (x ∷ y ∷ ys) (y ∷ put_in key x ys) (λ (zs : List A). sum_by f zs ≡ f x + sum_by f (y ∷ ys))
    (λ held. sum_by-cons f x (y ∷ ys))
    (λ denied. omega (arith, sum_by-cons f y (put_in key x ys), put_sum f key x ys, sum_by-cons f y ys))

order_sum : {A : Type 0} (f key : A → ℕ) (xs : List A) → sum_by f (in_order key xs) ≡ sum_by f xs
order_sum f key [] = refl
order_sum f key (x ∷ xs) = omega (arith, put_sum f key x (in_order key xs), order_sum f key xs, sum_by-cons f x xs)

-- # Tasks and reasons

has_sum : (groups : List Group) → sum_by count_of (filter has_jobs groups) ≡ sum_by count_of groups
has_sum [] = refl
has_sum (group ∷ groups) =
    cond_both (has_jobs group) (group ∷ filter has_jobs groups) (filter has_jobs groups) (λ (some : List Group). sum_by count_of some ≡ sum_by count_of (group ∷ groups))
    (λ held. omega (arith, has_sum groups, sum_by-cons count_of group (filter has_jobs groups), sum_by-cons count_of group groups))
    (λ denied. omega (arith, has_sum groups, sum_by-cons count_of group groups, ltb-false 0 group.count denied))

abbrev left_for : Reason → Option Reason → Option ℕ → Bool
left_for wanted reason late = not (is_none reason) && is_none late && is_for wanted reason

-- a job that is left out is so for one reason
for_one : (reason : Option Reason) (late : Option ℕ) →
    one (left_for reasons.NotEnded reason late) + one (left_for reasons.EventsLost reason late) + one (left_for reasons.SwitchMissing reason late)
    + one (left_for reasons.BeginUnseen reason late) + one (left_for reasons.DueBefore reason late) + one (left_for reasons.Moved reason late)
    + one (left_for reasons.SpeedUnknown reason late)
    + one (left_for reasons.BeforeFrom reason late || left_for reasons.AfterTo reason late)
    ≡ one (not (is_none reason) && is_none late)
for_one None late = refl
for_one (Some reason) (Some late) = refl
for_one (Some reasons.BeforeFrom) None = refl
for_one (Some reasons.AfterTo) None = refl
for_one (Some reasons.NotEnded) None = refl
for_one (Some reasons.EventsLost) None = refl
for_one (Some reasons.SwitchMissing) None = refl
for_one (Some reasons.BeginUnseen) None = refl
for_one (Some reasons.DueBefore) None = refl
for_one (Some reasons.Moved) None = refl
for_one (Some reasons.SpeedUnknown) None = refl

reason_counts : (judged : List Judged) →
    count_by (is_left_out_for reasons.NotEnded) judged + count_by (is_left_out_for reasons.EventsLost) judged
    + count_by (is_left_out_for reasons.SwitchMissing) judged + count_by (is_left_out_for reasons.BeginUnseen) judged
    + count_by (is_left_out_for reasons.DueBefore) judged + count_by (is_left_out_for reasons.Moved) judged
    + count_by (is_left_out_for reasons.SpeedUnknown) judged
    + count_by is_cut_off judged ≡ count_by is_left_out judged
reason_counts [] = refl
reason_counts (first ∷ more) =
    omega (
      arith,
      for_one first.reason first.late,
      reason_counts more,
      sum_by-cons (counted_by (is_left_out_for reasons.NotEnded)) first more,
      sum_by-cons (counted_by (is_left_out_for reasons.EventsLost)) first more,
      sum_by-cons (counted_by (is_left_out_for reasons.SwitchMissing)) first more,
      sum_by-cons (counted_by (is_left_out_for reasons.BeginUnseen)) first more,
      sum_by-cons (counted_by (is_left_out_for reasons.DueBefore)) first more,
      sum_by-cons (counted_by (is_left_out_for reasons.Moved)) first more,
      sum_by-cons (counted_by (is_left_out_for reasons.SpeedUnknown)) first more,
      sum_by-cons (counted_by is_cut_off) first more,
      sum_by-cons (counted_by is_left_out) first more,
    )

group_counts : (label : List ℕ) (judged : List Judged) → sum_by count_of (groups_of_task label judged) + count_by is_cut_off judged ≡ count_by is_left_out judged
group_counts label judged =
    omega (
      arith,
      reason_counts judged,
      length-filter (is_left_out_for reasons.NotEnded) judged,
      length-filter (is_left_out_for reasons.EventsLost) judged,
      length-filter (is_left_out_for reasons.SwitchMissing) judged,
      length-filter (is_left_out_for reasons.BeginUnseen) judged,
      length-filter (is_left_out_for reasons.DueBefore) judged,
      length-filter (is_left_out_for reasons.Moved) judged,
      length-filter (is_left_out_for reasons.SpeedUnknown) judged,
    )

told_counts : (asked : Asked) (past : List Said) (number : ℕ) (tasks : List Task) →
    sum_by count_of (all_groups tasks (judged_by_task asked past number tasks)) + count_by is_cut_off (judged_from asked past number tasks)
    ≡ count_by is_left_out (judged_from asked past number tasks)
told_counts asked past number [] = refl
told_counts asked past number (task ∷ tasks) =
    omega (
      arith,
      told_counts asked past (number + 1) tasks,
      group_counts task.label (judged_of asked past number),
      has_sum (groups_of_task task.label (judged_of asked past number)),
      sum_by-append count_of (filter has_jobs (groups_of_task task.label (judged_of asked past number))) (all_groups tasks (judged_by_task asked past (number + 1) tasks)),
      sum_by-append (counted_by is_cut_off) (judged_of asked past number) (judged_from asked past (number + 1) tasks),
      sum_by-append (counted_by is_left_out) (judged_of asked past number) (judged_from asked past (number + 1) tasks),
    )

-- # All of them

pub every_job_has_its_place : EveryJobHasItsPlace
every_job_has_its_place asked past =
    let written : length (written_jobs asked past) ≡ count_by stands (all_judged asked past) + count_by is_without_runs (all_judged asked past) =
    written_count (units_of asked past) (all_judged asked past) in
    record {
      each = omega (arith, written, place_count (all_judged asked past));
      written = written;
      told = omega (
        arith,
        told_counts asked past 0 asked.tasks,
        order_sum (counted_by is_cut_off) (λ (judged : Judged). judged.job.begin) (judged_from asked past 0 asked.tasks),
        order_sum (counted_by is_left_out) (λ (judged : Judged). judged.job.begin) (judged_from asked past 0 asked.tasks),
      );
    }
