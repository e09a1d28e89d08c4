-- What is so of each job that is judged: its lateness is that of its end, and where it stands as it is it isn't due before its begin, nor before time 0.
use Rattle.yds_model.proofs.Common.{◌≡◌, ℕ, zero, suc, ◌+◌, ◌<◌, ◌≤◌, List, [], ◌∷◌, length, Bool, true, false, not, ◌&&◌, nat_lt, if◌then◌else◌, Option, Some, None, is_none, refl, arith, leb-true, All-from_recursion, All}
use Rattle.std.specs.List.{AllByRecursion, slice_index_or, enumerate_from}
use Rattle.std.proofs.lemmas.Bool.{ltb-false}
use Rattle.yds_kernel.specs.Event.{Said}
use Rattle.yds_trace.specs.declared.reason.Reason.{Reason}
use Rattle.yds_trace.specs.Asked.{Task, Asked, task_at, is_after_from}
use Rattle.yds_trace.specs.Jobs.{Job}
use Rattle.yds_trace.specs.Late.{last_asked, due, is_open, lateness, late_by}
use Rattle.yds_trace.specs.Document.{Judged, is_lost, began_before, jobs_of, shares_of, judged, judged_of, judged_from, all_judged, stands, least_of, least_begin, units_of}
use Rattle.yds_trace_laws.proofs.Ordered.{append-all, map-all, in_order-all}

-- what each judged job is
pub record IsJudged (asked : Asked) (last : ℕ) (one : Judged) : Type 0 where
  pub late : one.late ≡ late_by asked.from last one.due one.job.end
  pub begun : stands one ≡ true → one.job.begin ≤ one.due
  pub asked_for : stands one ≡ true → is_after_from asked.from one.job.begin ≡ true

-- one that isn't after `from` has a reason
first_reason : (b : Bool) (r : Reason) (o : Option Reason) → is_none (if not b then Some r else o) ≡ true → b ≡ true
first_reason true r o stands = refl
first_reason false r o stands = cc

-- nor has one that is due before a unit of time behind its begin
sixth_reason : (first second third fourth fifth sixth : Bool) (one two three four five six : Reason) (rest : Option Reason)
    → is_none (if first then Some one else (if second then Some two else (if third then Some three else (if fourth then Some four
    else (if fifth then Some five else (if sixth then Some six else rest)))))) ≡ true → sixth ≡ false
sixth_reason true second third fourth fifth sixth one two three four five six rest stands = cc
sixth_reason false true third fourth fifth sixth one two three four five six rest stands = cc
sixth_reason false false true fourth fifth sixth one two three four five six rest stands = cc
sixth_reason false false false true fifth sixth one two three four five six rest stands = cc
sixth_reason false false false false true sixth one two three four five six rest stands = cc
sixth_reason false false false false false true one two three four five six rest stands = cc
sixth_reason false false false false false false one two three four five six rest stands = refl

judged_is : (asked : Asked) (past : List Said) (number : ℕ) (before : Bool) (numbered : ℕ × Job) →
    IsJudged asked (last_asked asked past) (judged asked past number before numbered)
judged_is asked past number before numbered = record {
  late = refl;
  begun = λ whole.
      let due_then : ℕ = due (task_at asked number) numbered.1 in
      let long : numbered.1.begin + asked.unit ≤ due_then = ltb-false due_then (numbered.1.begin + asked.unit)
      (sixth_reason (not (is_after_from asked.from numbered.1.begin)) (is_lost (last_asked asked past) numbered.1.end) numbered.1.switch_missing
      (is_open numbered.1.end && is_none (lateness asked (task_at asked number) (last_asked asked past) numbered.1)) (not numbered.1.begin_known)
      (nat_lt due_then (numbered.1.begin + asked.unit)) _ _ _ _ _ _ _ whole) in omega (arith, long);
  asked_for = λ whole. first_reason (is_after_from asked.from numbered.1.begin) _ _ whole;
}

-- What holds of each job of each task as it is judged holds of all jobs.
each_of : (P : Judged → Type 0) (asked : Asked) (past : List Said) → ((number : ℕ) (before : Bool) (numbered : ℕ × Job) → P (judged asked past number before numbered)) →
    (number : ℕ) (tasks : List Task) → AllByRecursion P (judged_from asked past number tasks)
each_of P asked past each number [] = tt
each_of P asked past each number (task ∷ tasks) =
    append-all P (judged_of asked past number) (judged_from asked past (number + 1) tasks)
    (map-all P (judged asked past number (began_before (jobs_of asked past number))) (enumerate_from 0 (shares_of asked past number))
    (each number (began_before (jobs_of asked past number)))) (each_of P asked past each (number + 1) tasks)

pub each_judged : (P : Judged → Type 0) (asked : Asked) (past : List Said) → ((number : ℕ) (before : Bool) (numbered : ℕ × Job) → P (judged asked past number before numbered)) →
    AllByRecursion P (all_judged asked past)
each_judged P asked past each =
    in_order-all P (λ one. one.job.begin) (judged_from asked past 0 asked.tasks) (each_of P asked past each 0 asked.tasks)

pub all_are_judged : (asked : Asked) (past : List Said) → All (IsJudged asked (last_asked asked past)) (all_judged asked past)
all_are_judged asked past =
    All-from_recursion (IsJudged asked (last_asked asked past)) (all_judged asked past)
    (each_judged (IsJudged asked (last_asked asked past)) asked past (judged_is asked past))

-- # Time 0

least_le : (o : Option ℕ) (time : ℕ) → least_of o time ≤ time
least_le None time = omega arith
least_le (Some least) time = omega arith

least_le_of : (z time begin : ℕ) → z ≤ begin → least_of (Some z) time ≤ begin
least_le_of z time begin order = omega arith

-- the least begin, where there is one, and that it is at most this time
abbrev HasLeast : List Judged → ℕ → Type 0
HasLeast ones begin = (z : ℕ) × ((least_begin ones ≡ Some z) × (z ≤ begin))

least_here : (one : Judged) (more : List Judged) (b : Bool) → b ≡ true → (o : Option ℕ) →
    (z : ℕ) × (((if b then Some (least_of o one.job.begin) else o) ≡ Some z) × (z ≤ one.job.begin))
least_here one more true so o = (least_of o one.job.begin, (refl, least_le o one.job.begin))
least_here one more false so o = cc

least_there : (time begin : ℕ) (b : Bool) (o : Option ℕ) (z : ℕ) → o ≡ Some z → z ≤ begin →
    (y : ℕ) × (((if b then Some (least_of o time) else o) ≡ Some y) × (y ≤ begin))
least_there time begin true None z is order = cc
least_there time begin true (Some x) z is order =
    let same : x ≡ z = cc in (least_of (Some x) time, (refl, least_le_of x time begin (omega arith)))
least_there time begin false o z is order = (z, (is, order))

least_before : (ones : List Judged) (i : ℕ) (d : Judged) → i < length ones → stands (slice_index_or ones i d) ≡ true →
    HasLeast ones (slice_index_or ones i d).job.begin
least_before [] i d within whole = absurd (omega arith)
least_before (one ∷ more) zero d within whole = least_here one more (stands one) whole (least_begin more)
least_before (one ∷ more) (suc i) d within whole =
    let rest : HasLeast more (slice_index_or more i d).job.begin = least_before more i d (omega arith) whole in
    least_there one.job.begin (slice_index_or more i d).job.begin (stands one) (least_begin more) rest.0 rest.1.0 rest.1.1

zero_by : (from least : Option ℕ) (first begin : ℕ) → (z : ℕ) × ((least ≡ Some z) × (z ≤ begin)) → is_after_from from begin ≡ true →
    (elim from as (λ _. ℕ) [ Some time ↦ time | None ↦ elim least as (λ _. ℕ) [ Some time ↦ time | None ↦ first ] ]) ≤ begin
zero_by (Some from) least first begin has after = leb-true from begin after
zero_by None (Some x) first begin has after = let same : x ≡ has.0 = cc has.1.0 in omega (arith, has.1.1, same)
zero_by None None first begin has after = cc has.1.0

-- Time 0 isn't after the begin of a job that stands as it is.
pub zero_before : (asked : Asked) (past : List Said) (i : ℕ) (d : Judged) → i < length (all_judged asked past) →
    stands (slice_index_or (all_judged asked past) i d) ≡ true → (units_of asked past).zero ≤ (slice_index_or (all_judged asked past) i d).job.begin
zero_before asked past i d within whole =
    zero_by asked.from (least_begin (all_judged asked past)) _ (slice_index_or (all_judged asked past) i d).job.begin
    (least_before (all_judged asked past) i d within whole)
    ((all_are_judged asked past i d within).asked_for whole)
