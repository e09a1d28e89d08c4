-- One job as the documents of two processors have it: the same is said of it, and where it belongs to the second processor, so does what that one has of it.
use Rattle.yds_model.proofs.Common.{◌≡◌, ◌∙◌, ℕ, zero, suc, ◌+◌, ◌<◌, ◌==◌, ◌&&◌, ◌||◌, List, [], ◌∷◌, ◌++◌, map, filter, length, get_or, Bool, true, false, not, cond, nat_le, list_any, refl, sym, ap, ap₂, subst, arith, false≢true}
use Rattle.std.specs.List.{enumerate_from}
use Rattle.yds_kernel.specs.Event.{Said}
use Rattle.yds_trace.specs.declared.job.Stretch.{Stretch}
use Rattle.yds_trace.specs.Asked.{Task, Asked, on}
use Rattle.yds_trace.specs.Jobs.{Job}
use Rattle.yds_trace.specs.Document.{has_run_on, share_of, began_before, jobs_of, Judged, judged, judged_of, judged_from, put_in, in_order, all_judged}
use Rattle.yds_trace.specs.Parts.{belongs, begin_of}
use Rattle.yds_trace.proofs.OnProcessor.{jobs_of_on}
use Rattle.yds_trace.proofs.Shares.{share_has_run_on, share_is_empty}
use Rattle.yds_trace_laws.specs.Processors.{whole_job}
use Rattle.yds_trace_laws.proofs.Shares.{share_kept}
use Rattle.yds_trace_whole.proofs.Told.{with_number}

-- what `there` is to `one`, which is judged on another processor
pub record IsOneJob (asked : Asked) (processor : ℕ) (one there : Judged) : Type 0 where
  pub same : whole_job there ≡ whole_job one
  pub has : belongs (on processor asked) one ≡ true → belongs (on processor asked) there ≡ true

-- so it is of the first jobs of two lists, of the second ones, and so on
abbrev pub AreOneByOne : Asked → ℕ → List Judged → List Judged → Type 0
AreOneByOne asked processor [] [] = Unit {0}
AreOneByOne asked processor [] (there ∷ theirs) = ⊥
AreOneByOne asked processor (one ∷ ones) [] = ⊥
AreOneByOne asked processor (one ∷ ones) (there ∷ theirs) = IsOneJob asked processor one there × AreOneByOne asked processor ones theirs

pub one_by_one : (asked : Asked) (processor : ℕ) (ones theirs : List Judged) → AreOneByOne asked processor ones theirs → (i : ℕ) (d : Judged) → i < length ones →
    (i < length theirs) × IsOneJob asked processor (get_or ones i d) (get_or theirs i d)
one_by_one asked processor [] theirs all i d within = absurd (omega (arith, within))
one_by_one asked processor (one ∷ ones) [] all i d within = absurd all
one_by_one asked processor (one ∷ ones) (there ∷ theirs) all zero d within = (omega arith, all.0)
one_by_one asked processor (one ∷ ones) (there ∷ theirs) all (suc i) d within =
    let rest = one_by_one asked processor ones theirs all.1 i d (omega (arith, within)) in (omega (arith, rest.0), rest.1)

both_append : (asked : Asked) (processor : ℕ) (ones theirs more others : List Judged) → AreOneByOne asked processor ones theirs → AreOneByOne asked processor more others →
    AreOneByOne asked processor (ones ++ more) (theirs ++ others)
both_append asked processor [] [] more others first second = second
both_append asked processor [] (there ∷ theirs) more others first second = absurd first
both_append asked processor (one ∷ ones) [] more others first second = absurd first
both_append asked processor (one ∷ ones) (there ∷ theirs) more others first second = (first.0, both_append asked processor ones theirs more others first.1 second)

-- # In order of begin

begins_same : (asked : Asked) (processor : ℕ) (one there : Judged) → IsOneJob asked processor one there → begin_of there ≡ begin_of one
begins_same asked processor one there is = ap begin_of is.same

both_put : (asked : Asked) (processor : ℕ) (one there : Judged) (ones theirs : List Judged) → IsOneJob asked processor one there → AreOneByOne asked processor ones theirs →
    AreOneByOne asked processor (put_in begin_of one ones) (put_in begin_of there theirs)
both_put asked processor one there [] [] is all = (is, tt)
both_put asked processor one there [] (next ∷ theirs) is all = absurd all
both_put asked processor one there (other ∷ ones) [] is all = absurd all
both_put asked processor one there (other ∷ ones) (next ∷ theirs) is all =
    subst (λ (b : Bool). AreOneByOne asked processor (put_in begin_of one (other ∷ ones)) (cond b (there ∷ next ∷ theirs) (next ∷ put_in begin_of there theirs)))
    (sym (ap₂ nat_le (begins_same asked processor one there is) (begins_same asked processor other next all.0)))
    (by (nat_le (begin_of one) (begin_of other)) (both_put asked processor one there ones theirs is all.1))
  where
    by : (b : Bool) → AreOneByOne asked processor (put_in begin_of one ones) (put_in begin_of there theirs) →
        AreOneByOne asked processor (cond b (one ∷ other ∷ ones) (other ∷ put_in begin_of one ones)) (cond b (there ∷ next ∷ theirs) (next ∷ put_in begin_of there theirs))
    by true rest = (is, all)
    by false rest = (all.0, rest)

both_in_order : (asked : Asked) (processor : ℕ) (ones theirs : List Judged) → AreOneByOne asked processor ones theirs →
    AreOneByOne asked processor (in_order begin_of ones) (in_order begin_of theirs)
both_in_order asked processor [] [] all = tt
both_in_order asked processor [] (there ∷ theirs) all = absurd all
both_in_order asked processor (one ∷ ones) [] all = absurd all
both_in_order asked processor (one ∷ ones) (there ∷ theirs) all =
    both_put asked processor one there (in_order begin_of ones) (in_order begin_of theirs) all.0 (both_in_order asked processor ones theirs all.1)

-- # One job

any_of_some : (p q : Stretch → Bool) (stretches : List Stretch) → list_any p (filter q stretches) ≡ true → list_any p stretches ≡ true
any_of_some p q [] any = any
any_of_some p q (stretch ∷ stretches) any = by (q stretch) any (any_of_some p q stretches)
  where
    more : (has : Bool) → (has || list_any p (filter q stretches)) ≡ true → (list_any p (filter q stretches) ≡ true → list_any p stretches ≡ true) →
        (has || list_any p stretches) ≡ true
    more true any rest = refl
    more false any rest = rest any

    also : (has : Bool) → list_any p stretches ≡ true → (has || list_any p stretches) ≡ true
    also true any = refl
    also false any = any

    by : (kept : Bool) → list_any p (cond kept (stretch ∷ filter q stretches) (filter q stretches)) ≡ true →
        (list_any p (filter q stretches) ≡ true → list_any p stretches ≡ true) → list_any p (stretch ∷ stretches) ≡ true
    by true any rest = more (p stretch) any rest
    by false any rest = also (p stretch) (rest any)

-- Who ran on the processor by what another one has of the job, ran there.
ran_there : (asked : Asked) (processor : ℕ) (job : Job) → has_run_on processor (share_of asked job) ≡ true → has_run_on processor (share_of (on processor asked) job) ≡ true
ran_there asked processor job ran =
    share_has_run_on (on processor asked) job
    ∙ share_kept (λ (j : Job). has_run_on processor j ≡ true → has_run_on processor job ≡ true)
    (λ there j back is. back (any_of_some (λ stretch. stretch.processor == processor) (λ stretch. stretch.processor == there) j.stretches is)) asked job (λ is. is) ran

belongs_still : (alone ran now none still : Bool) → (ran ≡ true → now ≡ true) → still ≡ none → (alone || ran || none) ≡ true → (alone || now || still) ≡ true
belongs_still true ran now none still goes same has = refl
belongs_still false true true none still goes same has = refl
belongs_still false true false none still goes same has = absurd (false≢true (goes refl))
belongs_still false false true none still goes same has = refl
belongs_still false false false none still goes same has = same ∙ has

module _ (asked : Asked) (processor : ℕ) (past : List Said) (number : ℕ) (before : Bool) where
  whole_same : (place : ℕ) (job : Job) →
      whole_job (judged (on processor asked) past number before (with_number place (share_of (on processor asked) job)))
      ≡ whole_job (judged asked past number before (with_number place (share_of asked job)))
  whole_same place job =
      let whole : Judged = whole_job (judged asked past number before (with_number place job)) in
      share_kept (λ (j : Job). whole_job (judged (on processor asked) past number before (with_number place j)) ≡ whole) (λ there j is. is) (on processor asked) job refl
      ∙ sym (share_kept (λ (j : Job). whole_job (judged asked past number before (with_number place j)) ≡ whole) (λ there j is. is) asked job refl)

  one_job : (place : ℕ) (job : Job) → IsOneJob asked processor (judged asked past number before (with_number place (share_of asked job)))
      (judged (on processor asked) past number before (with_number place (share_of (on processor asked) job)))
  one_job place job = record {
    same = whole_same place job;
    has = belongs_still (not asked.everywhere) (has_run_on processor (share_of asked job)) (has_run_on processor (share_of (on processor asked) job))
        (processor == 0 && length (share_of asked job).stretches == 0) (processor == 0 && length (share_of (on processor asked) job).stretches == 0)
        (ran_there asked processor job)
        (ap (λ (b : Bool). processor == 0 && b) (share_is_empty (on processor asked) job ∙ sym (share_is_empty asked job)));
  }

  numbered_both : (start : ℕ) (jobs : List Job) →
      AreOneByOne asked processor (map (judged asked past number before) (enumerate_from start (map (share_of asked) jobs)))
      (map (judged (on processor asked) past number before) (enumerate_from start (map (share_of (on processor asked)) jobs)))
  numbered_both start [] = tt
  numbered_both start (job ∷ jobs) = (one_job start job, numbered_both (start + 1) jobs)

-- # All jobs

task_both : (asked : Asked) (processor : ℕ) (past : List Said) (number : ℕ) → AreOneByOne asked processor (judged_of asked past number) (judged_of (on processor asked) past number)
task_both asked processor past number =
    subst (λ (jobs : List Job). AreOneByOne asked processor (judged_of asked past number)
    (map (judged (on processor asked) past number (began_before jobs)) (enumerate_from 0 (map (share_of (on processor asked)) jobs))))
    (sym (jobs_of_on asked processor past number))
    (numbered_both asked processor past number (began_before (jobs_of asked past number)) 0 (jobs_of asked past number))

tasks_both : (asked : Asked) (processor : ℕ) (past : List Said) (number : ℕ) (tasks : List Task) →
    AreOneByOne asked processor (judged_from asked past number tasks) (judged_from (on processor asked) past number tasks)
tasks_both asked processor past number [] = tt
tasks_both asked processor past number (task ∷ tasks) =
    both_append asked processor (judged_of asked past number) (judged_of (on processor asked) past number) (judged_from asked past (number + 1) tasks)
    (judged_from (on processor asked) past (number + 1) tasks) (task_both asked processor past number) (tasks_both asked processor past (number + 1) tasks)

pub all_both : (asked : Asked) (processor : ℕ) (past : List Said) → AreOneByOne asked processor (all_judged asked past) (all_judged (on processor asked) past)
all_both asked processor past =
    both_in_order asked processor (judged_from asked past 0 asked.tasks) (judged_from (on processor asked) past 0 asked.tasks) (tasks_both asked processor past 0 asked.tasks)
