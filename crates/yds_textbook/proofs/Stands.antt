-- What holds between two stages, once some time is removed and some jobs wait.
use Rattle.yds_model.proofs.Common.{◌≡◌, ℕ, ◌+◌, ◌-◌, ◌<◌, ◌≤◌, List, [], ◌∷◌, length, get_or, ◌∙◌, sym, ap, arith, cond, refl, true, false, subst, min, nat_lt, not, filter, ◌==◌, All, AllPairs, sum_by, leb-true, and_parts, eq-eqb, both_ways, false_from_ne_true, get_or_default, AllPairs-filter, sum_by-IsPermutation, All-filter, filter_passes, Job, IsJob, no_job, job_at, Piece, stretches, numbers_of, stretch_at}
use Rattle.base.specs.declared.limits.TheConstants.{MAX_JOBS}
use Rattle.yds_events.specs.Window.{IsInWindow}
use Rattle.yds_search.proofs.KeySums.{inside_range}
use Rattle.base.specs.Numbers.{sum_below}
use Rattle.yds_intensity.specs.DeadlineOrder.{IsDeadlineOrder}
use Rattle.yds_intensity.proofs.Sweeps.{number_known}
use Rattle.yds_critical.specs.declared.interval.Interval.{Interval}
use Rattle.yds_critical.specs.Critical.{IsCritical}
use Rattle.yds_contract.specs.Contracted.{AreApartFrom, place, Removes}
use Rattle.yds_contract.proofs.ContractedPlaces.{place_rises, place_removes}
use Rattle.yds_textbook.specs.declared.stage.Stage.{Stage}
use Rattle.yds_textbook.specs.Stages.{AreStages}
use Rattle.yds_textbook.specs.Waiting.{contracted_jobs, CanWait, job_has_work, lies_in, outside, stretch_lies_in, AreWhole}
use Rattle.yds_textbook.proofs.Starting.{few_wait}
use Rattle.yds_textbook.proofs.Densest.{all_wait_on, fewer, few_outside, from_events}
use Rattle.yds_textbook.proofs.Whole.{whole_stays, whole_at_first, release_stays, deadline_stays}
use Rattle.yds_textbook.proofs.Left.{lies_inside, lies_from}
use Rattle.yds_textbook.proofs.OneStage.{IsAhead}
use Rattle.yds_textbook.proofs.Members.{two_places}

pub record IsBetween (jobs : List Job) (removed : List Piece) (waiting : List ℕ) : Type 0 where
  pub apart : AreApartFrom 0 removed
  pub whole : AreWhole (stretches jobs) removed
  pub can_wait : All (CanWait jobs removed) waiting
  pub ahead : AllPairs (IsAhead jobs) waiting
  pub few : length waiting ≤ MAX_JOBS

-- some of the stretch is left
abbrev pub IsLeft : List Job → List Piece → ℕ → Type 0
IsLeft jobs removed k = place removed (stretch_at jobs k).from < place removed (stretch_at jobs k).to

-- how many stretches are left
abbrev pub count_left : List Job → List Piece → ℕ
count_left jobs removed =
    sum_below (length (stretches jobs)) (λ k. cond (nat_lt (place removed (stretch_at jobs k).from) (place removed (stretch_at jobs k).to)) 1 0)

-- of an order of deadlines, no number stands twice
order_once : (jobs : List Job) (order : List ℕ) → IsDeadlineOrder jobs order → AllPairs (λ (x y : ℕ). x ≡ y → ⊥) order
order_once jobs order ordered i j d less within same =
    let value = get_or order i d in
    let f : ℕ → ℕ = λ x. cond (value == x) 1 0 in
    let known : All (λ (x : ℕ). x < length jobs) order = λ k e below. subst (λ (n : ℕ). n < length jobs) (get_or_default order k 0 e below) (number_known jobs order k ordered below) in
    let all : sum_by f order ≡ 1 =
    sum_by-IsPermutation f (numbers_of jobs) order ordered.once ∙ inside_range 0 (length jobs) value 1 (omega arith) (omega (arith, known i d (omega arith))) in
    let one : f (get_or order i d) ≡ 1 = rw (eq-eqb value value refl) refl in
    let other : f (get_or order j d) ≡ 1 = rw (eq-eqb value (get_or order j d) same) refl in
    omega (arith, two_places f order i j d less within, all, one, other)

order_ahead : (jobs : List Job) (order : List ℕ) → IsDeadlineOrder jobs order → AllPairs (IsAhead jobs) order
order_ahead jobs order ordered i j d less within = record {
  differ = order_once jobs order ordered i j d less within;
  first = rw (get_or_default order i d 0 (omega arith), get_or_default order j d 0 within) (ordered.rising i j less within);
}

-- at first
pub between_at_first : (jobs : List Job) (order waiting : List ℕ) (removed : List Piece) → length jobs ≤ MAX_JOBS → IsDeadlineOrder jobs order → removed ≡ [] →
    waiting ≡ filter (job_has_work jobs) order → All (CanWait jobs []) waiting → IsBetween jobs removed waiting
between_at_first jobs order waiting removed few ordered nothing is can =
    subst (λ (pieces : List Piece). IsBetween jobs pieces waiting) (sym nothing) (record {
      apart = tt;
      whole = whole_at_first jobs;
      can_wait = can;
      ahead = subst (AllPairs (IsAhead jobs)) (sym is) (AllPairs-filter (IsAhead jobs) (job_has_work jobs) order (order_ahead jobs order ordered));
      few = omega (arith, few, few_wait jobs order ordered, ap (λ (ns : List ℕ). length ns) is);
    })

-- the jobs with work can wait
pub all_can_wait : (jobs : List Job) (order : List ℕ) → All IsJob jobs → IsDeadlineOrder jobs order → All (CanWait jobs []) (filter (job_has_work jobs) order)
all_can_wait jobs order are ordered k d within =
    let n = get_or (filter (job_has_work jobs) order) k d in
    let known : n < length jobs =
    All-filter (job_has_work jobs) (λ (x : ℕ). x < length jobs) order
    (λ j e below. subst (λ (x : ℕ). x < length jobs) (get_or_default order j 0 e below) (number_known jobs order j ordered below)) k d within in
    let valid : IsJob (job_at jobs n) = are n no_job known in
    record {
      known = known;
      valid = valid;
      has_work = leb-true 1 (job_at jobs n).work (filter_passes (job_has_work jobs) order k d within);
      has_window = omega (arith, valid.has_window);
    }

module _ (jobs : List Job) (removed changed : List Piece) (waiting : List ℕ) (interval : Interval) (is : IsBetween jobs removed waiting)
    (critical : IsCritical (contracted_jobs jobs removed waiting) interval) (removes : Removes removed interval.start interval.end changed) where
  -- and once the interval is removed besides
  pub between_next : IsBetween jobs changed (outside jobs removed interval waiting)
  between_next =
      let ends = from_events jobs removed waiting interval is.can_wait critical in
      record {
        apart = removes.apart;
        whole = whole_stays jobs removed is.apart interval ends.first ends.last changed ends.first_known ends.last_known is.whole ends.start ends.end critical.candidate.forward removes;
        can_wait = all_wait_on jobs removed waiting interval is.can_wait critical changed is.apart removes;
        ahead = AllPairs-filter (IsAhead jobs) (λ n. not (lies_in jobs removed interval n)) waiting is.ahead;
        few = omega (arith, is.few, few_outside jobs removed interval waiting);
      }

  place_after : (time : ℕ) → place changed time ≡ min (place removed time) interval.start + (place removed time - interval.end)
  place_after = place_removes interval.start interval.end removed changed is.apart critical.candidate.forward removes

  -- the stretches that are left are those that were left and don't lie in the interval
  pub left_before : (k : ℕ) → IsLeft jobs changed k → IsLeft jobs removed k
  left_before k left =
      omega (arith, left, place_after (stretch_at jobs k).from, place_after (stretch_at jobs k).to, critical.candidate.forward)

  pub left_outside : (k : ℕ) → IsLeft jobs changed k → stretch_lies_in (stretches jobs) removed interval k ≡ false
  left_outside k left = grind (arith, false_from_ne_true, lies_inside, place_after)

  pub stays_left : (k : ℕ) → k < length (stretches jobs) → IsLeft jobs removed k → stretch_lies_in (stretches jobs) removed interval k ≡ false → IsLeft jobs changed k
  stays_left k known left outside = grind (arith, both_ways, deadline_stays, from_events, lies_from, place_after, release_stays)

  -- Each stretch that is left of the window of a job inside the interval lies in the interval.
  pub window_in_interval : (j k : ℕ) → lies_in jobs removed interval j ≡ true → IsInWindow jobs j k → IsLeft jobs removed k →
      stretch_lies_in (stretches jobs) removed interval k ≡ true
  window_in_interval j k lies window left = grind (arith, and_parts, leb-true, lies_from, place_rises)

-- there are no more stages than jobs that wait
pub few_stages : (jobs : List Job) (removed : List Piece) (waiting : List ℕ) (stages : List Stage) → IsBetween jobs removed waiting → AreStages jobs removed waiting stages →
    length stages ≤ length waiting
few_stages jobs removed waiting [] between none = omega arith
few_stages jobs removed waiting (stage ∷ stages) between (interval, changed, critical, is, removes, rest) = omega (
  arith,
  few_stages jobs changed (outside jobs removed interval waiting) stages (between_next jobs removed changed waiting interval between critical removes) rest,
  fewer jobs removed waiting interval between.can_wait critical,
)
