-- The theorem of Yao, Demers and Shenker: the stages of the textbook's way make a plan.
use Rattle.yds_model.proofs.Common.{◌≡◌, ℕ, ◌-◌, ◌*◌, ◌<◌, ◌≤◌, ◌==◌, List, [], ◌∷◌, length, ◌∙◌, sym, ap, arith, inl, inr, cond, refl, true, false, subst, Bool, nat_lt, filter, Option, Result, Ok, Err, IfOk, All, Contains, cases_lt, le-leb, leb-true, length-map, length-map-range_with_len, get_or-map-range_with_len, length-range_with_len, get_or-range_with_len, Contains-permutation, Job, IsJob, WrittenSlot, IsPlan, job_at, Piece, stretches, numbers_of, stretch_at, contains_filter}
use Rattle.base.specs.declared.limits.TheConstants.{MAX_JOBS}
use Rattle.yds_events.specs.Window.{length_at}
use Rattle.yds_events.proofs.Neighbours.{stretch_forward}
use Rattle.yds_timetable.specs.Shares.{no_share, share_at}
use Rattle.yds_search.specs.Found.{Found, IsShare, IsFound, group_of, group_at, per_work, per_time}
use Rattle.yds_search.specs.Views.{group_view}
use Rattle.yds_search.proofs.KeySums.{over_same}
use Rattle.model_lemmas.proofs.SumsBelow.{sum_below_bound}
use Rattle.yds_intensity.specs.DeadlineOrder.{IsDeadlineOrder}
use Rattle.yds_critical.specs.declared.interval.Interval.{Interval}
use Rattle.yds_critical.specs.Critical.{IsCritical}
use Rattle.yds_contract.specs.Contracted.{place, Removes}
use Rattle.yds_textbook.specs.declared.stage.Stage.{Stage}
use Rattle.yds_textbook.specs.Waiting.{contracted_jobs, job_has_work, outside}
use Rattle.yds_textbook.specs.Stages.{IsStage, AreStages}
use Rattle.yds_textbook.specs.Together.{stage_of_job, stage_of_stretch, found_of}
use Rattle.yds_slots.specs.Schedule.{WrittenSchedule}
use Rattle.yds_model.specs.Level.{Level}
use Rattle.yds_textbook.specs.Theorem.{AreOfTextbook, StagesMakeAPlan}
use Rattle.yds_plan.specs.Laid.{laid_slots, levels_of}
use Rattle.yds_plan.proofs.FoundPlan.{found_makes_plan}
use Rattle.yds_textbook.proofs.Starting.{few_wait}
use Rattle.yds_textbook.proofs.Members.{kept_from}
use Rattle.yds_textbook.proofs.Intensities.{intensities_dont_rise}
use Rattle.yds_textbook.proofs.Stands.{IsBetween, IsLeft, between_at_first, all_can_wait, between_next, few_stages}
use Rattle.yds_textbook.proofs.AllStages.{AreTogether, none_together, one_more_together}

slower_by : (a b c d work length first long : ℕ) → a ≡ work → b ≡ length → c ≡ first → d ≡ long → work * long ≤ first * length → a * d ≤ c * b
slower_by a b c d work length first long e f g h slower = rw (e, f, g, h) slower

-- the stage after one isn't faster
next_slower : (jobs : List Job) (removed changed : List Piece) (waiting : List ℕ) (interval : Interval) (stage : Stage) (stages : List Stage) →
    IsBetween jobs removed waiting → IsCritical (contracted_jobs jobs removed waiting) interval → IsStage jobs removed interval waiting stage →
    Removes removed interval.start interval.end changed → AreStages jobs changed (outside jobs removed interval waiting) stages →
    (next : Stage) (more : List Stage) → stages ≡ next ∷ more →
    (group_view next.group).work * (group_view stage.group).length ≤ (group_view stage.group).work * (group_view next.group).length
next_slower jobs removed changed waiting interval stage stages between critical is removes rest next more same = grind (arith, intensities_dont_rise, slower_by)

-- all stages together
pub all_together : (jobs : List Job) (removed : List Piece) (waiting : List ℕ) (stages : List Stage) → IsBetween jobs removed waiting →
    AreStages jobs removed waiting stages → AreTogether jobs removed waiting stages
all_together jobs removed waiting [] between none = none_together jobs removed waiting none
all_together jobs removed waiting (stage ∷ stages) between (interval, changed, critical, is, removes, rest) =
    one_more_together jobs removed changed waiting interval stage stages between critical is removes
    (all_together jobs changed (outside jobs removed interval waiting) stages (between_next jobs removed changed waiting interval between critical removes) rest)
    (next_slower jobs removed changed waiting interval stage stages between critical is removes rest)

at_most_one : (b : Bool) → cond b 1 0 ≤ 1
at_most_one true = omega arith
at_most_one false = omega arith

module _ (jobs : List Job) (order : List ℕ) (stages : List Stage) (are_jobs : All IsJob jobs) (few : length jobs ≤ MAX_JOBS) (ordered : IsDeadlineOrder jobs order)
    (are : AreStages jobs [] (filter (job_has_work jobs) order) stages) where
  at_first : IsBetween jobs [] (filter (job_has_work jobs) order)
  at_first = between_at_first jobs order (filter (job_has_work jobs) order) [] few ordered refl refl (all_can_wait jobs order are_jobs ordered)

  together : AreTogether jobs [] (filter (job_has_work jobs) order) stages
  together = all_together jobs [] (filter (job_has_work jobs) order) stages at_first are

  waits : (j : ℕ) → j < length jobs → 1 ≤ (job_at jobs j).work → Contains (filter (job_has_work jobs) order) j
  waits j known some =
      contains_filter (job_has_work jobs) order j (le-leb 1 (job_at jobs j).work some)
      (Contains-permutation (numbers_of jobs) order j ordered.once
      (j, omega (arith, known, length-range_with_len 0 (length jobs)), get_or-range_with_len 0 (length jobs) j j known ∙ omega arith))

  left : (k : ℕ) → k < length (stretches jobs) → IsLeft jobs [] k
  left k known = omega (arith, stretch_forward jobs k known)

  abbrev found : Found
  found = found_of jobs stages

  count : length found.groups ≡ length stages
  count = length-map stages (λ (stage : Stage). group_view stage.group)

  job_group : (j : ℕ) → j < length jobs → group_of found.group_of_job j ≡ stage_of_job stages j
  job_group j known = get_or-map-range_with_len (stage_of_job stages) 0 (length jobs) j j 0 known (omega arith)

  stretch_group : (k : ℕ) → k < length (stretches jobs) → group_of found.group_of_stretch k ≡ stage_of_stretch stages k
  stretch_group k known = get_or-map-range_with_len (stage_of_stretch stages) 0 (length (stretches jobs)) k k 0 known (omega arith)

  all_shares : All (IsShare jobs found) found.shares
  all_shares k d within = grind (arith, count, job_group, stretch_group, together)

  -- The stages, together, are groups of jobs and stretches as the planner's search finds them.
  pub stages_are_found : IsFound jobs found
  stages_are_found = record {
    all_jobs = length-map-range_with_len (stage_of_job stages) 0 (length jobs);
    all_stretches = length-map-range_with_len (stage_of_stretch stages) 0 (length (stretches jobs));
    with_work = λ j known some. omega (arith, job_group j known, together.job_in j (waits j known some), count);
    idle = λ j known none. elim (cases_lt (stage_of_job stages j) (length stages)) [
      | inl below ↦ absurd (omega (arith, none, leb-true 1 (job_at jobs j).work (kept_from (job_has_work jobs) order j (together.job_waits j below)).1))
      | inr past ↦ omega (arith, past, job_group j known, count)
    ];
    some_work = λ i below. (together.some i (omega (arith, below, count))).0;
    some_length = λ i below. (together.some i (omega (arith, below, count))).1;
    works = λ i below. together.works i (omega (arith, below, count))
        ∙ over_same (λ j. cond (stage_of_job stages j == i) (job_at jobs j).work 0) (λ j. cond (group_of found.group_of_job j == i) (job_at jobs j).work 0) (length jobs)
        (λ j known. ap (λ g. cond (g == i) (job_at jobs j).work 0) (sym (job_group j known)));
    lengths = λ i below. together.lengths i (omega (arith, below, count))
        ∙ over_same (λ k. cond (stage_of_stretch stages k == i) (length_at jobs k) 0) (λ k. cond (group_of found.group_of_stretch k == i) (length_at jobs k) 0)
        (length (stretches jobs)) (λ k known. ap (λ g. cond (g == i) (length_at jobs k) 0) (sym (stretch_group k known)));
    order = λ i below. together.slowing i (omega (arith, below, count));
    windows = λ j k known some known_stretch window. omega (
      arith,
      together.windows j k (waits j known some) known_stretch window (left k known_stretch),
      job_group j known,
      stretch_group k known_stretch,
    );
    shares = all_shares;
    served = λ j known some.
        together.served j (waits j known some) ∙ ap (λ g. per_work (group_at found.groups g) * (job_at jobs j).work) (sym (job_group j known));
    full = λ k known grouped.
        together.full k (omega (arith, grouped, stretch_group k known, count)) ∙ ap (λ g. per_time (group_at found.groups g) * length_at jobs k) (sym (stretch_group k known));
    in_order = λ x y before within same.
        let ahead = (together.in_turn x y no_share before within).turn same in (ahead.differ, ahead.first);
    earliest = λ x y late early same released before.
        ((together.earliest x no_share late y no_share early).comes
        (sym (job_group (share_at found.shares x).job (all_shares x no_share late).known) ∙ same ∙ job_group (share_at found.shares y).job (all_shares y no_share early).known)).comes
        released before;
    few = omega (
      arith,
      together.few,
      few_wait jobs order ordered,
      sum_below_bound (length (stretches jobs)) 1 (λ k. cond (nat_lt (place [] (stretch_at jobs k).from) (place [] (stretch_at jobs k).to)) 1 0) (λ k known. at_most_one _),
    );
  }

  -- there are no more stages than jobs
  pub stages_are_few : length stages ≤ MAX_JOBS
  stages_are_few = omega (arith, few_stages jobs [] (filter (job_has_work jobs) order) stages at_first are, few_wait jobs order ordered, few)

-- what is made of the stages is found
pub found_of_stages : (jobs : List Job) (stages all : List Stage) (found : Found) → All IsJob jobs → length jobs ≤ MAX_JOBS →
    (order : List ℕ) × IsDeadlineOrder jobs order × AreStages jobs [] (filter (job_has_work jobs) order) stages → all ≡ stages → found ≡ found_of jobs all → IsFound jobs found
found_of_stages jobs stages all _ are_jobs few (order, ordered, are) same made =
    subst (IsFound jobs) (sym (made ∙ ap (found_of jobs) same)) (stages_are_found jobs order stages are_jobs few ordered are)

-- what is laid of them is of the textbook
pub laid_of_stages : {T E : Type 0} (jobs : List Job) (stages all : List Stage) (found : Found) (schedule : T → WrittenSchedule) (levels : T → List Level) (r : Result T E) →
    (order : List ℕ) × IsDeadlineOrder jobs order × AreStages jobs [] (filter (job_has_work jobs) order) stages → all ≡ stages → found ≡ found_of jobs all →
    IfOk r (λ x. schedule x ≡ record { jobs = length jobs; slots = laid_slots jobs found }) → IfOk r (λ x. levels x ≡ levels_of jobs found) →
    IfOk r (λ x. AreOfTextbook jobs (schedule x).slots (levels x))
laid_of_stages jobs stages all groups schedule levels (Err e) are same made laid certified = tt
laid_of_stages jobs stages all groups schedule levels (Ok x) (order, ordered, are) same made laid certified =
    let is : groups ≡ found_of jobs stages = made ∙ ap (found_of jobs) same in record {
      order = order;
      ordered = ordered;
      stages = stages;
      are_stages = are;
      slots_laid = ap (λ (s : WrittenSchedule). s.slots) laid ∙ ap (laid_slots jobs) is;
      levels_laid = certified ∙ ap (levels_of jobs) is;
    }

-- the law of it
pub stages_make_a_plan : StagesMakeAPlan
stages_make_a_plan jobs slots levels are few by =
    let found : IsFound jobs (found_of jobs by.stages) =
    found_of_stages jobs by.stages by.stages (found_of jobs by.stages) are few (by.order, by.ordered, by.are_stages) refl refl in
    subst (λ (all : List WrittenSlot). IsPlan jobs all levels) (sym by.slots_laid)
    (subst (λ (all : List Level). IsPlan jobs (laid_slots jobs (found_of jobs by.stages)) all) (sym by.levels_laid)
    (found_makes_plan jobs are few (found_of jobs by.stages) found))
