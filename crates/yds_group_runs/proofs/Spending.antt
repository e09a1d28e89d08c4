-- What runs of Average Rate of groups spend is together at most what the run of all jobs spends.
use Rattle.yds_model.proofs.Common.{◌≡◌, ℕ, ◌+◌, ◌-◌, ◌*◌, ◌<◌, ◌≤◌, ◌⊎◌, List, [], ◌∷◌, ◌++◌, length, get_or, map, sym, ap, subst, refl, ◌∙◌, arith, inl, inr, All, AllZip, sum, flat_map, sum_by, sum_by-cons, sum-map, sum_by-map, All-nil, All-cons, All-head, All-tail, All-map, All-flat, All-append, All-contains, mul-pos, Job, no_job, job_at, jobs_with, Fraction, numerator, WrittenSlot, WholeSlot, IsSolid, IsScale, slots_at, work_given, IsFeasibleAt, excess, Point, point_at, IsTable, hull_of, hull_multiple, gaps_of, busy, horizon, product, stretches, average_rate, IsAverageRateRun, all_energy, Spent, HoldsAll, sum_by_same, sum_by-mul, sum_by_zero, mul-le-mul_left, Contains, IsConvex}
use Rattle.model_lemmas.proofs.Scale.{scale_exists}
use Rattle.fraction_lemmas.proofs.LowestTerms.{lowest_value}
use Rattle.model_lemmas.proofs.HullExists.{hull_exists}
use Rattle.model_lemmas.proofs.SumsBelow.{sum_by_grouped, sum_below_same, sum_places}
use borrow.Author.Differences.{down}
use Rattle.yds_events.specs.Stretch.{length_of}
use Rattle.yds_laws.proofs.Bound.{scale_left, scale_right}
use Rattle.yds_energy.proofs.Compared.{hull_some_multiple}
use Rattle.yds_energy.proofs.EvenStretches.{run_even}
use Rattle.yds_energy.proofs.Hinges.{product-cons}
use Rattle.yds_energy.proofs.HullCosts.{power_of, hull_in}
use Rattle.yds_energy.proofs.HullEnergy.{hull_first}
use Rattle.yds_energy.proofs.PlansEnergy.{hull_table}
use Rattle.yds_energy.proofs.RoundedCheapest.{gaps_positive}
use Rattle.yds_energy.proofs.RoundedRuns.{all_work}
use Rattle.yds_energy.proofs.SpentEnergy.{ups, downs, IsEnergy, even_energy}
use Rattle.yds_energy.proofs.StretchTimes.{stretches_long}
use Rattle.yds_parts.specs.Parts.{WindowsAreForward}
use Rattle.yds_cuts.specs.Groups.{AreApartIn, HaveAll, IdleIsCheapest, horizons}
use Rattle.yds_cuts.specs.Bounds.{WrittenGroup}
use Rattle.yds_cuts.proofs.Priced.{sum_at_scale}
use Rattle.yds_group_runs.specs.GroupRuns.{numbers_of_written, IsSpentGroup, GroupRunsSpend}
use Rattle.yds_group_runs.proofs.Above.{of_each, group_runs_above_a_speed}
use Rattle.yds_group_runs.proofs.Costs.{all_hinges, later_gaps, together, groups_cost, slots_cost, hinges_less, work_apart, powers_apart, spends_less, bounded}
use Rattle.yds_group_runs.proofs.Selections.{some_at_most, all_at_least, groups_sum}

-- # Work

-- what slots of a feasible schedule do, together
work_is : (jobs : List Job) (scale : ℕ) (slots : List WholeSlot) → IsFeasibleAt jobs scale slots → all_work slots ≡ scale * sum_by (λ job. job.work) jobs
work_is jobs scale slots feasible =
    omega (
      arith,
      sum_by_grouped (length jobs) (λ (slot : WholeSlot). slot.job) (λ slot. slot.work) slots (λ k d within. (feasible.in_windows k d within).known),
      sum_below_same (length jobs) (work_given slots) (λ number. scale * (job_at jobs number).work) (λ number within. omega (arith, feasible.served number within)),
      sum_places (λ (job : Job). scale * job.work) jobs no_job,
      sum_by-mul scale (λ (job : Job). job.work) jobs,
    )

-- # At a scale

-- a run at a scale
record IsRunOf (jobs : List Job) (points : List Point) (scale : ℕ) (slots : List WholeSlot) : Type 0 where
  feasible : IsFeasibleAt jobs scale slots
  energy : IsEnergy jobs points scale slots

run_of : (jobs : List Job) (points : List Point) (grid scale : ℕ) (slots : List WrittenSlot) (spent : Spent) → IsTable points → IsAverageRateRun jobs grid 0 slots →
    HoldsAll jobs points slots spent → IsScale scale slots → IsRunOf jobs points scale (slots_at scale slots)
run_of jobs points grid scale slots spent table run side is =
    let whole : List WholeSlot = slots_at scale slots in
    let at = run.run.holds scale is in
    record {
      feasible = at.feasible;
      energy = even_energy jobs points scale whole is.positive table at.feasible at.served.uncut
          (run_even jobs grid scale (average_rate jobs grid scale whole) whole is.positive at) (side.holds.holds scale is);
    }

module _ (jobs : List Job) (points : List Point) (scale : ℕ) where
  abbrev of : WrittenGroup → List Job
  of group = jobs_with jobs group.numbers

  abbrev at : WrittenGroup → List WholeSlot
  at group = slots_at scale group.slots

  abbrev hull : List Point
  hull = hull_of points

  abbrev spends : WrittenGroup → ℕ
  spends group = all_energy (of group) points scale (at group)

  abbrev IsRunGroup : WrittenGroup → Type 0
  IsRunGroup group = IsRunOf (of group) points scale (at group)

  -- the groups' work is at most all work, and just that where no job is left out
  groups_work : (groups : List WrittenGroup) → All IsRunGroup groups →
      together at all_work groups ≡ scale * sum_by (λ number. (job_at jobs number).work) (numbers_of_written groups)
  groups_work groups are =
      omega (
        arith,
        sum_by_same (λ group. all_work (at group)) (λ group. scale * sum_by (λ (job : Job). job.work) (of group)) groups
            (λ k d within. work_is (of (get_or groups k d)) scale (at (get_or groups k d)) (are k d within).feasible),
        sum_by-mul scale (λ group. sum_by (λ (job : Job). job.work) (of group)) groups,
        ap (λ n. scale * n) (groups_sum (λ (job : Job). job.work) jobs groups),
      )

  -- what they spend on the points, with the time without a slot
  record AreEnergies (groups : List WrittenGroup) : Type 0 where
    left : ℕ
    is_left : left + together at busy groups ≡ scale * sum_by (λ group. sum_by length_of (stretches (of group))) groups
    energy : product (gaps_of hull) * sum_by spends groups + hull_multiple points * together at (downs hull) groups
        ≡ hull_multiple points * together at (ups hull) groups + hull_multiple points * (product (gaps_of hull) * ((point_at hull 0).power * left))

  energies : (groups : List WrittenGroup) → All IsRunGroup groups → AreEnergies groups
  energies [] are = record { left = 0; is_left = omega arith; energy = omega arith }
  energies (group ∷ groups) are =
      let here = (All-head IsRunGroup group groups are).energy in
      let rest = energies groups (All-tail IsRunGroup group groups are) in
      record {
        left = here.left + rest.left;
        is_left = simp sum_by-cons (omega (arith, here.is_left, rest.is_left));
        energy = simp sum_by-cons (omega (arith, here.energy, rest.energy));
      }

  -- Others, all of the work, and groups that do together no more above any speed: all of the work, or less where no point is cheaper than
  -- the first.
  module _ (groups : List WrittenGroup) (others : List WholeSlot) (less : (p : ℕ) → together at (excess p 1) groups ≤ excess p 1 others)
      (work : (c p r : ℕ) → (p ≤ r ⊎ (together at all_work groups ≡ all_work others)) →
      c * (r * together at all_work groups) + c * (p * all_work others) ≤ c * (r * all_work others) + c * (p * together at all_work groups)) where
    -- by a convex table, apart from idle time
    cost_less : (table : List Point) → IsTable table → IsConvex table →
        ((high : Point) → Contains table high → ((point_at table 0).power ≤ high.power) ⊎ (together at all_work groups ≡ all_work others)) →
        together at (ups table) groups + downs table others + product (gaps_of table) * ((point_at table 0).power * busy others)
        ≤ ups table others + together at (downs table) groups + product (gaps_of table) * ((point_at table 0).power * together at busy groups)
    cost_less [] table convex dear = absurd (omega (arith, table.some))
    cost_less (only ∷ []) table convex dear =
        omega (
          arith,
          only_ups only others,
          only_groups only groups,
        )
      where
        only_ups : (only : Point) (slots : List WholeSlot) → ups (only ∷ []) slots + 0 ≡ only.power * busy slots + downs (only ∷ []) slots
        only_ups only slots =
            omega (arith, sum_by-mul only.power (λ (slot : WholeSlot). slot.to - slot.from) slots, sum_by_zero (λ slot. down (power_of (only ∷ []) slot)) slots (λ k d within. refl))

        only_groups : (only : Point) (groups : List WrittenGroup) →
            together at (ups (only ∷ [])) groups ≡ only.power * together at busy groups + together at (downs (only ∷ [])) groups
        only_groups only [] = omega arith
        only_groups only (group ∷ groups) = simp sum_by-cons (omega (arith, only_ups only (at group), only_groups only groups))
    cost_less (low ∷ high ∷ table) is convex dear =
        let gap : high.speed - low.speed ≡ high.speed = omega (arith, is.idle) in
        powers_apart (later_gaps high table) low.power high.power high.speed low.speed (together at (ups (low ∷ high ∷ table)) groups) (together at busy groups)
        (together at all_work groups) (together at (all_hinges 1 (low ∷ high ∷ table)) groups) (together at (downs (low ∷ high ∷ table)) groups) (ups (low ∷ high ∷ table) others)
        (busy others) (all_work others) (all_hinges 1 (low ∷ high ∷ table) others) (downs (low ∷ high ∷ table) others) (product (gaps_of (low ∷ high ∷ table))) is.idle
        (omega (arith, product-cons (high.speed - low.speed) (gaps_of (high ∷ table)), ap (λ n. n * product (gaps_of (high ∷ table))) gap))
        (groups_cost at low high table groups is.rising convex) (slots_cost low high table others is.rising convex)
        (hinges_less at groups others less 1 low high table) (work (later_gaps high table) low.power high.power (dear high (1, omega arith, refl)))

  -- so what the groups spend is together at most what the others do
  groups_spend : (groups : List WrittenGroup) (others : List WholeSlot) → IsTable points → All IsRunGroup groups → IsRunOf jobs points scale others →
      AreApartIn jobs (numbers_of_written groups) → (HaveAll jobs (numbers_of_written groups) ⊎ IdleIsCheapest points) →
      ((p : ℕ) → together at (excess p 1) groups ≤ excess p 1 others) →
      sum_by spends groups + hull_multiple points * ((point_at hull 0).power * (scale * sum_by length_of (stretches jobs)))
      ≤ all_energy jobs points scale others + hull_multiple points * ((point_at hull 0).power * (scale * sum_by (λ group. sum_by length_of (stretches (of group))) groups))
  groups_spend groups others table are is apart may less =
      let is_hull = hull_exists points table.rising in
      let hull_is = hull_table points hull table is_hull in
      let all = energies groups are in
      let one = is.energy in
      let few : together at all_work groups ≤ all_work others =
      omega (
        arith,
        groups_work groups are,
        work_is jobs scale others is.feasible,
        mul-le-mul_left scale (some_at_most (λ (job : Job). job.work) jobs (numbers_of_written groups) apart),
      ) in
      let dear : (high : Point) → Contains hull high → ((point_at hull 0).power ≤ high.power) ⊎ (together at all_work groups ≡ all_work others) = λ high has. elim may [
        | inl have ↦ inr (omega (
          arith,
          few,
          groups_work groups are,
          work_is jobs scale others is.feasible,
          mul-le-mul_left scale (all_at_least (λ (job : Job). job.work) jobs (numbers_of_written groups) apart have),
        ))
        | inr cheapest ↦ inl (omega (
          arith,
          All-contains (λ (point : Point). (point_at points 0).power ≤ point.power) points high cheapest (hull_in points hull high is_hull has),
          ap (λ (point : Point). point.power) (hull_first points hull is_hull),
        ))
      ] in
      let work = λ (c p r : ℕ) (choice : (p ≤ r) ⊎ (together at all_work groups ≡ all_work others)). work_either c p r (together at all_work groups) (all_work others) few choice in
      spends_less (product (gaps_of hull)) (hull_multiple points) (point_at hull 0).power scale (sum_by (λ group. sum_by length_of (stretches (of group))) groups)
      (sum_by length_of (stretches jobs)) all.left one.left (together at busy groups) (busy others) (sum_by spends groups) (all_energy jobs points scale others)
      (together at (ups hull) groups) (together at (downs hull) groups) (ups hull others) (downs hull others) (gaps_positive hull hull_is.rising)
      all.is_left one.is_left all.energy one.energy (cost_less groups others less work hull hull_is is_hull.convex dear)
    where
      work_either : (c p r some all : ℕ) → some ≤ all → ((p ≤ r) ⊎ (some ≡ all)) → c * (r * some) + c * (p * all) ≤ c * (r * all) + c * (p * some)
      work_either c p r some all few (inl dear) = work_apart c p r some all few dear
      work_either c p r some all few (inr same) = omega (arith, ap (λ n. c * (r * n)) same, ap (λ n. c * (p * n)) same)

-- # Written

-- the groups' slots, one after another
abbrev all_written : List WrittenGroup → List WrittenSlot
all_written groups = flat_map (λ group. group.slots) groups

-- a scale of all is one of each
scales : (scale : ℕ) (groups : List WrittenGroup) → IsScale scale (all_written groups) → All (λ group. IsScale scale group.slots) groups
scales scale [] is = All-nil (λ (group : WrittenGroup). IsScale scale group.slots)
scales scale (group ∷ groups) is =
    All-cons (λ (one : WrittenGroup). IsScale scale one.slots) group groups (scale_left scale group.slots (all_written groups) is)
    (scales scale groups (scale_right scale group.slots (all_written groups) is))

module _ (jobs : List Job) (points : List Point) (grid : ℕ) (scale : ℕ) (some : 1 ≤ scale * hull_multiple points) where
  -- what each spends, in parts of the scale
  told : (groups : List WrittenGroup) → All (IsSpentGroup jobs points grid) groups → All (λ group. IsScale scale group.slots) groups →
      AllZip (λ energy cost. cost * energy.den ≡ numerator energy * (scale * hull_multiple points)) (map (λ group. group.energy) groups)
      (map (spends jobs points scale) groups)
  told [] are is = tt
  told (group ∷ groups) are is =
      let here = All-head (IsSpentGroup jobs points grid) group groups are in
      let energy = (here.holds.is_spent.holds scale (All-head (λ (one : WrittenGroup). IsScale scale one.slots) group groups is)).energy in (
        subst (λ (x : Fraction). spends jobs points scale group * x.den ≡ numerator x * (scale * hull_multiple points)) (sym energy)
            (sym (lowest_value (spends jobs points scale group) (scale * hull_multiple points) some).same),
        told groups (All-tail (IsSpentGroup jobs points grid) group groups are) (All-tail (λ (one : WrittenGroup). IsScale scale one.slots) group groups is),
      )

-- the stretches of the groups are together as long as their horizons
groups_long : (jobs : List Job) (groups : List WrittenGroup) → WindowsAreForward jobs → All (λ number. number < length jobs) (numbers_of_written groups) →
    sum_by (λ group. sum_by length_of (stretches (jobs_with jobs group.numbers))) groups ≡ horizons jobs (map (λ group. group.numbers) groups)
groups_long jobs groups windows known =
    sum_by_same (λ group. sum_by length_of (stretches (jobs_with jobs group.numbers))) (λ group. horizon (jobs_with jobs group.numbers)) groups
    (λ k d within.
    let group = get_or groups k d in
    stretches_long (jobs_with jobs group.numbers)
    (All-map (λ job. job.release < job.deadline) (job_at jobs) group.numbers
    (λ i e inside. windows (get_or group.numbers i e) no_job (of_each (λ number. number < length jobs) groups known k d within i e inside))))
    ∙ sym (sum_by-map (λ (group : WrittenGroup). group.numbers) (λ numbers. horizon (jobs_with jobs numbers)) groups)

-- The law.
pub group_runs_spend : GroupRunsSpend
group_runs_spend jobs points grid slots spent groups bound some table windows apart may run side are over =
    let solid : All IsSolid (slots ++ all_written groups) =
    All-append IsSolid slots (all_written groups) run.run.solid (All-flat IsSolid (λ (group : WrittenGroup). group.slots) groups (λ k d within. (are k d within).run.run.solid)) in
    let exists = scale_exists (slots ++ all_written groups) solid in
    let scale : ℕ = exists.0 in
    let mine = scale_left scale slots (all_written groups) exists.1 in
    let theirs = scales scale groups (scale_right scale slots (all_written groups) exists.1) in
    let unit : ℕ = scale * hull_multiple points in
    let some_unit : 1 ≤ unit = mul-pos exists.1.positive (hull_some_multiple points table) in
    let whole : List WholeSlot = slots_at scale slots in
    let above = λ (p : ℕ). group_runs_above_a_speed jobs grid scale p 1 slots groups some apart run (λ k d within. (are k d within).run) mine theirs in
    let runs = λ (k : ℕ) (d : WrittenGroup) (within : k < length groups).
    run_of (jobs_with jobs (get_or groups k d).numbers) points grid scale (get_or groups k d).slots (record { energy = (get_or groups k d).energy; times = (are k d within).times })
    table (are k d within).run (are k d within).holds (theirs k d within) in
    let less = groups_spend jobs points scale groups whole table runs (run_of jobs points grid scale slots spent table run side mine) apart may above in
    let costs = map (spends jobs points scale) groups in
    let power = (point_at points 0).power in
    let own : ℕ = horizons jobs (map (λ (group : WrittenGroup). group.numbers) groups) in
    let first = ap (λ (point : Point). point.power) (hull_first points (hull_of points) (hull_exists points table.rising)) in
    let energy = (side.is_spent.holds scale mine).energy in
    let cost : all_energy jobs points scale whole * spent.energy.den ≡ numerator spent.energy * unit =
    subst (λ (x : Fraction). all_energy jobs points scale whole * x.den ≡ numerator x * unit) (sym energy) (sym (lowest_value (all_energy jobs points scale whole) unit some_unit).same) in
    bounded (numerator bound) bound.den (numerator over.sum) over.sum.den (numerator spent.energy) spent.energy.den unit (power * horizon jobs) (power * own) (sum costs)
    (all_energy jobs points scale whole) over.sum_has_parts some_unit (omega (arith, over.same))
    (sum_at_scale unit (map (λ (group : WrittenGroup). group.energy) groups) costs over.sum over.each over.is_sum (told jobs points grid scale some_unit groups are theirs)) cost
    (omega (
      arith,
      less,
      sum-map (spends jobs points scale) groups,
      ap (λ n. unit * (n * horizon jobs)) first,
      ap (λ n. unit * (n * own)) first,
      ap (λ n. unit * ((point_at (hull_of points) 0).power * n)) (stretches_long jobs windows),
      ap (λ n. unit * ((point_at (hull_of points) 0).power * n)) (groups_long jobs groups windows apart.known),
    ))
