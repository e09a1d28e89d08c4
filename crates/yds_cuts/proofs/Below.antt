-- What groups of jobs cost is together at most what any schedule of all jobs does.
use Rattle.yds_model.proofs.Common.{◌≡◌, ℕ, ◌+◌, ◌-◌, ◌*◌, ◌≤◌, ◌⊎◌, List, [], ◌∷◌, ◌++◌, get_or, map, refl, sym, ap, ◌∙◌, arith, Bool, true, not, inl, inr, false≢true, ℤ, pos, ◌+ℤ◌, ◌≤ℤ◌, ints, cases_Bool, All, Contains, filter_passes, sum_by-cons, All-head, All-tail, All-filter, Contains-append_right, Contains-append_cases, mul-le-mul_right, AreDifferent, Job, job_at, jobs_with, WholeSlot, work_given, IsFeasibleAt, IsLeastAt, All-front, Point, point_at, IsTable, IsConvex, gaps_of, busy, idle, horizon, product, total, interpolated_energy}
use Rattle.model_lemmas.proofs.Counted.{count_joined, contained_counted}
use Rattle.model_lemmas.proofs.Horizon.{busy_and_idle}
use Rattle.std.proofs.lemmas.List.Filters.{sum_by-filter_both}
use Rattle.yds_energy.proofs.Differences.{total-cons, at_most_in_turn}
use Rattle.yds_energy.proofs.Energy.{least_is_cheapest}
use Rattle.yds_energy.proofs.HullEnergy.{points_cost_at_least_the_hull}
use Rattle.yds_energy.proofs.HullCosts.{IsAtLeast, power_of, lines_at_least, cancel_gap}
use Rattle.yds_energy.proofs.PlansEnergy.{hull_table}
use Rattle.yds_energy.proofs.RoundedRuns.{all_work}
use Rattle.yds_cuts.specs.Groups.{Group, numbers_of_groups, IdleIsCheapest, horizons, energy_over}
use Rattle.yds_cuts.specs.Bounds.{AreLeastGroups, GroupsCostAtMostAll, FewerJobsCostAtMostAll, GroupsCostAtMostAllOnPoints, FewerJobsCostAtMostAllOnPoints}
use Rattle.yds_cuts.proofs.Renamed.{busy_renamed, powers_renamed}
use Rattle.yds_cuts.proofs.Selected.{place_of, Serves, is_of, isnt_of, slots_of, kept_serve, selected, passes_of, of_passes, selected_feasible}

-- # Slots that pass a test, and the others

-- the energies of both are the energy of all
total_split : (f : WholeSlot → ℤ) (test : ℕ → Bool) (slots : List WholeSlot) →
    total (map f slots) ≡ total (map f (slots_of test slots)) +ℤ total (map f (slots_of (λ number. not (test number)) slots))
total_split f test [] = omega (arith, ints)
total_split f test (slot ∷ slots) =
    let rest = total_split f test slots in
    elim (cases_Bool (test slot.job)) [
      | inl kept ↦ rw kept (omega (
        arith,
        ints,
        rest,
        total-cons (f slot) (map f slots),
        total-cons (f slot) (map f (slots_of test slots)),
      ))
      | inr fails ↦ rw fails (omega (
        arith,
        ints,
        rest,
        total-cons (f slot) (map f slots),
        total-cons (f slot) (map f (slots_of (λ number. not (test number)) slots)),
      ))
    ]

-- so are the times
pub busy_split : (test : ℕ → Bool) (slots : List WholeSlot) → busy slots ≡ busy (slots_of test slots) + busy (slots_of (λ number. not (test number)) slots)
busy_split test slots =
    sym (sum_by-filter_both (λ slot. test slot.job) (λ slot. not (test slot.job)) (λ slot. refl) (λ (slot : WholeSlot). slot.to - slot.from) slots)

-- # Slots that are left out

-- where no point has less power than the first, slots cost at least what idle time does: by the first line
on_first_line : (p r all gap busy work : ℕ) → p ≤ r → gap * (all * (p * busy)) + all * (p * work + r * (0 * busy)) ≤ all * (p * (gap * busy) + r * work)
on_first_line p r all gap busy work more = omega (arith, mul-le-mul_right (all * work) more)

cost_at_least_idle : (points : List Point) (slots : List WholeSlot) → IsTable points → IdleIsCheapest points →
    IsAtLeast (product (gaps_of points) * ((point_at points 0).power * busy slots)) 0 1 (total (map (power_of points) slots))
cost_at_least_idle [] slots table cheapest = absurd (omega (arith, table.some))
cost_at_least_idle (point ∷ []) slots table cheapest = alone point slots where
  alone : (point : Point) (slots : List WholeSlot) → IsAtLeast (1 * (point.power * busy slots)) 0 1 (total (map (power_of (point ∷ [])) slots))
  alone point [] = omega (arith, ints)
  alone point (slot ∷ slots) = omega (
    arith,
    ints,
    alone point slots,
    total-cons (power_of (point ∷ []) slot) (map (power_of (point ∷ [])) slots),
    ap (λ n. point.power * n) (sum_by-cons (λ (one : WholeSlot). one.to - one.from) slot slots),
  )
cost_at_least_idle (low ∷ high ∷ points) slots table cheapest =
    let all = product (gaps_of (low ∷ high ∷ points)) in
    let cost = all * (low.power * busy slots) in
    let gap = high.speed - low.speed in
    let z = total (map (power_of (low ∷ high ∷ points)) slots) in
    let is_gap : gap ≡ high.speed = omega (arith, table.idle) in
    let line = lines_at_least (low ∷ high ∷ points) 0 slots (omega arith) in
    let first = on_first_line low.power high.power all gap (busy slots) (all_work slots) (cheapest 1 low (omega arith)) in
    let bound : IsAtLeast (gap * cost) 0 gap z = omega (
      arith,
      line,
      first,
      ap (λ n. all * (low.power * (n * busy slots))) is_gap,
      ap (λ n. all * (high.power * (n * busy slots))) table.idle,
    ) in
    cancel_gap gap (gap * cost) 0 cost z (omega (arith, table.rising.0)) bound (omega arith)

-- # Groups

abbrev energy_of : List Job → List Point → ℕ → Group → ℤ
energy_of jobs points scale group = interpolated_energy (jobs_with jobs group.numbers) points scale group.slots

abbrev IsLeastGroup : List Job → ℕ → Group → Type 0
IsLeastGroup jobs scale group = IsLeastAt (jobs_with jobs group.numbers) scale group.slots

-- no job is left out of the groups, or what is left out costs at least idle time
abbrev pub MayLeave : List Point → List ℕ → List WholeSlot → Type 0
MayLeave points numbers slots = All (λ slot. Contains numbers slot.job) slots ⊎ IdleIsCheapest points

-- # One group, and the slots of other jobs

module _ (jobs : List Job) (scale : ℕ) (mine later : List ℕ) (slots : List WholeSlot) (different : AreDifferent (mine ++ later))
    (serves : Serves jobs scale (mine ++ later) slots) where
  pub mine_different : AreDifferent mine
  mine_different number = omega (arith, different number, count_joined number mine later)

  pub later_different : AreDifferent later
  later_different number = omega (arith, different number, count_joined number mine later)

  pub mine_feasible : IsFeasibleAt (jobs_with jobs mine) scale (selected mine slots)
  mine_feasible = selected_feasible jobs scale mine slots mine_different (record {
    order = serves.order;
    windows = serves.windows;
    served = All-front (λ number. work_given slots number ≡ (job_at jobs number).work * scale) mine later serves.served;
  })

  -- a number of a later group isn't one of this
  not_mine : (number : ℕ) → Contains later number → isnt_of mine number ≡ true
  not_mine number has = elim (cases_Bool (is_of mine number)) [
    | inl passes ↦
        absurd (omega (
          arith,
          different number,
          count_joined number mine later,
          contained_counted later number has,
          contained_counted mine number (of_passes mine number passes),
        ))
    | inr fails ↦ rw fails refl
  ]

  pub later_serve : Serves jobs scale later (slots_of (isnt_of mine) slots)
  later_serve = kept_serve (isnt_of mine) jobs scale (mine ++ later) later slots serves (λ number has. (Contains-append_right mine later number has, not_mine number has))

  -- a slot that isn't of this group
  of_later : (slot : WholeSlot) → Contains (mine ++ later) slot.job → isnt_of mine slot.job ≡ true → Contains later slot.job
  of_later slot has isnt = elim (Contains-append_cases mine later slot.job has) [
    | inl own ↦
        let passes = passes_of mine slot.job own in
        absurd (false≢true (sym (ap not passes) ∙ isnt))
    | inr other ↦ other
  ]

  pub later_leave : (points : List Point) → MayLeave points (mine ++ later) slots → MayLeave points later (slots_of (isnt_of mine) slots)
  later_leave points (inl all) = inl (λ k d within.
      of_later (get_or (slots_of (isnt_of mine) slots) k d) (All-filter (λ (slot : WholeSlot). isnt_of mine slot.job) (λ slot. Contains (mine ++ later) slot.job) slots all k d within)
      (filter_passes (λ (slot : WholeSlot). isnt_of mine slot.job) slots k d within))
  later_leave points (inr cheapest) = inr cheapest

-- # By a convex table

-- one group more, in plain numbers
step : (all power scale mine idle own owns rest both : ℕ) (e s es t whole : ℤ) → e ≤ℤ (s +ℤ pos (all * (power * idle))) → mine + idle ≡ scale * own →
    (es +ℤ pos (all * (power * rest))) ≤ℤ (t +ℤ pos (all * (power * (scale * owns)))) → both ≡ mine + rest → whole ≡ s +ℤ t →
    ((e +ℤ es) +ℤ pos (all * (power * both))) ≤ℤ (whole +ℤ pos (all * (power * (scale * (own + owns)))))
step all power scale mine idle own owns rest both e s es t whole first times later sum total =
    omega (arith, ints, first, later, total, ap (λ n. all * (power * n)) times, ap (λ n. all * (power * n)) sum)

module _ (jobs : List Job) (points : List Point) (scale : ℕ) (table : IsTable points) (convex : IsConvex points) where
  abbrev all : ℕ
  all = product (gaps_of points)

  abbrev power : ℕ
  power = (point_at points 0).power

  groups_cost : (groups : List Group) (slots : List WholeSlot) → AreDifferent (numbers_of_groups groups) → All (IsLeastGroup jobs scale) groups →
      Serves jobs scale (numbers_of_groups groups) slots → MayLeave points (numbers_of_groups groups) slots →
      (total (map (energy_of jobs points scale) groups) +ℤ pos (all * (power * busy slots)))
      ≤ℤ (total (map (power_of points) slots) +ℤ pos (all * (power * (scale * horizons jobs (map (λ group. group.numbers) groups)))))
  groups_cost [] [] different least serves may = omega (arith, ints)
  groups_cost [] (slot ∷ slots) different least serves (inl none) = absurd (omega (arith, (none 0 slot (omega arith)).1))
  groups_cost [] (slot ∷ slots) different least serves (inr cheapest) = omega (arith, ints, cost_at_least_idle points (slot ∷ slots) table cheapest)
  groups_cost (group ∷ groups) slots different least serves may =
      let mine = group.numbers in
      let later = numbers_of_groups groups in
      let own = slots_of (is_of mine) slots in
      let rest = slots_of (isnt_of mine) slots in
      let feasible = mine_feasible jobs scale mine later slots different serves in
      let cheaper = least_is_cheapest (jobs_with jobs mine) points scale group.slots (selected mine slots) table convex (All-head (IsLeastGroup jobs scale) group groups least) feasible in
      let others = groups_cost groups rest (later_different jobs scale mine later slots different serves) (All-tail (IsLeastGroup jobs scale) group groups least)
      (later_serve jobs scale mine later slots different serves) (later_leave jobs scale mine later slots different serves points may) in
      let chosen = selected mine slots in
      let groups_later : ℕ = horizons jobs (map (λ group. group.numbers) groups) in
      rw (
        total-cons (energy_of jobs points scale group) (map (energy_of jobs points scale) groups),
        sum_by-cons (λ numbers. horizon (jobs_with jobs numbers)) mine (map (λ (group : Group). group.numbers) groups),
      )
      (step all power scale (busy chosen) (idle (jobs_with jobs mine) scale chosen) (horizon (jobs_with jobs mine)) groups_later (busy rest) (busy slots)
      (energy_of jobs points scale group) (total (map (power_of points) chosen)) (total (map (energy_of jobs points scale) groups)) (total (map (power_of points) rest))
      (total (map (power_of points) slots)) cheaper (busy_and_idle (jobs_with jobs mine) scale chosen feasible) others
      (busy_split (is_of mine) slots ∙ ap (λ n. n + busy rest) (sym (busy_renamed (place_of mine) own)))
      (total_split (power_of points) (is_of mine) slots
      ∙ ap (λ (numbers : List ℤ). total numbers +ℤ total (map (power_of points) rest)) (sym (powers_renamed (place_of mine) points own))))

  -- so it is with any feasible schedule of all jobs
  cost_at_most : (groups : List Group) (others : List WholeSlot) → AreLeastGroups jobs scale groups → MayLeave points (numbers_of_groups groups) others →
      IsFeasibleAt jobs scale others → energy_over (horizon jobs) jobs points scale groups ≤ℤ interpolated_energy jobs points scale others
  cost_at_most groups others are may feasible = omega (
    arith,
    ints,
    groups_cost groups others are.apart.different are.least
        (record {
          order = feasible.one_at_a_time;
          windows = feasible.in_windows;
          served = λ k d within. feasible.served _ (are.apart.known k d within);
        }) may,
    ap (λ n. all * (power * n)) (busy_and_idle jobs scale others feasible),
  )

-- the law of all jobs
pub groups_cost_at_most_all : GroupsCostAtMostAll
groups_cost_at_most_all jobs points scale groups others table convex are have feasible =
    cost_at_most jobs points scale table convex groups others are (inl (λ k d within. have _ (feasible.in_windows k d within).known)) feasible

-- the law of fewer jobs
pub fewer_jobs_cost_at_most_all : FewerJobsCostAtMostAll
fewer_jobs_cost_at_most_all jobs points scale groups others table convex are cheapest feasible =
    cost_at_most jobs points scale table convex groups others are (inr cheapest) feasible

-- # On the points

-- the laws by the lower hull
pub groups_cost_at_most_all_on_points : GroupsCostAtMostAllOnPoints
groups_cost_at_most_all_on_points jobs points hull scale energy groups others table is_hull are have feasible spends =
    at_most_in_turn _ _ _
    (groups_cost_at_most_all jobs hull scale groups others (hull_table points hull table is_hull) is_hull.convex are have feasible)
    (points_cost_at_least_the_hull jobs points hull scale energy others table.rising is_hull spends)

pub fewer_jobs_cost_at_most_all_on_points : FewerJobsCostAtMostAllOnPoints
fewer_jobs_cost_at_most_all_on_points jobs points hull scale energy groups others table is_hull are cheapest feasible spends =
    at_most_in_turn _ _ _
    (fewer_jobs_cost_at_most_all jobs hull scale groups others (hull_table points hull table is_hull) is_hull.convex are cheapest feasible)
    (points_cost_at_least_the_hull jobs points hull scale energy others table.rising is_hull spends)
