-- Windows that are shortened: what is feasible for them is feasible for the jobs, and costs at least what is least.
use Rattle.yds_model.proofs.Common.{◌≡◌, ℕ, ◌+◌, ◌-◌, ◌*◌, ◌<◌, ◌≤◌, List, [], ◌∷◌, ◌++◌, length, get_or, map, refl, sym, ap, subst, ◌∙◌, arith, inl, inr, ℤ, pos, ◌+ℤ◌, ◌≤ℤ◌, ints, All, AllZip, Contains, sum, sum_by-cons, sum_by-append, get_or-map, length-map, All-nil, All-head, All-tail, All-append, All-map, All-front, All-back, Contains-get_or, Contains-append_left, Contains-append_right, Contains-append_cases, get_or_default, mul-le-mul_right, AreDifferent, Job, no_job, job_at, jobs_with, Fraction, numerator, WholeSlot, RunFrom, IsInWindow, IsFeasibleAt, work_given, Point, point_at, gaps_of, busy, idle, horizon, product, total, interpolated_energy, SpendsAtPoints, IsEnergyOnPoints}
use Rattle.model_lemmas.proofs.Counted.{count_joined, contained_counted}
use Rattle.model_lemmas.proofs.Horizon.{busy_and_idle}
use Rattle.model_lemmas.proofs.Runs.{run_joined, run_later, run_earlier}
use Rattle.std.proofs.lemmas.List.Elements.{AllZip-get_or, length_all_zip}
use Rattle.yds_energy.proofs.Differences.{total-cons}
use Rattle.yds_energy.proofs.Energy.{least_is_cheapest}
use Rattle.yds_energy.proofs.HullCosts.{power_of}
use Rattle.yds_energy.proofs.PlanParts.{given_joined}
use Rattle.yds_energy.proofs.RoundedEnergy.{total_joined, spends_joined}
use Rattle.yds_cuts.specs.Groups.{Group, numbers_of_groups, AreApartIn, HaveAll, named, slots_of_groups, horizons}
use Rattle.yds_cuts.specs.Bounds.{IsShortened, CutsShorten, ShortenedIsFeasible, AreShortenedGroups, WindowsInTurn, WindowsInTurnRunInTurn, ShortenedGroupsCost, AllCostAtMostShortened, ShortenedGroupsSpend, HasEnergyAt, LeastEnergyIsAtMostShortened}
use Rattle.yds_cuts.proofs.Renamed.{run_renamed, busy_renamed, spends_renamed, powers_renamed, window_renamed, given_renamed, given_none}
use Rattle.yds_cuts.proofs.Priced.{priced, spends_more, over_at_scale}
use Rattle.yds_cuts.proofs.Selected.{one_place}
use Rattle.yds_cuts.proofs.LeastEnergies.{at_most_written}

-- # Shortened windows

module _ (jobs short : List Job) (shortened : AllZip IsShortened short jobs) where
  pub as_many : length short ≡ length jobs
  as_many = length_all_zip IsShortened short jobs shortened

  short_job : (number : ℕ) → number < length short → IsShortened (job_at short number) (job_at jobs number)
  short_job number within = AllZip-get_or IsShortened short jobs number no_job no_job shortened within

  -- at a scale
  pub shortened_at : (scale : ℕ) (slots : List WholeSlot) → IsFeasibleAt short scale slots → IsFeasibleAt jobs scale slots
  shortened_at scale slots feasible = record {
    one_at_a_time = feasible.one_at_a_time;
    in_windows = λ k d within.
        let is = feasible.in_windows k d within in
        let one = short_job _ is.known in
        record {
          known = omega (arith, is.known, as_many);
          released = omega (arith, is.released, mul-le-mul_right scale one.released);
          due = omega (arith, is.due, mul-le-mul_right scale one.due);
        };
    served = λ number within.
        let inside : number < length short = omega (arith, within, as_many) in
        feasible.served number inside ∙ ap (λ n. n * scale) (short_job number inside).work;
  }

-- the law of both sides of a cut
pub cuts_shorten : CutsShorten
cuts_shorten time job = (record { released = omega arith; due = omega arith; work = refl }, record { released = omega arith; due = omega arith; work = refl })

-- the law
pub shortened_is_feasible : ShortenedIsFeasible
shortened_is_feasible jobs short slots shortened feasible = record {
  solid = feasible.solid;
  holds = λ scale is. shortened_at jobs short shortened scale _ (feasible.holds scale is);
}

-- # Groups together

-- the name of a place among these numbers
abbrev name_in : List ℕ → ℕ → ℕ
name_in numbers place = get_or numbers place 0

module _ (jobs : List Job) (scale : ℕ) where
  abbrev IsFeasibleGroup : Group → Type 0
  IsFeasibleGroup group = IsFeasibleAt (jobs_with jobs group.numbers) scale group.slots

  -- each slot of a group has a place among its numbers
  slot_known : (group : Group) → IsFeasibleGroup group → All (λ slot. slot.job < length group.numbers) group.slots
  slot_known group feasible k d within = omega (arith, (feasible.in_windows k d within).known, length-map group.numbers (job_at jobs))

  read : (numbers : List ℕ) (k : ℕ) → k < length numbers → job_at (jobs_with jobs numbers) k ≡ job_at jobs (name_in numbers k)
  read numbers k within = get_or-map (job_at jobs) numbers k 0 no_job within

  -- so all slots lie in their windows
  groups_windows : (groups : List Group) → All (λ number. number < length jobs) (numbers_of_groups groups) → All IsFeasibleGroup groups →
      All (IsInWindow jobs scale) (slots_of_groups groups)
  groups_windows [] known feasible = All-nil (IsInWindow jobs scale)
  groups_windows (group ∷ groups) known feasible =
      let here = All-head IsFeasibleGroup group groups feasible in
      let numbers = group.numbers in
      All-append (IsInWindow jobs scale) (map (named numbers) group.slots) (slots_of_groups groups)
      (All-map (IsInWindow jobs scale) (named numbers) group.slots (λ k d within.
      let slot = get_or group.slots k d in
      let place = slot_known group here k d within in
      window_renamed (name_in numbers) (jobs_with jobs numbers) jobs scale slot
      (All-front (λ number. number < length jobs) numbers (numbers_of_groups groups) known slot.job 0 place) (sym (read numbers slot.job place))
      (here.in_windows k d within)))
      (groups_windows groups (All-back (λ number. number < length jobs) numbers (numbers_of_groups groups) known) (All-tail IsFeasibleGroup group groups feasible))

  -- a group gives its jobs their work,
  group_gives : (group : Group) (number : ℕ) → AreDifferent group.numbers → IsFeasibleGroup group → Contains group.numbers number →
      work_given (map (named group.numbers) group.slots) number ≡ (job_at jobs number).work * scale
  group_gives group number different feasible (k, within, is) =
      let numbers = group.numbers in
      let at : name_in numbers k ≡ number = get_or_default numbers k 0 number within ∙ is in
      given_renamed (name_in numbers) number k group.slots (λ i d inside.
      let slot = get_or group.slots i d in (
        λ same. one_place numbers slot.job k different (slot_known group feasible i d inside) within (same ∙ sym at),
        λ same. ap (name_in numbers) same ∙ at,
      ))
      ∙ feasible.served k (omega (arith, within, length-map numbers (job_at jobs)))
      ∙ ap (λ (job : Job). job.work * scale) (read numbers k within ∙ ap (job_at jobs) at)

  -- and other jobs nothing
  group_gives_none : (group : Group) (number : ℕ) → IsFeasibleGroup group → (Contains group.numbers number → ⊥) →
      work_given (map (named group.numbers) group.slots) number ≡ 0
  group_gives_none group number feasible isnt =
      given_none number (map (named group.numbers) group.slots)
      (All-map (λ slot. number ≡ slot.job → ⊥) (named group.numbers) group.slots (λ k d within same.
      let slot = get_or group.slots k d in
      isnt (subst (Contains group.numbers) (sym same) (Contains-get_or group.numbers slot.job 0 (slot_known group feasible k d within)))))

  groups_give_none : (groups : List Group) (number : ℕ) → All IsFeasibleGroup groups → (Contains (numbers_of_groups groups) number → ⊥) →
      work_given (slots_of_groups groups) number ≡ 0
  groups_give_none [] number feasible isnt = refl
  groups_give_none (group ∷ groups) number feasible isnt = omega (
    arith,
    given_joined (map (named group.numbers) group.slots) (slots_of_groups groups) number,
    group_gives_none group number (All-head IsFeasibleGroup group groups feasible) (λ has. isnt (Contains-append_left group.numbers (numbers_of_groups groups) number has)),
    groups_give_none groups number (All-tail IsFeasibleGroup group groups feasible) (λ has. isnt (Contains-append_right group.numbers (numbers_of_groups groups) number has)),
  )

  -- so do all together
  groups_give : (groups : List Group) (number : ℕ) → AreDifferent (numbers_of_groups groups) → All IsFeasibleGroup groups → Contains (numbers_of_groups groups) number →
      work_given (slots_of_groups groups) number ≡ (job_at jobs number).work * scale
  groups_give [] number different feasible has = absurd (omega (arith, has.1))
  groups_give (group ∷ groups) number different feasible has =
      let mine = group.numbers in
      let later = numbers_of_groups groups in
      let here = All-head IsFeasibleGroup group groups feasible in
      let others = All-tail IsFeasibleGroup group groups feasible in
      let joined = given_joined (map (named mine) group.slots) (slots_of_groups groups) number in
      elim (Contains-append_cases mine later number has) [
        | inl own ↦ omega (
          arith,
          joined,
          group_gives group number (λ one. omega (arith, different one, count_joined one mine later)) here own,
          groups_give_none groups number others (λ also. absurd (omega (
            arith,
            different number,
            count_joined number mine later,
            contained_counted mine number own,
            contained_counted later number also,
          ))),
        )
        | inr other ↦ omega (
          arith,
          joined,
          groups_give groups number (λ one. omega (arith, different one, count_joined one mine later)) others other,
          group_gives_none group number here (λ also. absurd (omega (
            arith,
            different number,
            count_joined number mine later,
            contained_counted mine number also,
            contained_counted later number other,
          ))),
        )
      ]

  -- so they are a feasible schedule of all jobs
  pub groups_feasible : (groups : List Group) → AreApartIn jobs (numbers_of_groups groups) → HaveAll jobs (numbers_of_groups groups) → All IsFeasibleGroup groups →
      RunFrom 0 (slots_of_groups groups) → IsFeasibleAt jobs scale (slots_of_groups groups)
  groups_feasible groups apart have feasible run = record {
    one_at_a_time = run;
    in_windows = groups_windows groups apart.known feasible;
    served = λ number within. groups_give groups number apart.different feasible (have number within);
  }

  -- # What they cost

  abbrev energy_of : List Point → Group → ℤ
  energy_of points group = interpolated_energy (jobs_with jobs group.numbers) points scale group.slots

  -- their energies together, with what they run for at the first point's power
  pub groups_cost : (points : List Point) (groups : List Group) → All IsFeasibleGroup groups →
      (total (map (energy_of points) groups) +ℤ pos (product (gaps_of points) * ((point_at points 0).power * busy (slots_of_groups groups))))
      ≡ (total (map (power_of points) (slots_of_groups groups))
      +ℤ pos (product (gaps_of points) * ((point_at points 0).power * (scale * horizons jobs (map (λ group. group.numbers) groups)))))
  groups_cost points [] feasible = omega (arith, ints)
  groups_cost points (group ∷ groups) feasible =
      let numbers = group.numbers in
      let own = jobs_with jobs numbers in
      let mine = map (named numbers) group.slots in
      let later = slots_of_groups groups in
      rw (
        total-cons (energy_of points group) (map (energy_of points) groups),
        sum_by-cons (λ numbers. horizon (jobs_with jobs numbers)) numbers (map (λ (group : Group). group.numbers) groups),
      )
      (priced (product (gaps_of points)) (point_at points 0).power scale (busy group.slots) (idle own scale group.slots) (horizon own)
      (horizons jobs (map (λ group. group.numbers) groups)) (busy later) (busy (mine ++ later)) (energy_of points group) (total (map (power_of points) group.slots))
      (total (map (energy_of points) groups)) (total (map (power_of points) later)) (total (map (power_of points) (mine ++ later))) refl
      (busy_and_idle own scale group.slots (All-head IsFeasibleGroup group groups feasible))
      (groups_cost points groups (All-tail IsFeasibleGroup group groups feasible))
      (sum_by-append (λ (slot : WholeSlot). slot.to - slot.from) mine later ∙ ap (λ n. n + busy later) (busy_renamed (name_in numbers) group.slots))
      (total_joined (power_of points) mine later
      ∙ ap (λ (powers : List ℤ). total powers +ℤ total (map (power_of points) later)) (powers_renamed (name_in numbers) points group.slots)))

  abbrev HasEnergy : List Point → Group → ℕ → Type 0
  HasEnergy points group energy = IsEnergyOnPoints (jobs_with jobs group.numbers) points scale group.slots energy

  -- what they spend together
  pub record SpendTogether (points : List Point) (groups : List Group) (energies : List ℕ) : Type 0 where
    pub amount : ℕ
    pub spends : SpendsAtPoints points (slots_of_groups groups) amount
    pub is : sum energies + (point_at points 0).power * busy (slots_of_groups groups)
        ≡ amount + (point_at points 0).power * (scale * horizons jobs (map (λ group. group.numbers) groups))

  pub groups_spend : (points : List Point) (groups : List Group) (energies : List ℕ) → All IsFeasibleGroup groups → AllZip (HasEnergy points) groups energies →
      SpendTogether points groups energies
  groups_spend points [] [] feasible have = record { amount = 0; spends = refl; is = omega arith }
  groups_spend points [] (energy ∷ energies) feasible have = absurd have
  groups_spend points (group ∷ groups) [] feasible have = absurd have
  groups_spend points (group ∷ groups) (energy ∷ energies) feasible ((amount, spends, is), have) =
      let numbers = group.numbers in
      let own = jobs_with jobs numbers in
      let mine = map (named numbers) group.slots in
      let later = slots_of_groups groups in
      let others = groups_spend points groups energies (All-tail IsFeasibleGroup group groups feasible) have in
      record {
        amount = amount + others.amount;
        spends = spends_joined points mine later amount others.amount (spends_renamed (name_in numbers) points group.slots amount spends) others.spends;
        is = rw (sum_by-cons (λ numbers. horizon (jobs_with jobs numbers)) numbers (map (λ (group : Group). group.numbers) groups))
            (spends_more (point_at points 0).power scale (busy group.slots) (idle own scale group.slots) (horizon own) (horizons jobs (map (λ group. group.numbers) groups)) (busy later)
            (busy (mine ++ later)) amount others.amount (sum energies) (sum (energy ∷ energies)) (busy_and_idle own scale group.slots (All-head IsFeasibleGroup group groups feasible))
            (sum_by-append (λ (slot : WholeSlot). slot.to - slot.from) mine later ∙ ap (λ n. n + busy later) (busy_renamed (name_in numbers) group.slots))
            others.is (omega (arith, sum_by-cons (λ n. n) energy energies, is)));
      }

-- # The laws of shortened groups

module _ (jobs short : List Job) (scale : ℕ) (groups : List Group) (are : AreShortenedGroups jobs short scale groups) where
  -- the groups' slots are feasible for all jobs
  pub all_feasible : IsFeasibleAt jobs scale (slots_of_groups groups)
  all_feasible =
      let many = as_many jobs short are.shortened in
      shortened_at jobs short are.shortened scale (slots_of_groups groups)
      (groups_feasible short scale groups
      (record { known = λ k d within. omega (arith, many, are.apart.known k d within); different = are.apart.different })
      (λ number within. are.all number (omega (arith, within, many))) are.feasible are.in_turn)

pub shortened_groups_cost : ShortenedGroupsCost
shortened_groups_cost jobs short points scale groups are = (
  all_feasible jobs short scale groups are,
  omega (
    arith,
    ints,
    groups_cost short scale points groups are.feasible,
    ap (λ n. product (gaps_of points) * ((point_at points 0).power * n)) (busy_and_idle jobs scale (slots_of_groups groups) (all_feasible jobs short scale groups are)),
  ),
)

pub all_cost_at_most_shortened : AllCostAtMostShortened
all_cost_at_most_shortened jobs short points scale groups least table convex are is =
    let cost = shortened_groups_cost jobs short points scale groups are in
    subst (λ energy. interpolated_energy jobs points scale least ≤ℤ energy) cost.1
    (least_is_cheapest jobs points scale least (slots_of_groups groups) table convex is cost.0)

pub shortened_groups_spend : ShortenedGroupsSpend
shortened_groups_spend jobs short points scale groups energies are have =
    let together = groups_spend short scale points groups energies are.feasible have in
    let power = (point_at points 0).power in (
      together.amount + power * idle jobs scale (slots_of_groups groups),
      (together.amount, together.spends, refl),
      omega (arith, together.is, ap (λ n. power * n) (busy_and_idle jobs scale (slots_of_groups groups) (all_feasible jobs short scale groups are))),
    )

-- the groups' energies at the scale
record EnergiesAt (jobs : List Job) (points : List Point) (scale : ℕ) (groups : List Group) (energies : List Fraction) : Type 0 where
  costs : List ℕ
  have : AllZip (HasEnergy jobs scale points) groups costs
  are : AllZip (λ energy cost. cost * energy.den ≡ numerator energy * scale) energies costs

energies_at : (jobs : List Job) (points : List Point) (scale : ℕ) (groups : List Group) (energies : List Fraction) →
    AllZip (λ group energy. HasEnergyAt (jobs_with jobs group.numbers) points scale group.slots energy) groups energies → EnergiesAt jobs points scale groups energies
energies_at jobs points scale [] [] have = record { costs = []; have = tt; are = tt }
energies_at jobs points scale [] (energy ∷ energies) have = absurd have
energies_at jobs points scale (group ∷ groups) [] have = absurd have
energies_at jobs points scale (group ∷ groups) (energy ∷ energies) ((cost, spends, is), have) =
    let rest = energies_at jobs points scale groups energies have in
    record { costs = cost ∷ rest.costs; have = (spends, rest.have); are = (is, rest.are) }

pub least_energy_is_at_most_shortened : LeastEnergyIsAtMostShortened
least_energy_is_at_most_shortened jobs short points scale groups energies least bound some are have over is =
    let at = energies_at short points scale groups energies have in
    let (cost, spends, sum) = shortened_groups_spend jobs short points scale groups at.costs are at.have in
    at_most_written (numerator least) least.den (numerator bound) bound.den cost scale some
    (is.at_scales scale cost (slots_of_groups groups) (all_feasible jobs short scale groups are) spends)
    (over_at_scale scale (horizon jobs) (horizons short (map (λ group. group.numbers) groups)) points energies at.costs bound cost over at.are sum)

-- # Windows in turn

module _ (jobs : List Job) (scale : ℕ) where
  run_in_turn : (time : ℕ) (groups : List Group) → WindowsInTurn time jobs (map (λ group. group.numbers) groups) → All (IsFeasibleGroup jobs scale) groups →
      RunFrom (time * scale) (slots_of_groups groups)
  run_in_turn time [] windows feasible = tt
  run_in_turn time (group ∷ groups) (end, order, releases, deadlines, later) feasible =
      let numbers = group.numbers in
      let here = All-head (IsFeasibleGroup jobs scale) group groups feasible in
      let known = slot_known jobs scale group here in
      let begins : All (λ slot. time * scale ≤ slot.from) group.slots = λ k d within.
      let slot = get_or group.slots k d in
      let place = known k d within in
      omega (
        arith,
        mul-le-mul_right scale (releases slot.job 0 place),
        (here.in_windows k d within).released,
        ap (λ (job : Job). job.release * scale) (read jobs scale numbers slot.job place),
      ) in
      let ends : All (λ slot. slot.to ≤ end * scale) group.slots = λ k d within.
      let slot = get_or group.slots k d in
      let place = known k d within in
      omega (
        arith,
        mul-le-mul_right scale (deadlines slot.job 0 place),
        (here.in_windows k d within).due,
        ap (λ (job : Job). job.deadline * scale) (read jobs scale numbers slot.job place),
      ) in
      run_joined (time * scale) (end * scale) (map (named numbers) group.slots) (slots_of_groups groups) (mul-le-mul_right scale order)
      (run_renamed (name_in numbers) (time * scale) group.slots (run_later 0 (time * scale) group.slots here.one_at_a_time begins))
      (All-map (λ slot. slot.to ≤ end * scale) (named numbers) group.slots ends)
      (run_in_turn end groups later (All-tail (IsFeasibleGroup jobs scale) group groups feasible))

pub windows_in_turn_run_in_turn : WindowsInTurnRunInTurn
windows_in_turn_run_in_turn jobs scale groups windows feasible = run_earlier 0 _ _ (omega arith) (run_in_turn jobs scale 0 groups windows feasible)
