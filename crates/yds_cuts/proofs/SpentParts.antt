-- What parts spend on the points, where each stretch runs at one speed and no window is open at the cuts: times and energies add.
use Rattle.yds_model.proofs.Common.{◌≡◌, ℕ, ◌+◌, ◌*◌, ◌<◌, ◌≤◌, ◌==◌, Bool, true, false, List, [], ◌∷◌, ◌++◌, length, refl, ap, ap₂, ◌∙◌, arith, if◌then◌else◌, All, append-nil, sum_by, sum_by-cons, All-nil, All-head, All-tail, All-append, length-append, sum_by_zero, Job, WholeSlot, IsScale, slots_at, IsFeasible, horizon, Point, point_at, hull_multiple, all_time_at, all_energy}
use Rattle.yds_parts.specs.Parts.{WindowsAreForward, together_at, gap_between}
use Rattle.yds_parts.specs.EnergyOfParts.{AreScheduled}
use Rattle.yds_parts.proofs.Horizons.{horizon_of_both}
use Rattle.yds_parts.proofs.SpentOfParts.{times_of_parts, stretch_energy_of_parts}
use Rattle.yds_parts.proofs.WrittenParts.{together_is, scale_of_first, scale_of_second}
use Rattle.yds_cuts.specs.Cuts.{Part, all_jobs, all_slots, part_horizons}
use Rattle.yds_cuts.specs.ClosedCuts.{ArePartedFrom, AreParted, IsScheduledPart, TimesOfEachPart, StretchEnergyOfEachPart}
use Rattle.yds_cuts.proofs.ClosedCuts.{parted_at, parted_follow}
use Rattle.yds_cuts.proofs.CutEnergies.{together_feasible}

-- # Scheduled parts

-- the windows of all jobs aren't empty
pub all_windows : (parts : List Part) → All IsScheduledPart parts → WindowsAreForward (all_jobs parts)
all_windows [] are = All-nil (λ (job : Job). job.release < job.deadline)
all_windows (part ∷ parts) are =
    All-append (λ job. job.release < job.deadline) part.jobs (all_jobs parts) (All-head IsScheduledPart part parts are).windows
    (all_windows parts (All-tail IsScheduledPart part parts are))

-- parts that are cut from a later time on are so from the first
pub parted_from_first : (time : ℕ) (parts : List Part) → ArePartedFrom time parts → AreParted parts
parted_from_first time [] parted = tt
parted_from_first time (part ∷ parts) (end, order, releases, deadlines, later) = (end, omega arith, (λ k d within. omega arith), deadlines, later)

pub all_scheduled : (time : ℕ) (parts : List Part) → ArePartedFrom time parts → All IsScheduledPart parts → IsFeasible (all_jobs parts) (all_slots parts)
all_scheduled time parts parted are =
    let feasible = λ (k : ℕ) (d : Part) (within : k < length parts). (are k d within).feasible in
    together_feasible parts (parted_follow parts (parted_from_first time parts parted) feasible) feasible

-- # Whatever adds over two parts

-- one part more, in plain numbers
joined : (k all first rest sum h_first gap h_rest h_all own : ℕ) → all ≡ first + rest + k * gap → h_all ≡ h_first + gap + h_rest →
    rest + k * own ≡ sum + k * h_rest → all + k * (h_first + own) ≡ (first + sum) + k * h_all
joined k all first rest sum h_first gap h_rest h_all own is long later = omega (arith, is, later, ap (λ n. k * n) long)

module _ (scale k : ℕ) (amount : List Job → List WholeSlot → ℕ)
    (adds : (time : ℕ) (first second : List Job) (slots others : List WholeSlot) → AreScheduled time scale first second slots others →
    amount (first ++ second) (together_at first slots others) ≡ amount first slots + amount second others + k * gap_between first second) where
  abbrev of_all : List Part → ℕ
  of_all parts = amount (all_jobs parts) (slots_at scale (all_slots parts))

  abbrev of_part : Part → ℕ
  of_part part = amount part.jobs (slots_at scale part.slots)

  parts_add : (time : ℕ) (parts : List Part) → amount [] [] ≡ 0 → ArePartedFrom time parts → All IsScheduledPart parts → IsScale scale (all_slots parts) →
      of_all parts + k * part_horizons parts ≡ sum_by of_part parts + k * horizon (all_jobs parts)
  parts_add time [] none parted are is = omega (arith, none)
  parts_add time (part ∷ []) none parted are is =
      let same : of_all (part ∷ []) ≡ of_part part =
      ap₂ amount (append-nil part.jobs) (ap (slots_at scale) (append-nil part.slots)) in
      omega (
        arith,
        same,
        ap (λ (jobs : List Job). k * horizon jobs) (append-nil part.jobs),
      )
  parts_add time (part ∷ next ∷ parts) none parted are is =
      let rest : List Part = next ∷ parts in
      let later = All-tail IsScheduledPart part rest are in
      let here = All-head IsScheduledPart part rest are in
      let cut = parted_at time part rest parted in
      let first_is = scale_of_first scale part.jobs part.slots (all_slots rest) is in
      let second_is = scale_of_second scale part.jobs part.slots (all_slots rest) is in
      let some_later : 1 ≤ length (all_jobs rest) = omega (arith, (All-head IsScheduledPart next parts later).some, length-append next.jobs (all_jobs parts)) in
      let scheduled : AreScheduled parted.0 scale part.jobs (all_jobs rest) (slots_at scale part.slots) (slots_at scale (all_slots rest)) = record {
        parted = cut;
        some = here.some;
        some_later = some_later;
        first_windows = here.windows;
        second_windows = all_windows rest later;
        feasible = here.feasible.holds scale first_is;
        later_feasible = (all_scheduled parted.0 rest parted.4 later).holds scale second_is;
      } in
      let sum = ap (amount (all_jobs (part ∷ rest))) (together_is scale part.jobs part.slots (all_slots rest))
      ∙ adds parted.0 part.jobs (all_jobs rest) (slots_at scale part.slots) (slots_at scale (all_slots rest)) scheduled in
      rw (sum_by-cons of_part part rest, sum_by-cons (λ (part : Part). horizon part.jobs) part rest)
      (joined k (of_all (part ∷ rest)) (of_part part) (of_all rest) (sum_by of_part rest) (horizon part.jobs) (gap_between part.jobs (all_jobs rest)) (horizon (all_jobs rest))
      (horizon (all_jobs (part ∷ rest))) (part_horizons rest) sum
      (horizon_of_both parted.0 part.jobs (all_jobs rest) cut here.windows (all_windows rest later) here.some some_later)
      (parts_add parted.0 (next ∷ parts) none parted.4 later second_is))

-- # The laws

-- a choice of so much for each unit
for_each : (chosen : Bool) (multiple scale long : ℕ) → (if chosen then multiple * (scale * long) else 0) ≡ (if chosen then multiple * scale else 0) * long
for_each true multiple scale long = omega arith
for_each false multiple scale long = omega arith

of_first : (chosen : Bool) (multiple scale long : ℕ) → multiple * (scale * (if chosen then long else 0)) ≡ (if chosen then multiple * scale else 0) * long
of_first true multiple scale long = omega arith
of_first false multiple scale long = omega arith

pub times_of_each_part : TimesOfEachPart
times_of_each_part points parts scale speed table parted are is =
    let chosen = speed == (point_at points 0).speed in
    let multiple = hull_multiple points in
    let k : ℕ = if chosen then multiple * scale else 0 in
    let add = parts_add scale k (λ jobs slots. all_time_at jobs points scale slots speed)
    (λ time first second slots others scheduled.
    times_of_parts time scale speed first second points slots others scheduled table
    ∙ ap (λ n. all_time_at first points scale slots speed + all_time_at second points scale others speed + n) (for_each chosen multiple scale (gap_between first second)))
    0 parts refl parted are is in
    rw (of_first chosen multiple scale (part_horizons parts), of_first chosen multiple scale (horizon (all_jobs parts))) add

pub stretch_energy_of_each_part : StretchEnergyOfEachPart
stretch_energy_of_each_part points parts scale table parted are is =
    let multiple = hull_multiple points in
    let power = (point_at points 0).power in
    let k : ℕ = multiple * (power * scale) in
    let add = parts_add scale k (λ jobs slots. all_energy jobs points scale slots)
    (λ time first second slots others scheduled. omega (arith, stretch_energy_of_parts time scale first second points slots others scheduled table))
    0 parts (sum_by_zero (λ (point : Point). point.power * 0) points (λ j d within. omega arith)) parted are is in
    omega (arith, add)
