-- The energy of a schedule, by a table of operating points: power is energy per time unit, and time in which nothing runs
-- costs the power of the first point, which has the speed 0. After Ishihara and Yasuura (ISLPED 1998).
use Rattle.std.specs.Prelude.{◌≡◌, ℕ, ◌+◌, ◌-◌, ◌*◌, List, [], ◌∷◌, map, sum_by, fold, min, max, ℤ, pos, ◌+ℤ◌, ◌-ℤ◌, ◌*ℤ◌}
use Rattle.std.specs.Int.{int_max}
use Rattle.std.specs.List.{Contains}
use Rattle.yds_model.specs.Job.{Job}
use Rattle.yds_model.specs.Slot.{WholeSlot}
use Rattle.yds_model.specs.Table.{Point, point_at, gaps_of}

-- the greatest deadline, and the least release below it
abbrev pub last_deadline : List Job → ℕ
last_deadline jobs = fold (λ time job. max time job.deadline) 0 jobs

abbrev pub first_release : List Job → ℕ
first_release jobs = fold (λ time job. min time job.release) (last_deadline jobs) jobs

-- the length from the first release to the last deadline, 0 for no jobs
abbrev pub horizon : List Job → ℕ
horizon jobs = last_deadline jobs - first_release jobs

-- the time in which something runs, and the rest of the horizon, at a scale
abbrev pub busy : List WholeSlot → ℕ
busy slots = sum_by (λ slot. slot.to - slot.from) slots

abbrev pub idle : List Job → ℕ → List WholeSlot → ℕ
idle jobs scale slots = scale * horizon jobs - busy slots

-- the slot runs at the point's speed
abbrev pub IsAtPoint : WholeSlot → Point → Type 0
IsAtPoint slot point = slot.work ≡ point.speed * (slot.to - slot.from)

-- These are the points of the slots, one for each, and this is the sum of power times time over the slots.
abbrev pub SpendsAtPoints : List Point → List WholeSlot → ℕ → Type 0
SpendsAtPoints points [] spent = spent ≡ 0
SpendsAtPoints points (slot ∷ slots) spent =
    (point : Point) × (rest : ℕ) × Contains points point × IsAtPoint slot point × SpendsAtPoints points slots rest
    × (spent ≡ point.power * (slot.to - slot.from) + rest)

-- On points: each slot runs at a point's speed, and this is the schedule's energy at a scale, with the idle time.
abbrev pub IsEnergyOnPoints : List Job → List Point → ℕ → List WholeSlot → ℕ → Type 0
IsEnergyOnPoints jobs points scale slots energy =
    (spent : ℕ) × SpendsAtPoints points slots spent × (energy ≡ spent + (point_at points 0).power * idle jobs scale slots)

abbrev pub product : List ℕ → ℕ
product numbers = fold (λ a n. a * n) 1 numbers

-- By interpolation. Between two neighbours of the table the power goes in a straight line. Times their gap, a slot that runs
-- for `time` and does `work` spends on that line `low.power * (high.speed * time - work) + high.power * (work - low.speed * time)`.
-- It may be below 0 where the work is beyond the neighbours.
abbrev pub on_line : Point → Point → ℕ → ℕ → ℤ
on_line low high time work =
    (pos low.power *ℤ (pos (high.speed * time) -ℤ pos work)) +ℤ (pos high.power *ℤ (pos work -ℤ pos (low.speed * time)))

-- The numbers of all lines between neighbours, each times the product of the other gaps: `before` is the product of the gaps before.
abbrev pub on_lines : ℕ → List Point → ℕ → ℕ → List ℤ
on_lines before [] time work = []
on_lines before (point ∷ []) time work = []
on_lines before (low ∷ high ∷ points) time work =
    (pos (before * product (gaps_of (high ∷ points))) *ℤ on_line low high time work)
    ∷ on_lines (before * (high.speed - low.speed)) (high ∷ points) time work

abbrev pub greatest : ℤ → List ℤ → ℤ
greatest first numbers = fold int_max first numbers

-- The product of the gaps, times a slot's energy: the greatest number that a line gives it. The last line goes on above the
-- top. A table of one point has no line, and the slot's time costs its power.
abbrev pub greatest_of : ℤ → List ℤ → ℤ
greatest_of alone [] = alone
greatest_of alone (first ∷ numbers) = greatest first numbers

abbrev pub interpolated_power : List Point → ℕ → ℕ → ℤ
interpolated_power points time work = greatest_of (pos ((point_at points 0).power * time)) (on_lines 1 points time work)

abbrev pub total : List ℤ → ℤ
total numbers = fold (λ a n. a +ℤ n) (pos 0) numbers

-- the product of the gaps, times the schedule's energy at a scale
abbrev pub interpolated_energy : List Job → List Point → ℕ → List WholeSlot → ℤ
interpolated_energy jobs points scale slots =
    total (map (λ slot. interpolated_power points (slot.to - slot.from) slot.work) slots)
    +ℤ pos (product (gaps_of points) * ((point_at points 0).power * idle jobs scale slots))
