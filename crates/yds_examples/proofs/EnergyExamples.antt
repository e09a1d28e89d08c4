-- The definitions of energy, tried on schedules whose energy is known by hand.
use Rattle.yds_model.proofs.Common.{◌≡◌, ◌+◌, ◌*◌, List, [], ◌∷◌, refl, pos, negsuc, Job, WholeSlot, Point, idle, interpolated_power, interpolated_energy}

-- the first job from 0 to 10 with work 10, the second from 4 to 6 with work 6
abbrev jobs : List Job
jobs = record { release = 0; deadline = 10; work = 10 } ∷ record { release = 4; deadline = 6; work = 6 } ∷ []

-- at scale 2: the first job from 0 to 2 1/2 and from 6 to 8 1/2 at the speed 2, the second from 4 to 5 at 4 and from 5 to 6 at 2
abbrev slots : List WholeSlot
slots =
    record { job = 0; from = 0; to = 5; work = 10 }
    ∷ record { job = 1; from = 8; to = 10; work = 8 }
    ∷ record { job = 1; from = 10; to = 12; work = 4 }
    ∷ record { job = 0; from = 12; to = 17; work = 10 }
    ∷ []

-- speed 0 at no power, 2 at 4 and 4 at 10
abbrev points : List Point
points = record { speed = 0; power = 0 } ∷ record { speed = 2; power = 4 } ∷ record { speed = 4; power = 10 } ∷ []

-- the processor is idle for 3 of the 10 time units
idle_time : idle jobs 2 slots ≡ 6
idle_time = refl

-- 34 units of energy, at scale 2, times the gaps 2 and 2
energy : interpolated_energy jobs points 2 slots ≡ pos (34 * 2 * 4)
energy = refl

-- with a power of 3 for the idle processor, which runs nothing for 3 time units
abbrev costly : List Point
costly = record { speed = 0; power = 3 } ∷ record { speed = 2; power = 4 } ∷ record { speed = 4; power = 10 } ∷ []

-- so 9 more
with_idle_power : interpolated_energy jobs costly 2 slots ≡ pos ((34 + 9) * 2 * 4)
with_idle_power = refl

-- a table of one point: its power for each time unit, whatever runs
one_point : interpolated_energy jobs (record { speed = 0; power = 3 } ∷ []) 2 slots ≡ pos (3 * 10 * 2)
one_point = refl

-- beyond the last point its line goes on, here below 0
falling : interpolated_power (record { speed = 0; power = 3 } ∷ record { speed = 1; power = 1 } ∷ []) 1 2 ≡ negsuc 0
falling = refl
