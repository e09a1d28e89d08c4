-- What `IsSpent` says of slots that don't fill their stretch at one speed: a job from 0 to 2 of work 3 that does all its work from 0 to 1. It
-- isn't what they take on the points.
use Rattle.yds_model.proofs.Common.{List, [], ◌∷◌, refl, arith, Job, of_whole, WrittenSlot, IsScale, IsFeasible, Point, IsEnergyOf, Spent, IsSpent}
use Rattle.yds_energy.proofs.Finer.{each_scale_of}
use Rattle.yds_energy.proofs.SpentScale.{spent_free}
use Rattle.yds_examples.proofs.Tests.{proved}
use Rattle.yds_examples.proofs.TestedSchedules.{is_scale, feasible_by_test}
use Rattle.yds_examples.proofs.TestedRounding.{energy_by_test}

-- the job
abbrev jobs : List Job
jobs = record { release = 0; deadline = 2; work = 3 } ∷ []

-- the points
abbrev points : List Point
points = record { speed = 0; power = 0 } ∷ record { speed = 1; power = 1 } ∷ record { speed = 2; power = 3 } ∷ record { speed = 3; power = 9 } ∷ []

-- the speed 3 until 1, and nothing done from then on
abbrev slots : List WrittenSlot
slots =
    record { job = 0; from = of_whole 0; to = of_whole 1; work = of_whole 3 } ∷ record { job = 0; from = of_whole 1; to = of_whole 2; work = of_whole 0 } ∷ []

-- they are feasible,
its_feasible : IsFeasible jobs slots
its_feasible = feasible_by_test jobs slots 1 refl refl

-- and take 9 on the points.
its_energy : IsEnergyOf jobs points slots (of_whole 9)
its_energy = energy_by_test jobs points (3 ∷ 0 ∷ []) slots (of_whole 9) 1 refl (omega arith) refl refl

its_scale : IsScale 1 slots
its_scale = proved (is_scale 1 slots) refl

-- Run at one speed, the stretch would take 4: one time unit each at the speeds 1 and 2.
abbrev even : Spent
even = record { energy = of_whole 4; times = of_whole 0 ∷ of_whole 1 ∷ of_whole 1 ∷ of_whole 0 ∷ [] }

-- That is what `IsSpent` says.
its_spent : IsSpent jobs points slots even
its_spent = each_scale_of _ (spent_free jobs points even (omega arith)) slots 1 its_scale (record { energy = refl; times = refl })
