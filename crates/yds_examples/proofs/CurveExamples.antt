-- The least excess above a speed and the curve of it, tried on the plan of three nested jobs: a from 0 to 12 with work 4, b from 2 to 10
-- with work 8, c from 4 to 6 with work 6.
use Rattle.yds_model.proofs.Common.{◌≡◌, ℕ, ◌+◌, ◌*◌, ◌<◌, ◌≤◌, List, [], ◌∷◌, refl, arith, codes, true, All, digits, AreDifferent, job_at, work_of, Fraction, of_whole, WholeSlot, slots_at, IsFeasibleAt, excess, Piece, IsConfined, total_length, IsLeastExcess, least_above, breaks_of, Break, curve_text, Answers}
use Rattle.base.specs.declared.status.Status.TheVariants.{Done}
use Rattle.yds_examples.proofs.Tests.{Test, tests, proved}
use Rattle.yds_examples.proofs.TestedPlans.{confined}
use Rattle.yds_examples.proofs.TestedRounding.{different}
use Rattle.yds_laws.proofs.Bound.{confinement_bound}
use Rattle.yds_examples.proofs.ThreeJobs.{jobs, slots, levels, third, piece, thirds, feasible_at_each, plan}

abbrev pub bend : Fraction → Fraction → Break
bend speed excess = record { speed = speed; excess = excess }

-- The curve bends at 0, where all the work is above, and at the speeds of the levels, rising.
breaks : breaks_of levels ≡ bend (of_whole 0) (of_whole 18) ∷ bend (of_whole 1) (of_whole 6) ∷ bend (third 1 1) (third 3 1) ∷ bend (of_whole 3) (of_whole 0) ∷ []
breaks = refl

-- So this is the answer of `curve`.
pub answer : Answers (codes "curve" ∷ []) (codes "job a 0 12 4\njob b 2 10 8\njob c 4 6 6\n")
    (codes "break 0 18\nbreak 1 6\nbreak 1+1/3 3+1/3\nbreak 3 0\n") Done
unfolding digits
answer = record { slots = slots; levels = levels; plan = plan; said = refl; ended = refl }

-- Without jobs nothing is above the speed 0.
no_level : curve_text [] ≡ codes "break 0 0\n"
unfolding digits
no_level = refl

-- Between two bends the curve goes in a straight line: above 2 the first level alone does 6 less 4,
above_two : least_above 2 1 levels ≡ of_whole 2
above_two = refl

-- in lowest terms, whatever the speed's are,
above_four_halves : least_above 4 2 levels ≡ of_whole 2
above_four_halves = refl

-- and above a greater speed than each level's nothing is left.
above_four : least_above 4 1 levels ≡ of_whole 0
above_four = refl

-- at scale 3 the plan's slots are feasible
pub feasible : IsFeasibleAt jobs 3 (slots_at 3 slots)
feasible = feasible_at_each.holds 3 thirds

-- different jobs that are confined to pieces
abbrev are_confined : (members : List ℕ) (pieces : List Piece) →
    Test (AreDifferent members × All (λ number. number < 3) members × All (λ number. IsConfined (job_at jobs number) pieces) members)
are_confined members pieces = hlevel (tests, different, λ (number : ℕ). confined (job_at jobs number) pieces)

-- Different jobs confined to pieces force an excess in each feasible schedule, by trying what the confinement bound wants.
forced : (p q scale : ℕ) (others : List WholeSlot) (members : List ℕ) (pieces : List Piece) → 1 ≤ scale → IsFeasibleAt jobs scale others →
    (are_confined members pieces).passes ≡ true →
    q * scale * work_of jobs members ≤ excess p q others + p * scale * total_length pieces
forced p q scale others members pieces positive feasible passed =
    let confined = proved (are_confined members pieces) passed in
    confinement_bound jobs scale p q others members pieces positive confined.0 confined.1 confined.2 feasible

-- Above the speed 1 each feasible schedule does at least the 14 units of b and c less the 8 that their pieces take at that speed.
pub six_at_least : (scale : ℕ) (others : List WholeSlot) → 1 ≤ scale → IsFeasibleAt jobs scale others → 6 * scale ≤ excess 1 1 others
six_at_least scale others positive feasible =
    omega (arith, forced 1 1 scale others (1 ∷ 2 ∷ []) (piece 2 4 ∷ piece 4 6 ∷ piece 6 10 ∷ []) positive feasible refl)

-- The plan does just that much, so 6 is the least excess above 1.
six : IsLeastExcess jobs 1 1 (of_whole 6)
six = record {
  is_speed = omega arith;
  has_parts = omega arith;
  least = λ scale others positive feasible. omega (arith, six_at_least scale others positive feasible);
  scale = 3;
  positive = omega arith;
  slots = slots_at 3 slots;
  feasible = feasible;
  attained = refl;
}

-- Above 4/3 it is 10/3, which c alone forces: 6 units less the 8/3 that its piece takes.
above_four_thirds : IsLeastExcess jobs 4 3 (third 3 1)
above_four_thirds = record {
  is_speed = omega arith;
  has_parts = omega arith;
  least = λ scale others positive feasible.
      omega (arith, forced 4 3 scale others (2 ∷ []) (piece 4 6 ∷ []) positive feasible refl);
  scale = 3;
  positive = omega arith;
  slots = slots_at 3 slots;
  feasible = feasible;
  attained = refl;
}

-- Above 1 it isn't 5, since no feasible schedule does so little,
pub five : IsLeastExcess jobs 1 1 (of_whole 5) → ⊥
five is = absurd (omega (arith, is.positive, is.attained, six_at_least is.scale is.slots is.positive is.feasible))

-- and it isn't 7, since the plan does less.
seven : IsLeastExcess jobs 1 1 (of_whole 7) → ⊥
seven is = absurd (omega (arith, is.least 3 (slots_at 3 slots) (omega arith) feasible))

-- A fraction of no parts is none,
no_parts : IsLeastExcess jobs 1 1 (record { whole = 0; num = 0; den = 0 }) → ⊥
no_parts is = absurd (omega (arith, is.has_parts))

-- and above a speed that is none there is none.
no_speed : (x : Fraction) → IsLeastExcess jobs 1 0 x → ⊥
no_speed x is = absurd (omega (arith, is.is_speed))
