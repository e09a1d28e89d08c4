-- In a stretch a split has at most one slot more than the plan: the jobs run in the plan's order, at each of the two points each at most once,
-- so but for the switch from the one to the other no job runs on.
use Rattle.yds_model.proofs.Common.{◌≡◌, ℕ, ◌+◌, ◌<◌, ◌≤◌, ◌==◌, List, [], ◌∷◌, ◌++◌, length, map, refl, ap, arith, inl, inr, cond, cases_lt, if◌then◌else◌, Bool, true, false, AreDifferent, count-cons, eq-eqb, ne_eqb, length-map, length-append, Job, WrittenSlot, WholeSlot, slot_at_scale, slots_at, Point, hull_of, Level, Piece, stretches, RoundsStretches, RoundsStretch, SplitsStretch, jobs_in_turn}
use Rattle.model_lemmas.proofs.Scale.{scale_exists}
use Rattle.yds_events.proofs.Times.{few_times}
use Rattle.yds_events.proofs.Neighbours.{count_stretches}
use Rattle.yds_plan_laws.proofs.FewSlots.{plan_slots_are_few}
use Rattle.yds_plan_laws.specs.CountLaws.{RoundedSlotsAreFew}

-- # Jobs in turn

-- a slot's job
abbrev pub job_of : WholeSlot → ℕ
job_of slot = slot.job

-- each slot adds a job or none
turn_adds : (same : Bool) (job : ℕ) (jobs : List ℕ) → (length jobs ≤ length (if same then jobs else job ∷ jobs)) × (length (if same then jobs else job ∷ jobs) ≤ length jobs + 1)
turn_adds true job jobs = (omega arith, omega arith)
turn_adds false job jobs = (omega arith, omega arith)

-- so there are no more of them than slots
turns_few : (slots : List WholeSlot) → length (jobs_in_turn slots) ≤ length slots
turns_few [] = omega arith
turns_few (slot ∷ []) = omega arith
turns_few (slot ∷ next ∷ slots) = omega (arith, (turn_adds (slot.job == next.job) slot.job (jobs_in_turn (next ∷ slots))).1, turns_few (next ∷ slots))

-- different jobs stay different without the first
pub rest_different : (job : ℕ) (jobs : List ℕ) → AreDifferent (job ∷ jobs) → AreDifferent jobs
rest_different job jobs different number = omega (arith, different number, count-cons number job jobs)

-- and the first two of them are not the same
pub first_two : (one other : ℕ) (jobs : List ℕ) → AreDifferent (one ∷ other ∷ jobs) → one ≡ other → ⊥
first_two one other jobs different same =
    absurd (omega (
      arith,
      different one,
      count-cons one one (other ∷ jobs),
      count-cons one other jobs,
      ap {B = ℕ} (λ b. cond b 1 0) (eq-eqb one one refl),
      ap {B = ℕ} (λ b. cond b 1 0) (eq-eqb one other same),
    ))

-- slots of different jobs have as many
turns_all : (slots : List WholeSlot) → AreDifferent (map job_of slots) → length slots ≤ length (jobs_in_turn slots)
turns_all [] different = omega arith
turns_all (slot ∷ []) different = omega arith
turns_all (slot ∷ next ∷ slots) different =
    rw (ne_eqb slot.job next.job (first_two slot.job next.job (map job_of slots) different))
    (omega (arith, turns_all (next ∷ slots) (rest_different slot.job (map job_of (next ∷ slots)) different)))

-- and two such lists have at most one fewer together
turns_joined : (fast slow : List WholeSlot) → AreDifferent (map job_of fast) → AreDifferent (map job_of slow) →
    length fast + length slow ≤ length (jobs_in_turn (fast ++ slow)) + 1
turns_joined [] slow first second = omega (arith, turns_all slow second)
turns_joined (slot ∷ []) [] first second = omega arith
turns_joined (slot ∷ []) (next ∷ slow) first second =
    omega (arith, (turn_adds (slot.job == next.job) slot.job (jobs_in_turn (next ∷ slow))).0, turns_all (next ∷ slow) second)
turns_joined (slot ∷ next ∷ fast) slow first second =
    rw (ne_eqb slot.job next.job (first_two slot.job next.job (map job_of fast) first))
    (omega (arith, turns_joined (next ∷ fast) slow (rest_different slot.job (map job_of (next ∷ fast)) first) second))

-- # One stretch

-- the jobs of slots at a scale are those that are written
pub jobs_written : (scale : ℕ) (slots : List WrittenSlot) → map job_of (slots_at scale slots) ≡ map (λ slot. slot.job) slots
jobs_written scale [] = refl
jobs_written scale (slot ∷ slots) = ap (λ (jobs : List ℕ). slot.job ∷ jobs) (jobs_written scale slots)

-- so a split has at most one slot more, at a scale that there is
split_few : (hull : List Point) (level : Level) (stretch : Piece) (planned written : List WrittenSlot) → SplitsStretch hull level stretch planned written →
    length written ≤ length planned + 1
split_few hull level stretch planned written split =
    let scale = scale_exists (planned ++ split.fast ++ split.slow) split.split.solid in
    let at = split.split.holds scale.0 scale.1 in
    omega (
      arith,
      ap length split.parts,
      length-append split.fast split.slow,
      length-map split.fast (slot_at_scale scale.0),
      length-map split.slow (slot_at_scale scale.0),
      length-map planned (slot_at_scale scale.0),
      turns_joined (slots_at scale.0 split.fast) (slots_at scale.0 split.slow) (rw (jobs_written scale.0 split.fast) split.fast_once)
          (rw (jobs_written scale.0 split.slow) split.slow_once),
      ap length at.same_order,
      turns_few (slots_at scale.0 planned),
    )

-- and a stretch that isn't split has as many as before
stretch_few : (hull : List Point) (levels : List Level) (stretch : Piece) (planned written : List WrittenSlot) → RoundsStretch hull levels stretch planned written →
    length written ≤ length planned + 1
stretch_few hull levels stretch planned written (inl (none, nothing)) = rw nothing (omega arith)
stretch_few hull levels stretch planned written (inr (level, has, members, inl kept)) = rw kept.kept (omega arith)
stretch_few hull levels stretch planned written (inr (level, has, members, inr split)) = split_few hull level stretch planned written split

-- # All stretches

-- so there is at most one more for each stretch
rounded_few : (hull : List Point) (levels : List Level) (pieces : List Piece) (planned written : List WrittenSlot) → RoundsStretches hull levels pieces planned written →
    length written ≤ length planned + length pieces
rounded_few hull levels [] planned written (none, nothing) = rw nothing (omega arith)
rounded_few hull levels (stretch ∷ pieces) planned written (here, later, made, made_later, parts, made_parts, lies, rounds, rest) =
    omega (
      arith,
      ap length parts,
      ap length made_parts,
      length-append here later,
      length-append made made_later,
      stretch_few hull levels stretch here made rounds,
      rounded_few hull levels pieces later made_later rest,
    )

-- no jobs have no stretches
no_stretches : (jobs : List Job) → length jobs < 1 → length (stretches jobs) ≡ 0
no_stretches [] none = refl
no_stretches (job ∷ jobs) none = absurd (omega (arith, none))

-- the law, with as many stretches as there are at most
pub rounded_slots_are_few : RoundedSlotsAreFew
rounded_slots_are_few jobs points planned written levels energy plan rounding =
    elim (cases_lt (length jobs) 1) [
      | inl none ↦ omega (
        arith,
        none,
        rounded_few (hull_of points) levels (stretches jobs) planned written rounding.rounds,
        plan_slots_are_few jobs planned levels plan,
        no_stretches jobs none,
      )
      | inr some ↦ omega (
        arith,
        some,
        rounded_few (hull_of points) levels (stretches jobs) planned written rounding.rounds,
        plan_slots_are_few jobs planned levels plan,
        count_stretches jobs some,
        few_times jobs,
      )
    ]
