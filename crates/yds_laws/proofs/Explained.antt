-- A proper certificate explains its schedule.
use Rattle.yds_model.proofs.Common.{◌≡◌, ℕ, ◌-◌, ◌*◌, ◌<◌, ◌≤◌, ◌==◌, List, length, get_or, take, drop, arith, inl, inr, ap, eq-eqb, cond, nat_lt, All, prefix_len, take-append-drop, length-map, flat_map-append, sum_by-append, get_or-le-sum_by, prefix_len-le-length, All-contains, All-from_get_or, cases_lt, count, AreDifferent, Each, Job, job_at, WholeSlot, no_slot, slots_at, slot_at, slot_at_scale, work_given, IsFeasibleAt, excess, Level, no_level, level_at, all_members, ExplainsAt, PiecesStand, StandsOnce, SumsAgree, IsNotFaster, IsWindowCovered, HasLevelSpeed, AreLevels, sum_by_same, counted_contains}
use Rattle.model_lemmas.proofs.Front.{front_at}
use Rattle.yds_laws.specs.Laws.{ProperExplains}
use Rattle.yds_laws.proofs.Group.{group}
use Rattle.yds_laws.proofs.Exact.{Fits, FitsSlot, term, exact_levels}

-- a number stands in a front of the levels at most as often as in all
front_count : (levels : List Level) (n number : ℕ) →
    count number (all_members (take n levels)) ≤ count number (all_members levels)
front_count levels n number =
    omega (
      arith,
      sum_by-append (λ other. cond (number == other) 1 0) (all_members (take n levels)) (all_members (drop n levels)),
      ap (count number) (flat_map-append (λ (level : Level). level.members) (take n levels) (drop n levels)),
      ap (λ some. count number (all_members some)) (take-append-drop n levels),
    )

-- one of a job's slots has at most the job's work
slot_within : (slots : List WholeSlot) (k : ℕ) (d : WholeSlot) → k < length slots →
    (get_or slots k d).work ≤ work_given slots (get_or slots k d).job
slot_within slots k d within = grind (arith, eq-eqb, get_or-le-sum_by)

-- a slot of a job of no work does nothing above a speed, however often it is counted
no_term : (p q work time given wanted scale often : ℕ) → work ≤ given → given ≡ wanted * scale → wanted < 1 →
    q * work - p * time ≡ often * (q * work - p * time)
no_term p q work time given wanted scale often within served none =
    let wants : wanted ≡ 0 = omega arith in
    let gets : work ≡ 0 = omega (arith, ap (λ n. n * scale) wants) in
    let nothing : q * work - p * time ≡ 0 = omega (arith, ap (λ n. q * n) gets) in
    omega (arith, ap (λ n. often * n) nothing)

-- All that a certificate's conditions say of one scale.
module _ (jobs : List Job) (levels : List Level) (scale : ℕ) (slots : List WholeSlot) (are : AreLevels jobs levels)
    (feasible : IsFeasibleAt jobs scale slots) (members : Each (length jobs) (StandsOnce jobs levels)) where
  -- each slot's job stands once among all members, or has no work: so their slots' excess is the whole
  excess_shared : (p q : ℕ) → excess p q slots ≡ group (term p q) (all_members levels) slots
  excess_shared p q = sum_by_same (term p q) (λ slot. count slot.job (all_members levels) * term p q slot) slots each where
    -- each slot by itself
    each : All (λ slot. term p q slot ≡ count slot.job (all_members levels) * term p q slot) slots
    each k d within =
        let slot = get_or slots k d in
        let known = (feasible.in_windows k d within).known in
        elim (cases_lt (job_at jobs slot.job).work 1) [
          | inl none ↦ no_term p q slot.work (slot.to - slot.from) (work_given slots slot.job)
              (job_at jobs slot.job).work scale (count slot.job (all_members levels)) (slot_within slots k d within)
              (feasible.served slot.job known) none
          | inr some ↦ omega (arith, ap (λ n. n * term p q slot) ((members slot.job known).with_work some))
        ]

  -- a front's members are different
  pub front_different : (n : ℕ) → All (λ number. number < length jobs) (all_members (take n levels)) →
      AreDifferent (all_members (take n levels))
  front_different n known number = elim (cases_lt (count number (all_members (take n levels))) 1) [
    | inl none ↦ omega arith
    | inr some ↦ omega (
      arith,
      front_count levels n number,
      (members number (All-contains (λ one. one < length jobs) (all_members (take n levels)) number known
          (counted_contains number (all_members (take n levels)) some))).at_most_once,
    )
  ]

  -- each level fits its slots
  pub levels_fit : Each (length levels) (SumsAgree jobs levels) → Each (length slots) (HasLevelSpeed levels slots) →
      All (Fits jobs slots) levels
  levels_fit sums speeds = All-from_get_or (Fits jobs slots) levels no_level (λ i within. record {
    some_work = (are.positive i no_level within).0;
    some_length = (are.positive i no_level within).1;
    known = are.known i no_level within;
    work = (sums i within).work;
    long = (sums i within).length;
    speed = All-from_get_or (FitsSlot (level_at levels i)) slots no_slot (λ s inside often.
        speeds s inside i within (counted_contains (slot_at slots s).job (level_at levels i).members often));
  })

  -- so at one scale the levels above each speed force the excess
  proper_explains_at : Each (length levels) (PiecesStand levels) → Each (length levels) (SumsAgree jobs levels) →
      Each (length levels) (IsNotFaster levels) → Each (length jobs) (IsWindowCovered jobs levels) →
      Each (length slots) (HasLevelSpeed levels slots) → ExplainsAt jobs scale slots levels
  proper_explains_at pieces sums order windows speeds = record {
    feasible = feasible;
    forced = λ p q positive.
        let n = prefix_len (λ (level : Level). nat_lt (p * level.length) (level.work * q)) levels in
        let front = front_at jobs levels are pieces windows n (prefix_len-le-length _ levels) in
        record {
          known = front.known;
          different = front_different n front.known;
          disjoint = record { forward = front.forward; apart = front.apart };
          confined = front.confined;
          exact = omega (
            arith,
            excess_shared p q,
            exact_levels jobs scale slots feasible.served p q levels (levels_fit sums speeds) order,
          );
        };
  }

-- and at each scale of the schedule
pub proper_explains : ProperExplains
proper_explains jobs slots levels proper = record {
  solid = proper.feasible.solid;
  holds = λ scale divided.
      proper_explains_at jobs levels scale (slots_at scale slots) proper.well_formed (proper.feasible.holds scale divided)
      proper.members proper.pieces proper.sums proper.order proper.windows
      (λ s within. proper.speeds scale divided s (rw (length-map slots (slot_at_scale scale)) at within));
}
