-- The excess of slots that have their levels' speeds: just what the levels above the speed force.
use Rattle.yds_model.proofs.Common.{◌≡◌, ℕ, suc, ◌+◌, ◌-◌, ◌*◌, ◌<◌, ◌≤◌, List, [], ◌∷◌, ◌∙◌, length, get_or, arith, inl, inr, ap, cond, nat_lt, All, sum_by-append, take_while-cons, All-tail, cases_lt, lt-ltb, le-ltb, mul-add, mul-le-mul_right, le_of_mul-le-mul_right, eq_of_mul-eq-mul_left, count, Each, Job, job_at, work_of, WholeSlot, work_given, Piece, total_length, Level, all_members, all_pieces, levels_above, IsNotFaster, sum_by-add, sum_by-mul, sum_by_same, sum_by_zero}
use Rattle.model_lemmas.proofs.Time.{none_times}
use Rattle.fraction_lemmas.proofs.Fractions.{at_most_still}
use Rattle.yds_laws.proofs.Group.{group, group-nil, group-append, work_served}

-- the slot has the level's speed, if its job is a member
abbrev pub FitsSlot : Level → WholeSlot → Type 0
FitsSlot level slot =
    1 ≤ count slot.job level.members → slot.work * level.length ≡ level.work * (slot.to - slot.from)

-- what a level of a proper certificate is to the slots
pub record Fits (jobs : List Job) (slots : List WholeSlot) (level : Level) : Type 0 where
  pub some_work : 1 ≤ level.work
  pub some_length : 1 ≤ level.length
  pub known : All (λ number. number < length jobs) level.members
  pub work : level.work ≡ work_of jobs level.members
  pub long : level.length ≡ total_length level.pieces
  pub speed : All (FitsSlot level) slots

-- what a slot does above p/q, weighed by q
abbrev pub term : ℕ → ℕ → WholeSlot → ℕ
term p q slot = q * slot.work - p * (slot.to - slot.from)

-- The next three are of plain numbers: a slot's work and time, how often its job stands among the members, and the
-- level's work `all` and length `long`. At the level's speed, work and time are the same share of the level's.
weighed_time : (often work time all long : ℕ) → (1 ≤ often → work * long ≡ all * time) →
    long * (often * work) ≡ all * (often * time)
weighed_time often work time all long speed = elim (cases_lt often 1) [
  | inl none ↦ omega (arith, none_times often (long * work) none, none_times often (all * time) none)
  | inr some ↦ omega (arith, ap (λ n. often * n) (speed some))
]

-- at a speed above p/q a slot's work is what it does above p/q and what it does at p/q
fast_slot : (p q often work time all long : ℕ) → (1 ≤ often → work * long ≡ all * time) → 1 ≤ long → p * long ≤ all * q →
    often * (q * work - p * time) + p * (often * time) ≡ q * (often * work)
fast_slot p q often work time all long speed some_length fast = elim (cases_lt often 1) [
  | inl none ↦ omega (
    arith,
    none_times often (q * work - p * time) none,
    none_times often (p * time) none,
    none_times often (q * work) none,
  )
  | inr some ↦
      let above : p * time ≤ q * work = le_of_mul-le-mul_right {k = long}
      (omega (arith, mul-le-mul_right time fast, ap (λ n. q * n) (speed some))) some_length in
      let parts : (q * work - p * time) + p * time ≡ q * work = omega arith in
      omega (arith, ap (λ n. often * n) parts, mul-add often (q * work - p * time) (p * time))
]

-- at a speed up to p/q a slot does nothing above p/q
slow_slot : (p q often work time all long : ℕ) → (1 ≤ often → work * long ≡ all * time) → 1 ≤ long → all * q ≤ p * long →
    often * (q * work - p * time) ≡ 0
slow_slot p q often work time all long speed some_length slow = elim (cases_lt often 1) [
  | inl none ↦ none_times often (q * work - p * time) none
  | inr some ↦
      let below : q * work ≤ p * time = le_of_mul-le-mul_right {k = long}
      (omega (arith, mul-le-mul_right time slow, ap (λ n. q * n) (speed some))) some_length in
      let nothing : q * work - p * time ≡ 0 = omega arith in
      omega (arith, ap (λ n. often * n) nothing)
]

-- speeds that don't rise don't rise after the first level
falling_tail : (level : Level) (levels : List Level) → Each (length (level ∷ levels)) (IsNotFaster (level ∷ levels)) →
    Each (length levels) (IsNotFaster levels)
falling_tail level levels falling i within last is = falling (suc i) (omega arith) (suc last) (omega arith)

-- the levels above p/q go on after one that is above it
pub above_fast : (p q : ℕ) (level : Level) (levels : List Level) → p * level.length < level.work * q →
    levels_above p q (level ∷ levels) ≡ level ∷ levels_above p q levels
above_fast p q level levels fast =
    take_while-cons (λ (one : Level). nat_lt (p * one.length) (one.work * q)) level levels
    ∙ ap (λ b. cond b (level ∷ levels_above p q levels) []) (lt-ltb _ _ fast)

-- and end before one that isn't
pub above_slow : (p q : ℕ) (level : Level) (levels : List Level) → level.work * q ≤ p * level.length →
    levels_above p q (level ∷ levels) ≡ []
above_slow p q level levels slow =
    take_while-cons (λ (one : Level). nat_lt (p * one.length) (one.work * q)) level levels
    ∙ ap (λ b. cond b (level ∷ levels_above p q levels) []) (le-ltb _ _ slow)

-- slots of whole numbers at one scale, in which each job is served
module _ (jobs : List Job) (scale : ℕ) (slots : List WholeSlot)
    (served : (number : ℕ) → number < length jobs → work_given slots number ≡ (job_at jobs number).work * scale) where
  -- a level's slots take as long as its pieces are
  pub level_time : (level : Level) → Fits jobs slots level →
      group (λ slot. slot.to - slot.from) level.members slots ≡ scale * total_length level.pieces
  level_time level fits =
      let often = λ (slot : WholeSlot). count slot.job level.members in
      eq_of_mul-eq-mul_left level.work fits.some_work _ _ (omega (
        arith,
        sum_by_same (λ slot. level.length * (often slot * slot.work))
            (λ slot. level.work * (often slot * (slot.to - slot.from))) slots
            (λ k d within. weighed_time (often (get_or slots k d)) (get_or slots k d).work
            ((get_or slots k d).to - (get_or slots k d).from) level.work level.length (fits.speed k d within)),
        sum_by-mul level.length (λ slot. often slot * slot.work) slots,
        sum_by-mul level.work (λ slot. often slot * (slot.to - slot.from)) slots,
        ap (λ n. level.length * n) (work_served jobs scale slots level.members served fits.known),
        ap (λ n. level.length * (scale * n)) fits.work,
        ap (λ n. level.work * (scale * n)) fits.long,
      ))

  module _ (p q : ℕ) where
    -- a level above p/q forces its slots' work above p/q
    fast_level : (level : Level) → Fits jobs slots level → p * level.length < level.work * q →
        group (term p q) level.members slots + p * scale * total_length level.pieces
        ≡ q * scale * work_of jobs level.members
    fast_level level fits fast =
        let often = λ (slot : WholeSlot). count slot.job level.members in
        omega (
          arith,
          sum_by_same (λ slot. often slot * term p q slot + p * (often slot * (slot.to - slot.from)))
              (λ slot. q * (often slot * slot.work)) slots
              (λ k d within. fast_slot p q (often (get_or slots k d)) (get_or slots k d).work
              ((get_or slots k d).to - (get_or slots k d).from) level.work level.length (fits.speed k d within)
              fits.some_length (omega arith)),
          sum_by-add (λ slot. often slot * term p q slot) (λ slot. p * (often slot * (slot.to - slot.from))) slots,
          sum_by-mul p (λ slot. often slot * (slot.to - slot.from)) slots,
          sum_by-mul q (λ slot. often slot * slot.work) slots,
          ap (λ n. q * n) (work_served jobs scale slots level.members served fits.known),
          ap (λ n. p * n) (level_time level fits),
        )

    -- the slots of a level that isn't above p/q do nothing above it
    slow_level : (level : Level) → Fits jobs slots level → level.work * q ≤ p * level.length →
        group (term p q) level.members slots ≡ 0
    slow_level level fits slow =
        sum_by_zero (λ slot. count slot.job level.members * term p q slot) slots
        (λ k d within. slow_slot p q (count (get_or slots k d).job level.members) (get_or slots k d).work
        ((get_or slots k d).to - (get_or slots k d).from) level.work level.length (fits.speed k d within)
        fits.some_length slow)

    -- nor do those of the levels after it
    slow_levels : (level : Level) (levels : List Level) → All (Fits jobs slots) (level ∷ levels) →
        Each (length (level ∷ levels)) (IsNotFaster (level ∷ levels)) → level.work * q ≤ p * level.length →
        group (term p q) (all_members (level ∷ levels)) slots ≡ 0
    slow_levels level [] fit falling slow =
        omega (
          arith,
          group-append (term p q) level.members [] slots,
          group-nil (term p q) slots,
          slow_level level (fit 0 level (omega arith)) slow,
        )
    slow_levels level (next ∷ levels) fit falling slow =
        omega (
          arith,
          group-append (term p q) level.members (all_members (next ∷ levels)) slots,
          slow_level level (fit 0 level (omega arith)) slow,
          slow_levels next levels (All-tail (Fits jobs slots) level (next ∷ levels) fit)
              (falling_tail level (next ∷ levels) falling)
              (at_most_still next.work next.length level.work level.length p q (fit 0 level (omega arith)).some_length
              (falling 1 (omega arith) 0 (omega arith)) slow),
        )

    -- all slots of the members do above p/q just what the levels above it force
    pub exact_levels : (levels : List Level) → All (Fits jobs slots) levels → Each (length levels) (IsNotFaster levels) →
        group (term p q) (all_members levels) slots + p * scale * total_length (all_pieces (levels_above p q levels))
        ≡ q * scale * work_of jobs (all_members (levels_above p q levels))
    exact_levels [] fit falling = omega (arith, group-nil (term p q) slots)
    exact_levels (level ∷ levels) fit falling = elim (cases_lt (p * level.length) (level.work * q)) [
      | inl fast ↦ rw (above_fast p q level levels fast) (omega (
        arith,
        group-append (term p q) level.members (all_members levels) slots,
        ap (λ n. p * scale * n) (sum_by-append (λ (piece : Piece). piece.to - piece.from) level.pieces
            (all_pieces (levels_above p q levels))),
        ap (λ n. q * scale * n) (sum_by-append (λ number. (job_at jobs number).work) level.members
            (all_members (levels_above p q levels))),
        fast_level level (fit 0 level (omega arith)) fast,
        exact_levels levels (All-tail (Fits jobs slots) level levels fit) (falling_tail level levels falling),
      ))
      | inr slow ↦ rw (above_slow p q level levels slow) (omega (arith, slow_levels level levels fit falling slow))
    ]
