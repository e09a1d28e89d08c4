-- What is written for a stretch at a scale is one: the neighbours of a speed among the hull's points are, and so is a split between them.
use Rattle.yds_model.proofs.Common.{◌≡◌, ℕ, zero, suc, ◌+◌, ◌-◌, ◌*◌, ◌<◌, ◌≤◌, List, [], ◌∷◌, ◌++◌, length, map, drop, get_or, refl, sym, ap, subst, ◌∙◌, arith, inl, inr, cases_order, cases_lt, cases_eq, eq-eqb, ne_eqb, All, Any, All-append, All-map, All-tail, All-front, All-from_get_or, get_or_default, mul-le-mul_right, mul-pos, eq_of_mul-eq-mul_right, count, count-cons, AreDifferent, Job, WholeSlot, no_slot, slot_at, Piece, Level, LiesIn, stretches, Point, point_at, no_point, AreRising, HasPointSpeed, AreNeighbours, IsSplitAt, RunsAtPoint, RunsOn, jobs_in_turn}
use Rattle.model_lemmas.proofs.Runs.{run_forward}
use Rattle.yds_energy.proofs.OneEnergy.{places_rise}
use Rattle.yds_energy.proofs.RoundedRuns.{runs_busy, runs_order, runs_within, runs_on_order}
use Rattle.yds_plan_laws.proofs.FewPieces.{different_more}
use Rattle.yds_plan_laws.proofs.FewRounded.{job_of, rest_different, first_two}
use Rattle.yds_plan_laws.proofs.FewSlots.{AreOnce}
use Rattle.yds_plan_laws.proofs.OneSplit.{Phased, ApartInPhase, phased_once}

-- # Neighbours of a speed

module _ (hull : List Point) (level : Level) (rising : AreRising hull) where
  -- a later point is no slower
  work_rises : (i k : ℕ) → i ≤ k → k < length hull → (point_at hull i).speed * level.length ≤ (point_at hull k).speed * level.length
  work_rises i k order within = elim (cases_order i k) [
    | inl same ↦ omega (arith, ap (λ n. (point_at hull n).speed * level.length) same)
    | inr (inl before) ↦
        let faster : (point_at hull i).speed ≤ (point_at hull k).speed = omega (arith, places_rise hull i k rising before within) in
        mul-le-mul_right level.length faster
    | inr (inr after) ↦ absurd (omega (arith, order, after))
  ]

  -- neighbours around the speed aren't before others
  not_before : (low high other more : Point) (first : AreNeighbours hull level low high) (second : AreNeighbours hull level other more) → first.place < second.place → ⊥
  not_before low high other more first second before = absurd (omega (
    arith,
    first.below_high,
    second.above_low,
    work_rises (first.place + 1) second.place (omega (arith, before)) (omega (arith, second.within)),
    ap (λ (point : Point). point.speed * level.length) first.is_high,
    ap (λ (point : Point). point.speed * level.length) second.is_low,
  ))

  -- so there are two of them
  pub neighbours_once : (low high other more : Point) → AreNeighbours hull level low high → AreNeighbours hull level other more → (low ≡ other) × (high ≡ more)
  neighbours_once low high other more first second =
      let place : first.place ≡ second.place = elim (cases_order first.place second.place) [
        | inl same ↦ same
        | inr (inl before) ↦ absurd (not_before low high other more first second before)
        | inr (inr after) ↦ absurd (not_before other more low high second first after)
      ] in (
        sym first.is_low ∙ ap (point_at hull) place ∙ second.is_low,
        sym first.is_high ∙ ap (λ n. point_at hull (n + 1)) place ∙ second.is_high,
      )

  -- and none where a point has the speed
  pub point_or_neighbours : (low high : Point) → Any (HasPointSpeed level) hull → AreNeighbours hull level low high → ⊥
  point_or_neighbours low high (k, point, within, is, has) around =
      let at : point_at hull k ≡ point = get_or_default hull k no_point point within ∙ is in
      elim (cases_lt around.place k) [
        | inl after ↦ absurd (omega (
          arith,
          has,
          around.below_high,
          work_rises (around.place + 1) k (omega (arith, after)) within,
          ap (λ (p : Point). p.speed * level.length) at,
          ap (λ (p : Point). p.speed * level.length) around.is_high,
        ))
        | inr by ↦ absurd (omega (
          arith,
          has,
          around.above_low,
          work_rises k around.place (omega (arith, by)) (omega (arith, around.within)),
          ap (λ (p : Point). p.speed * level.length) at,
          ap (λ (p : Point). p.speed * level.length) around.is_low,
        ))
      ]

-- # Two parts

-- slots before a time and slots from it on are parted in one way
pub parted_once : (time : ℕ) (before after others more : List WholeSlot) → All (λ slot. slot.to ≤ time) before → All (λ slot. time ≤ slot.from) after →
    All (λ slot. slot.to ≤ time) others → All (λ slot. time ≤ slot.from) more → All (λ slot. slot.from < slot.to) (before ++ after) → before ++ after ≡ others ++ more →
    (before ≡ others) × (after ≡ more)
parted_once time [] after [] more first second third fourth takes same = (refl, same)
parted_once time [] [] (slot ∷ others) more first second third fourth takes same = absurd cc
parted_once time [] (one ∷ after) (slot ∷ others) more first second third fourth takes same = absurd (omega (
  arith,
  second 0 one (omega arith),
  third 0 slot (omega arith),
  takes 0 one (omega arith),
  ap (λ (slots : List WholeSlot). (slot_at slots 0).to) same,
))
parted_once time (slot ∷ before) after [] [] first second third fourth takes same = absurd cc
parted_once time (slot ∷ before) after [] (one ∷ more) first second third fourth takes same = absurd (omega (
  arith,
  first 0 slot (omega arith),
  fourth 0 one (omega arith),
  takes 0 slot (omega arith),
  ap (λ (slots : List WholeSlot). (slot_at slots 0).from) same,
))
parted_once time (slot ∷ before) after (one ∷ others) more first second third fourth takes same =
    let head : slot ≡ one = ap (λ (slots : List WholeSlot). slot_at slots 0) same in
    let rest = parted_once time before after others more (All-tail (λ s. s.to ≤ time) slot before first) second (All-tail (λ s. s.to ≤ time) one others third) fourth
    (All-tail (λ s. s.from < s.to) slot (before ++ after) takes) (ap (drop 1) same) in
    (cc (head, rest.0), rest.1)

-- # One job once in a stretch

-- two slots of one job lie in different stretches
abbrev ComesOnce : List Job → ℕ → WholeSlot → WholeSlot → Type 0
ComesOnce jobs scale slot other = slot.job ≡ other.job → All (λ stretch. LiesIn scale slot stretch → LiesIn scale other stretch → ⊥) (stretches jobs)

-- and so do all
abbrev pub OnceEach : List Job → ℕ → List WholeSlot → Type 0
OnceEach jobs scale [] = Unit {0}
OnceEach jobs scale (slot ∷ slots) = All (ComesOnce jobs scale slot) slots × OnceEach jobs scale slots

-- those of a plan do
pub once_each : (jobs : List Job) (scale : ℕ) (slots : List WholeSlot) → AreOnce jobs scale slots → OnceEach jobs scale slots
once_each jobs scale [] once = tt
once_each jobs scale (slot ∷ slots) once = (
  All-from_get_or (ComesOnce jobs scale slot) slots no_slot (λ k within same. once 0 (suc k) (omega arith) (omega (arith, within)) same),
  once_each jobs scale slots (λ i j order within. once (suc i) (suc j) (omega (arith, order)) (omega (arith, within))),
)

-- the first of two parts,
pub once_front : (jobs : List Job) (scale : ℕ) (slots others : List WholeSlot) → OnceEach jobs scale (slots ++ others) → OnceEach jobs scale slots
once_front jobs scale [] others once = tt
once_front jobs scale (slot ∷ slots) others once = (All-front (ComesOnce jobs scale slot) slots others once.0, once_front jobs scale slots others once.1)

-- and the second
pub once_back : (jobs : List Job) (scale : ℕ) (slots others : List WholeSlot) → OnceEach jobs scale (slots ++ others) → OnceEach jobs scale others
once_back jobs scale [] others once = once
once_back jobs scale (slot ∷ slots) others once = once_back jobs scale slots others once.1

-- so the jobs of the slots of a stretch are different
pub stretch_different : (jobs : List Job) (scale : ℕ) (stretch : Piece) (slots : List WholeSlot) → (k : ℕ) → k < length (stretches jobs) → get_or (stretches jobs) k stretch ≡ stretch →
    OnceEach jobs scale slots → All (λ slot. LiesIn scale slot stretch) slots → AreDifferent (map job_of slots)
stretch_different jobs scale stretch [] k within is once lies = λ number. omega arith
stretch_different jobs scale stretch (slot ∷ slots) k within is once lies =
    different_more slot.job (map job_of slots)
    (All-map (λ job. slot.job ≡ job → ⊥) job_of slots (λ i d inside same.
    let other = get_or slots i d in
    subst (λ (piece : Piece). LiesIn scale slot piece → LiesIn scale other piece → ⊥) is (once.0 i d inside same k stretch within)
    (lies 0 slot (omega arith)) (lies (suc i) d (omega (arith, inside)))))
    (stretch_different jobs scale stretch slots k within is once.1 (All-tail (λ one. LiesIn scale one stretch) slot slots lies))

-- a job has its turn no more often than slots
turns_counted : (number : ℕ) (slots : List WholeSlot) → count number (jobs_in_turn slots) ≤ count number (map job_of slots)
turns_counted number [] = omega arith
turns_counted number (slot ∷ []) = omega arith
turns_counted number (slot ∷ next ∷ slots) = elim (cases_eq slot.job next.job) [
  | inl same ↦ rw (eq-eqb slot.job next.job same) (omega (arith, turns_counted number (next ∷ slots), count-cons number slot.job (map job_of (next ∷ slots))))
  | inr other ↦ rw (ne_eqb slot.job next.job other) (omega (
    arith,
    turns_counted number (next ∷ slots),
    count-cons number slot.job (map job_of (next ∷ slots)),
    count-cons number slot.job (jobs_in_turn (next ∷ slots)),
  ))
]

-- where nothing has its turn there is no slot
pub no_turns : (slots : List WholeSlot) → jobs_in_turn slots ≡ [] → slots ≡ []
no_turns [] none = refl
no_turns (slot ∷ []) none = absurd cc
no_turns (slot ∷ next ∷ slots) none = elim (cases_eq slot.job next.job) [
  | inl same ↦
      let rest : jobs_in_turn (next ∷ slots) ≡ [] = rw (eq-eqb slot.job next.job same) at none in
      absurd (omega (arith, ap length (no_turns (next ∷ slots) rest)))
  | inr other ↦
      let some : slot.job ∷ jobs_in_turn (next ∷ slots) ≡ [] = rw (ne_eqb slot.job next.job other) at none in
      absurd (omega (arith, ap length some))
]

-- # A split in its phases

-- at the faster point, and then on
fast_phased : (high low switch end start : ℕ) (fast slow : List WholeSlot) → 1 ≤ high → RunsAtPoint high start switch fast → Phased high low switch end switch slow →
    Phased high low switch end start (fast ++ slow)
fast_phased high low switch end start [] slow some runs rest = subst (λ n. Phased high low switch end n slow) (sym runs) rest
fast_phased high low switch end start (slot ∷ fast) slow some runs rest =
    let does : 1 ≤ high * (slot.to - slot.from) = mul-pos some (omega (arith, runs.1)) in
    (runs.0, runs.1, omega (arith, does, runs.2), inl (omega (arith, runs_busy high slot.to switch fast runs.3), runs.2), fast_phased high low switch end slot.to fast slow some runs.3 rest)

-- at the slower one
slow_phased : (high low switch end start : ℕ) (slow : List WholeSlot) → 1 ≤ low → switch ≤ start → RunsAtPoint low start end slow → Phased high low switch end start slow
slow_phased high low switch end start [] some after runs = runs
slow_phased high low switch end start (slot ∷ slow) some after runs =
    let does : 1 ≤ low * (slot.to - slot.from) = mul-pos some (omega (arith, runs.1)) in (
      runs.0,
      runs.1,
      omega (arith, does, runs.2),
      inr (omega (arith, after, runs.0), runs.2),
      slow_phased high low switch end slot.to slow some (omega (arith, after, runs.0, runs.1)) runs.3,
    )

-- where it ends: at the switch where the slower point is the idle one
abbrev last_of : ℕ → ℕ → ℕ → ℕ
last_of zero switch end = switch
last_of (suc low) switch end = end

-- at the slower one, which may be the idle one
on_phased : (high low switch end : ℕ) (slow : List WholeSlot) → RunsOn low switch end slow → Phased high low switch (last_of low switch end) switch slow
on_phased high zero switch end slow runs = subst (λ (slots : List WholeSlot). Phased high zero switch switch switch slots) (sym runs) refl
on_phased high (suc low) switch end slow runs = slow_phased high (suc low) switch end switch slow (omega arith) (omega arith) runs

-- different jobs are never neighbours
different_apart : (switch : ℕ) (slots : List WholeSlot) → AreDifferent (map job_of slots) → ApartInPhase switch slots
different_apart switch [] different = tt
different_apart switch (slot ∷ []) different = tt
different_apart switch (slot ∷ next ∷ slots) different =
    (λ same. absurd (first_two slot.job next.job (map job_of slots) different same), different_apart switch (next ∷ slots) (rest_different slot.job (map job_of (next ∷ slots)) different))

-- and of two parts the first ends at the switch
joined_apart : (speed start switch : ℕ) (fast slow : List WholeSlot) → RunsAtPoint speed start switch fast → AreDifferent (map job_of fast) → AreDifferent (map job_of slow) →
    ApartInPhase switch (fast ++ slow)
joined_apart speed start switch [] slow runs first second = different_apart switch slow second
joined_apart speed start switch (slot ∷ []) [] runs first second = tt
joined_apart speed start switch (slot ∷ []) (next ∷ slow) runs first second = (λ same. runs.3, different_apart switch (next ∷ slow) second)
joined_apart speed start switch (slot ∷ next ∷ fast) slow runs first second = (
  λ same. absurd (first_two slot.job next.job (map job_of fast) first same),
  joined_apart speed slot.to switch (next ∷ fast) slow runs.3 (rest_different slot.job (map job_of (next ∷ fast)) first) second,
)

-- # A split is one

-- both its parts are
pub split_once : (scale : ℕ) (level : Level) (low high : Point) (stretch : Piece) (planned fast slow others more : List WholeSlot) → 1 ≤ level.length → low.speed < high.speed →
    AreDifferent (map job_of planned) → AreDifferent (map job_of fast) → AreDifferent (map job_of slow) → AreDifferent (map job_of others) → AreDifferent (map job_of more) →
    IsSplitAt scale level low high stretch planned fast slow → IsSplitAt scale level low high stretch planned others more → (fast ≡ others) × (slow ≡ more)
split_once scale level low high stretch planned fast slow others more some faster different fasts slows quicks lates first second =
    let gap : 1 ≤ high.speed - low.speed = omega (arith, faster) in
    let time : first.time ≡ second.time = eq_of_mul-eq-mul_right (level.length * (high.speed - low.speed)) (mul-pos some gap) first.time second.time
    (first.is_time ∙ sym second.is_time) in
    let start : ℕ = stretch.from * scale in
    let end : ℕ = stretch.to * scale in
    let switch : ℕ = start + first.time in
    let runs : RunsAtPoint high.speed start switch others = subst (λ (n : ℕ). RunsAtPoint high.speed start (start + n) others) (sym time) second.first in
    let on : RunsOn low.speed switch end more = subst (λ (n : ℕ). RunsOn low.speed (start + n) end more) (sym time) second.then_slow in
    let turns : (some : List WholeSlot) → jobs_in_turn some ≡ jobs_in_turn planned → AreDifferent (jobs_in_turn some) =
    λ some same number. omega (arith, ap (count number) same, turns_counted number planned, different number) in
    let whole : fast ++ slow ≡ others ++ more = phased_once high.speed low.speed switch (last_of low.speed switch end) start (fast ++ slow) (others ++ more)
    (fast_phased high.speed low.speed switch (last_of low.speed switch end) start fast slow (omega (arith, faster)) first.first (on_phased high.speed low.speed switch end slow first.then_slow))
    (fast_phased high.speed low.speed switch (last_of low.speed switch end) start others more (omega (arith, faster)) runs (on_phased high.speed low.speed switch end more on))
    (joined_apart high.speed start switch fast slow first.first fasts slows) (joined_apart high.speed start switch others more runs quicks lates)
    (turns (fast ++ slow) first.same_order) (turns (others ++ more) second.same_order) (first.same_order ∙ sym second.same_order)
    (λ job. first.same_work job ∙ sym (second.same_work job)) in
    let fast_in = runs_within high.speed start switch fast first.first in
    let slow_in = runs_on_order low.speed switch end slow first.then_slow in
    let others_in = runs_within high.speed start switch others runs in
    let more_in = runs_on_order low.speed switch end more on in
    parted_once switch fast slow others more (λ k d within. (fast_in k d within).1) (λ k d within. (slow_in.1 k d within).0) (λ k d within. (others_in k d within).1)
    (λ k d within. (more_in.1 k d within).0)
    (All-append (λ slot. slot.from < slot.to) fast slow (run_forward start fast (runs_order high.speed start switch fast first.first)) (run_forward switch slow slow_in.0)) whole
