-- Runs of both parts, one after another: in order of the earliest deadline, each slot in a stretch, once for a job and stretch, and in
-- each stretch what the part's run serves there.
use Rattle.yds_model.proofs.Common.{◌≡◌, ℕ, zero, suc, ◌+◌, ◌-◌, ◌*◌, ◌<◌, ◌≤◌, List, [], ◌∷◌, ◌++◌, length, map, get_or, sym, ap, subst, ◌∙◌, arith, inl, inr, append_assoc, All, Any, mul-le-mul_right, cases_lt, append-nil, map-append, length-append, length-map, get_or-map, get_or_append_left, get_or-append-add, All-head, All-tail, All-append, All-map, Job, no_job, job_at, WholeSlot, work_given, slot_at, no_slot, Piece, IsInWindow, IsFeasibleAt, stretches, LiesIn, IsUncut, ComesFirst, MayRun, IsFirstDue, EarliestAfter, IsServedInStretches, slots_in, FillsAtSpeed, ServesCapacity, IsRunAt, Any-append_left, Any-append_right}
use Rattle.model_lemmas.proofs.Runs.{run_forward}
use Rattle.yds_parts.specs.Parts.{ArePartedAt, moved, together_at, WindowsAreForward}
use Rattle.yds_parts.proofs.TwoParts.{first_job, second_job, ends_by, only_first, only_second, feasible_together}
use Rattle.yds_parts.proofs.EventsOfParts.{IsGap, EndsBy, BeginsFrom, stretches_between, stretches_joined, gaps_are, first_stretches, second_stretches}
use Rattle.yds_parts.proofs.StretchesOfParts.{beside_apart, first_before_gap, first_before_second, second_after_gap, second_after_first, in_first, in_second, in_gap}

-- # Capacities

-- what is served is told by the slots in the stretch
serves_same : (grid scale capacity : ℕ) (stretch : Piece) (slots all : List WholeSlot) → slots_in scale stretch all ≡ slots_in scale stretch slots →
    ServesCapacity grid scale capacity stretch slots → ServesCapacity grid scale capacity stretch all
serves_same grid scale zero stretch slots all same serves = same ∙ serves
serves_same grid scale (suc capacity) stretch slots all same serves =
    subst (λ (here : List WholeSlot). FillsAtSpeed (suc capacity) (grid * (stretch.to - stretch.from) * scale) (stretch.from * scale) (stretch.to * scale) here) (sym same) serves

-- moved slots fill as much
fills_moved : (n capacity per from to : ℕ) (slots : List WholeSlot) → FillsAtSpeed capacity per from to slots → FillsAtSpeed capacity per from to (map (moved n) slots)
fills_moved n capacity per from to [] fills = fills
fills_moved n capacity per from to (slot ∷ slots) fills = (fills.0, fills.1, fills_moved n capacity per slot.to to slots fills.2)

-- so moved slots serve as much
serves_moved : (n grid scale capacity : ℕ) (stretch : Piece) (slots all : List WholeSlot) → slots_in scale stretch all ≡ map (moved n) (slots_in scale stretch slots) →
    ServesCapacity grid scale capacity stretch slots → ServesCapacity grid scale capacity stretch all
serves_moved n grid scale zero stretch slots all same serves = same ∙ ap (map (moved n)) serves
serves_moved n grid scale (suc capacity) stretch slots all same serves =
    subst (λ (here : List WholeSlot). FillsAtSpeed (suc capacity) (grid * (stretch.to - stretch.from) * scale) (stretch.from * scale) (stretch.to * scale) here) (sym same)
    (fills_moved n (suc capacity) _ _ _ (slots_in scale stretch slots) serves)

-- # A later part of a list

-- what one fact gives of some element, another does too
any_same : {X : Type 0} (P Q : X → Type 0) (xs : List X) → ((x : X) → P x → Q x) → Any P xs → Any Q xs
any_same P Q xs same some = (some.0, some.1, some.2, some.3, same some.1 some.4)

-- # The two parts

module _ (time scale : ℕ) (first second : List Job) (parted : ArePartedAt time first second) (first_windows : WindowsAreForward first) (second_windows : WindowsAreForward second)
    (slots others : List WholeSlot) (one : IsFeasibleAt first scale slots) (other : IsFeasibleAt second scale others) where
  abbrev jobs : List Job
  jobs = first ++ second

  abbrev all : List WholeSlot
  all = together_at first slots others

  abbrev n : ℕ
  n = length first

  abbrev later : List WholeSlot
  later = map (moved n) others

  -- # Order

  -- a second job may not run as a slot of the first begins
  too_early : (slot : WholeSlot) (k : ℕ) → IsInWindow first scale slot → slot.from < slot.to → k < length second →
      (job_at jobs (n + k)).release * scale ≤ slot.from → ⊥
  too_early slot k window takes known released =
      let ends = ends_by time scale first second parted slot window in
      let begins = mul-le-mul_right scale (parted.after k no_job known) in
      absurd (omega (arith, ends, takes, begins, released, ap (λ (job : Job). job.release * scale) (second_job time scale first second parted k)))

  -- what comes first among the first jobs comes first among all
  first_due : (before : List WholeSlot) (slot : WholeSlot) → IsInWindow first scale slot → slot.from < slot.to → IsFirstDue first scale before slot →
      IsFirstDue jobs scale before slot
  first_due before slot window takes due =
      let own = first_job time scale first second parted slot.job window.known in
      record {
        may_run = record {
          released = subst (λ (job : Job). job.release * scale ≤ slot.from) (sym own) due.may_run.released;
          pending = subst (λ (job : Job). work_given before slot.job < job.work * scale) (sym own) due.may_run.pending;
        };
        first = λ number known may. elim (cases_lt number n) [
          | inl early ↦
              let its = first_job time scale first second parted number early in
              let comes = due.first number early (record {
                released = subst (λ (job : Job). job.release * scale ≤ slot.from) its may.released;
                pending = subst (λ (job : Job). work_given before number < job.work * scale) its may.pending;
              }) in
              elim comes [
                | inl less ↦ inl (omega (arith, less, ap (λ (job : Job). job.deadline) own, ap (λ (job : Job). job.deadline) its))
                | inr same ↦ inr (omega (arith, same.0, ap (λ (job : Job). job.deadline) own, ap (λ (job : Job). job.deadline) its), same.1)
              ]
          | inr late ↦
              let place : n + (number - n) ≡ number = omega (arith, late) in
              absurd (too_early slot (number - n) window takes (omega (arith, late, known, length-append first second))
              (subst (λ i. (job_at jobs i).release * scale ≤ slot.from) (sym place) may.released))
        ];
      }

  -- so the first jobs' slots are in order
  earliest_first_part : (before after : List WholeSlot) → All (IsInWindow first scale) after → All (λ slot. slot.from < slot.to) after →
      EarliestAfter first scale before after → EarliestAfter jobs scale (before ++ after) later → EarliestAfter jobs scale before (after ++ later)
  earliest_first_part before [] windows takes earliest rest = subst (λ (done : List WholeSlot). EarliestAfter jobs scale done later) (append-nil before) rest
  earliest_first_part before (slot ∷ after) windows takes earliest rest = (
    first_due before slot (All-head (IsInWindow first scale) slot after windows) (All-head (λ slot. slot.from < slot.to) slot after takes) earliest.0,
    earliest_first_part (before ++ slot ∷ []) after (All-tail (IsInWindow first scale) slot after windows) (All-tail (λ slot. slot.from < slot.to) slot after takes)
        earliest.1 (subst (λ (done : List WholeSlot). EarliestAfter jobs scale done later) (sym (append_assoc before (slot ∷ []) after)) rest),
  )

  -- slots of the first jobs give the second nothing
  given_second : (before : List WholeSlot) (k : ℕ) → work_given (together_at first slots before) (n + k) ≡ work_given before k
  given_second before k = only_second time scale first second parted slots before k (λ i d within. (one.in_windows i d within).known)

  -- as the second run, the first are done: so what comes first among the second comes first
  second_due : (before : List WholeSlot) (slot : WholeSlot) → IsFirstDue second scale before slot → IsFirstDue jobs scale (together_at first slots before) (moved n slot)
  second_due before slot due =
      let own = second_job time scale first second parted slot.job in
      record {
        may_run = record {
          released = subst (λ (job : Job). job.release * scale ≤ slot.from) (sym own) due.may_run.released;
          pending = subst (λ (job : Job). work_given (together_at first slots before) (n + slot.job) < job.work * scale) (sym own)
              (omega (arith, due.may_run.pending, given_second before slot.job));
        };
        first = λ number known may. elim (cases_lt number n) [
          | inl early ↦ absurd (omega (
            arith,
            may.pending,
            only_first time scale first second parted slots before number early,
            one.served number early,
            ap (λ (job : Job). job.work * scale) (first_job time scale first second parted number early),
          ))
          | inr late ↦
              let place : n + (number - n) ≡ number = omega (arith, late) in
              subst (λ i. ComesFirst jobs (n + slot.job) i) place
              (second_comes before slot (number - n) due (omega (arith, late, known, length-append first second))
              (subst (λ i. MayRun jobs scale slot.from (together_at first slots before) i) (sym place) may))
        ];
      }
    where
      second_comes : (before : List WholeSlot) (slot : WholeSlot) (k : ℕ) → IsFirstDue second scale before slot → k < length second →
          MayRun jobs scale slot.from (together_at first slots before) (n + k) → ComesFirst jobs (n + slot.job) (n + k)
      second_comes before slot k due known may =
          let own = second_job time scale first second parted slot.job in
          let its = second_job time scale first second parted k in
          let comes = due.first k known (record {
            released = subst (λ (job : Job). job.release * scale ≤ slot.from) its may.released;
            pending = omega (arith, may.pending, given_second before k, ap (λ (job : Job). job.work * scale) its);
          }) in
          elim comes [
            | inl less ↦ inl (omega (arith, less, ap (λ (job : Job). job.deadline) own, ap (λ (job : Job). job.deadline) its))
            | inr same ↦ inr (omega (arith, same.0, ap (λ (job : Job). job.deadline) own, ap (λ (job : Job). job.deadline) its), omega (arith, same.1))
          ]

  -- and their slots are in order
  earliest_second_part : (before after : List WholeSlot) → EarliestAfter second scale before after → EarliestAfter jobs scale (together_at first slots before) (map (moved n) after)
  earliest_second_part before [] earliest = tt
  earliest_second_part before (slot ∷ after) earliest = (
    second_due before slot earliest.0,
    subst (λ (done : List WholeSlot). EarliestAfter jobs scale done (map (moved n) after))
        (ap (λ (rest : List WholeSlot). slots ++ rest) (map-append (moved n) before (slot ∷ [])) ∙ sym (append_assoc slots (map (moved n) before) (moved n slot ∷ [])))
        (earliest_second_part (before ++ slot ∷ []) after earliest.1),
  )

  -- # Stretches

  -- what holds of each stretch of the parts and between them holds of each stretch
  pub each_stretch : (P : Piece → Type 0) → All P (stretches first) → All P (stretches_between first second) → All P (stretches second) → All P (stretches jobs)
  each_stretch P earlier between after =
      subst (All P) (sym (stretches_joined time first second parted first_windows second_windows))
      (All-append P (stretches first) (stretches_between first second ++ stretches second) earlier (All-append P (stretches_between first second) (stretches second) between after))

  -- each slot lies in one stretch
  uncut_together : All (IsUncut first scale) slots → All (IsUncut second scale) others → All (IsUncut jobs scale) all
  uncut_together uncut others_uncut =
      let joined = stretches_joined time first second parted first_windows second_windows in
      let back = stretches_between first second ++ stretches second in
      All-append (IsUncut jobs scale) slots later
      (λ k d within. subst (Any (LiesIn scale (get_or slots k d))) (sym joined) (Any-append_left (LiesIn scale (get_or slots k d)) (stretches first) back (uncut k d within)))
      (All-map (IsUncut jobs scale) (moved n) others (λ k d within.
      let slot = get_or others k d in
      subst (Any (LiesIn scale (moved n slot))) (sym joined)
      (Any-append_right (LiesIn scale (moved n slot)) (stretches first) back (Any-append_right (LiesIn scale (moved n slot)) (stretches_between first second) (stretches second)
      (any_same (LiesIn scale slot) (LiesIn scale (moved n slot)) (stretches second) (λ stretch lies. record { from = lies.from; to = lies.to }) (others_uncut k d within))))))

  -- the slot at a place among the first
  read_first : (i : ℕ) → i < length slots → slot_at all i ≡ slot_at slots i
  read_first i within = get_or_append_left slots later no_slot i within

  -- and among the second
  read_second : (i : ℕ) → i < length others → slot_at all (length slots + i) ≡ moved n (slot_at others i)
  read_second i within = get_or-append-add slots later i no_slot ∙ get_or-map (moved n) others i no_slot no_slot within

  -- the slots at these places don't lie in one stretch, where they are of one job
  abbrev AreOnce : ℕ → ℕ → Type 0
  AreOnce i j = (slot_at all i).job ≡ (slot_at all j).job → All (λ stretch. LiesIn scale (slot_at all i) stretch → LiesIn scale (slot_at all j) stretch → ⊥) (stretches jobs)

  -- two slots of the first jobs
  once_first : (i j : ℕ) → i < j → j < length slots → IsServedInStretches first scale slots → AreOnce i j
  once_first i j order within served =
      rw (read_first i (omega (arith, order, within)), read_first j within) (λ same.
      each_stretch (λ stretch. LiesIn scale (slot_at slots i) stretch → LiesIn scale (slot_at slots j) stretch → ⊥)
      (served.once i j order within same)
      (λ k d inside lies also. beside_apart scale (get_or (stretches_between first second) k d) (slot_at slots j)
      (first_before_gap time scale first second parted slots others one other (get_or (stretches_between first second) k d)
      (gaps_are time first second parted first_windows second_windows k d inside) j no_slot within) also)
      (λ k d inside lies also. beside_apart scale (get_or (stretches second) k d) (slot_at slots j)
      (first_before_second time scale first second parted slots others one other (get_or (stretches second) k d)
      (second_stretches time first second parted first_windows second_windows k d inside) j no_slot within) also))

  -- two of the second
  once_second : (i j : ℕ) → i < j → j < length others → IsServedInStretches second scale others → AreOnce (length slots + i) (length slots + j)
  once_second i j order within served =
      rw (read_second i (omega (arith, order, within)), read_second j within) (λ same.
      each_stretch (λ stretch. LiesIn scale (moved n (slot_at others i)) stretch → LiesIn scale (moved n (slot_at others j)) stretch → ⊥)
      (λ k d inside lies also. beside_apart scale (get_or (stretches first) k d) (slot_at others j)
      (second_after_first time scale first second parted slots others one other (get_or (stretches first) k d)
      (first_stretches time first second parted first_windows second_windows k d inside) j no_slot within) (record { from = also.from; to = also.to }))
      (λ k d inside lies also. beside_apart scale (get_or (stretches_between first second) k d) (slot_at others j)
      (second_after_gap time scale first second parted slots others one other (get_or (stretches_between first second) k d)
      (gaps_are time first second parted first_windows second_windows k d inside) j no_slot within) (record { from = also.from; to = also.to }))
      (λ k d inside lies also. served.once i j order within (omega (arith, same)) k d inside
      (record { from = lies.from; to = lies.to }) (record { from = also.from; to = also.to })))

  -- and any two
  once_together : IsServedInStretches first scale slots → IsServedInStretches second scale others → (i j : ℕ) → i < j → j < length all → AreOnce i j
  once_together served others_served i j order within =
      let long : j < length slots + length others = omega (arith, within, length-append slots later, length-map others (moved n)) in
      elim (cases_lt j (length slots)) [
        | inl early ↦ once_first i j order early served
        | inr late ↦ elim (cases_lt i (length slots)) [
          | inl first_one ↦
              let place : length slots + (j - length slots) ≡ j = omega (arith, late) in
              λ same. absurd (omega (
                arith,
                same,
                (one.in_windows i no_slot first_one).known,
                ap (λ (slot : WholeSlot). slot.job) (read_first i first_one),
                ap (λ k. (slot_at all k).job) place,
                ap (λ (slot : WholeSlot). slot.job) (read_second (j - length slots) (omega (arith, late, long))),
              ))
          | inr second_one ↦
              let place : length slots + (j - length slots) ≡ j = omega (arith, late) in
              let other_place : length slots + (i - length slots) ≡ i = omega (arith, second_one) in
              subst (λ a. AreOnce a j) other_place (subst (λ b. AreOnce (length slots + (i - length slots)) b) place
              (once_second (i - length slots) (j - length slots) (omega (arith, order, second_one)) (omega (arith, late, long)) others_served))
        ]
      ]

  -- so all are served in stretches
  served_together : IsServedInStretches first scale slots → IsServedInStretches second scale others → IsServedInStretches jobs scale all
  served_together served others_served = record {
    earliest_first = earliest_first_part [] slots one.in_windows (run_forward 0 slots one.one_at_a_time) served.earliest_first
        (subst (λ (done : List WholeSlot). EarliestAfter jobs scale done later) (append-nil slots) (earliest_second_part [] others others_served.earliest_first));
    uncut = uncut_together served.uncut others_served.uncut;
    once = λ i j order within. once_together served others_served i j order within;
  }

  -- # Runs

  -- in each part a run serves what its policy sets there, and between the two nothing
  pub run_together : (grid : ℕ) (capacity earlier after : Piece → ℕ) → ((stretch : Piece) → EndsBy time stretch → capacity stretch ≡ earlier stretch) →
      ((stretch : Piece) → BeginsFrom time stretch → capacity stretch ≡ after stretch) → ((stretch : Piece) → IsGap first second stretch → capacity stretch ≡ 0) →
      IsRunAt first grid scale earlier slots → IsRunAt second grid scale after others → IsRunAt jobs grid scale capacity all
  run_together grid capacity earlier after in_earlier in_after in_between run others_run = record {
    feasible = feasible_together time scale first second parted slots others one other;
    served = served_together run.served others_run.served;
    few = omega (arith, run.few, others_run.few, length-append slots later, length-map others (moved n), length-append first second);
    each = each_stretch (λ stretch. ServesCapacity grid scale (capacity stretch) stretch all)
        (λ k d within.
        let stretch = get_or (stretches first) k d in
        let ends = first_stretches time first second parted first_windows second_windows k d within in
        serves_same grid scale (capacity stretch) stretch slots all (in_first time scale first second parted slots others one other stretch ends)
        (subst (λ units. ServesCapacity grid scale units stretch slots) (sym (in_earlier stretch ends)) (run.each k d within)))
        (λ k d within.
        let stretch = get_or (stretches_between first second) k d in
        let gap = gaps_are time first second parted first_windows second_windows k d within in
        subst (λ units. ServesCapacity grid scale units stretch all) (sym (in_between stretch gap)) (in_gap time scale first second parted slots others one other stretch gap))
        (λ k d within.
        let stretch = get_or (stretches second) k d in
        let begins = second_stretches time first second parted first_windows second_windows k d within in
        serves_moved n grid scale (capacity stretch) stretch others all (in_second time scale first second parted slots others one other stretch begins)
        (subst (λ units. ServesCapacity grid scale units stretch others) (sym (in_after stretch begins)) (others_run.each k d within)));
  }
