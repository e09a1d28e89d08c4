-- Stretches can be filled earliest deadline first: while there is room and something is pending, the job that is due first is served.
use Rattle.yds_model.proofs.Common.{◌≡◌, ℕ, zero, suc, ◌-◌, ◌<◌, ◌≤◌, ◌⊎◌, min, List, [], ◌∷◌, ◌++◌, length, slice_index, arith, inl, inr, refl, sym, ap, subst, ◌∙◌, Some, length-replicate, All, cases_lt, cases_order, Job, IsJob, job_at, Piece, PiecesFrom}
use Rattle.model_lemmas.proofs.SumsBelow.{sum_below_bound}
use Rattle.yds_events.specs.Stretch.{nth_stretch}
use Rattle.yds_timetable.specs.Shares.{JobShare}
use Rattle.yds_edf.specs.Serving.{IsDueBefore}
use Rattle.yds_edf.specs.Queue.{new_queue, pending_in, all_pending}
use Rattle.yds_edf.specs.Engine.{TiedQueue, with_served, ServesTied}
use Rattle.yds_edf.specs.Demand.{AreUncut, IsWithinCapacity, capacity_at}
use Rattle.yds_edf.specs.Filled.{IsFilled}
use Rattle.yds_edf.proofs.Serving.{Progress, go_on, end}
use Rattle.yds_edf.proofs.Filled.{Filling, begun, filled_next, all_filled}

-- # Which job is due first

-- the order is one
due_on : (jobs : List Job) (tie : ℕ → ℕ) (x y z : ℕ) → IsDueBefore jobs tie x y → IsDueBefore jobs tie y z → IsDueBefore jobs tie x z
due_on jobs tie x y z (inl less) (inl more) = inl (omega (arith, less, more))
due_on jobs tie x y z (inl less) (inr (same, order)) = inl (omega (arith, less, same))
due_on jobs tie x y z (inr (same, order)) (inl more) = inl (omega (arith, same, more))
due_on jobs tie x y z (inr (same, order)) (inr (equal, next)) = inr (same ∙ equal, omega (arith, order, next))

module _ (jobs : List Job) (tie : ℕ → ℕ) (different : (i j : ℕ) → i < length jobs → j < length jobs → tie i ≡ tie j → i ≡ j) where
  -- of two different jobs one is due first
  due_total : (x y : ℕ) → x < length jobs → y < length jobs → (x ≡ y) ⊎ (IsDueBefore jobs tie x y ⊎ IsDueBefore jobs tie y x)
  due_total x y within inside = elim (cases_order (job_at jobs x).deadline (job_at jobs y).deadline) [
    | inr (inl less) ↦ inr (inl (inl less))
    | inr (inr more) ↦ inr (inr (inl more))
    | inl same ↦ elim (cases_order (tie x) (tie y)) [
      | inl equal ↦ inl (different x y within inside equal)
      | inr (inl less) ↦ inr (inl (inr (same, less)))
      | inr (inr more) ↦ inr (inr (inr (sym same, more)))
    ]
  ]

  -- of the jobs below a number of which units are pending one is due first, or there is none
  first_due : (pending : ℕ → ℕ) (n : ℕ) → n ≤ length jobs →
      ((job : ℕ) × (job < n) × (1 ≤ pending job) × ((other : ℕ) → other < n → 1 ≤ pending other → (job ≡ other) ⊎ IsDueBefore jobs tie job other))
      ⊎ ((other : ℕ) → other < n → pending other < 1)
  first_due pending zero within = inr (λ other below. absurd (omega (arith, below)))
  first_due pending (suc n) within = elim (cases_lt (pending n) 1) [
    | inl none ↦ elim (first_due pending n (omega (arith, within))) [
      | inl (job, below, some, first) ↦ inl (
        job,
        omega (arith, below),
        some,
        λ other inside left. elim (cases_lt other n) [
          | inl before ↦ first other before left
          | inr last ↦
              let same : other ≡ n = omega (arith, inside, last) in
              absurd (omega (arith, none, left, ap pending same))
        ],
      )
      | inr nothing ↦ inr (λ other inside. elim (cases_lt other n) [
        | inl before ↦ nothing other before
        | inr last ↦
            let same : other ≡ n = omega (arith, inside, last) in
            omega (arith, none, ap pending same)
      ])
    ]
    | inr own ↦ elim (first_due pending n (omega (arith, within))) [
      | inr nothing ↦ inl (
        n,
        omega arith,
        own,
        λ other inside left. elim (cases_lt other n) [
          | inl before ↦ absurd (omega (arith, left, nothing other before))
          | inr last ↦ inl (omega (arith, inside, last))
        ],
      )
      | inl (job, below, some, first) ↦ elim (due_total job n (omega (arith, below, within)) (omega (arith, within))) [
        | inl same ↦ absurd (omega (arith, same, below))
        | inr (inl before_it) ↦ inl (
          job,
          omega (arith, below),
          some,
          λ other inside left. elim (cases_lt other n) [
            | inl before ↦ first other before left
            | inr last ↦
                let same : n ≡ other = omega (arith, inside, last) in
                inr (subst (IsDueBefore jobs tie job) same before_it)
          ],
        )
        | inr (inr behind) ↦ inl (
          n,
          omega arith,
          own,
          λ other inside left. elim (cases_lt other n) [
            | inr last ↦ inl (omega (arith, inside, last))
            | inl before ↦ elim (first other before left) [
              | inl same ↦ inr (subst (IsDueBefore jobs tie n) same behind)
              | inr later ↦ inr (due_on jobs tie n job other behind later)
            ]
          ],
        )
      ]
    ]
  ]

-- # One stretch

-- no number of two queues' ties stands twice
abbrev AreApart : TiedQueue → Type 0
AreApart start = (i j : ℕ) → i < length start.queue.jobs → j < length start.queue.jobs → slice_index start.ties i ≡ slice_index start.ties j → i ≡ j

-- what is served of a stretch can be served to its end
serve_on : (fuel : ℕ) (start now : TiedQueue) (stretch capacity room : ℕ) (shares : List JobShare) → AreApart start →
    Progress start now stretch capacity room shares → room ≤ fuel → (new : TiedQueue) × (all : List JobShare) × ServesTied start new stretch capacity all
serve_on zero start now stretch capacity room shares different progress enough =
    (now, shares, end start now stretch capacity room shares progress (inl (omega (arith, enough))))
serve_on (suc fuel) start now stretch capacity room shares different progress enough = elim (cases_lt room 1) [
  | inl none ↦ (now, shares, end start now stretch capacity room shares progress (inl none))
  | inr more ↦ elim (first_due start.queue.jobs (slice_index start.ties) different (pending_in now.queue) (length start.queue.jobs) (omega arith)) [
    | inr nothing ↦
        let none : all_pending now.queue ≡ 0 = omega (
          arith,
          sum_below_bound (length now.queue.jobs) 0 (pending_in now.queue)
              (λ k within. omega (arith, nothing k (omega (arith, within, ap (λ (jobs : List Job). length jobs) progress.adds.jobs)))),
        ) in
        (now, shares, end start now stretch capacity room shares progress (inr none))
    | inl (job, known, some, first) ↦
        let units : ℕ = min room (pending_in now.queue job) in
        let served : 1 ≤ units = omega (arith, more, some) in
        serve_on fuel start (with_served now job units) stretch capacity (room - units) (shares ++ record { stretch = stretch; job = job; units = units } ∷ []) different
        (go_on start now stretch capacity room shares progress more job units known served refl first) (omega (arith, enough, served))
  ]
]

-- before a stretch is served nothing of it is
begin_at : (start : TiedQueue) (stretch capacity : ℕ) → length start.queue.served ≡ length start.queue.jobs → Progress start start stretch capacity capacity []
begin_at start stretch capacity long = grind arith

-- # All stretches

module _ (jobs : List Job) (ties : List ℕ) (grain : ℕ) (stretches : List Piece) (capacities : List ℕ) (run : PiecesFrom 0 stretches)
    (different : (i j : ℕ) → i < length jobs → j < length jobs → slice_index ties i ≡ slice_index ties j → i ≡ j) where
  -- the first stretches can be filled
  fill_first : (i : ℕ) → i ≤ length stretches →
      (now : TiedQueue) × (shares : List JobShare) × Filling jobs ties grain stretches capacities i now shares × (length now.queue.served ≡ length jobs)
  fill_first zero within = (record { queue = new_queue jobs grain; ties = ties }, [], begun jobs ties grain stretches capacities, length-replicate (length jobs) 0)
  fill_first (suc i) within =
      let (now, shares, filling, long) = fill_first i (omega (arith, within)) in
      let start : TiedQueue = record { queue = record now.queue { time = Some (nth_stretch stretches i).from }; ties = now.ties } in
      let many : length now.queue.jobs ≡ length jobs = ap (λ (js : List Job). length js) filling.same_jobs in
      let apart : AreApart start = λ a b below beside same. different a b (omega (arith, below, many)) (omega (arith, beside, many))
      (sym (ap (λ (ts : List ℕ). slice_index ts a) filling.same_ties) ∙ same ∙ ap (λ (ts : List ℕ). slice_index ts b) filling.same_ties) in
      let (new, part, serves) = serve_on (capacity_at capacities i) start start i (capacity_at capacities i) (capacity_at capacities i) [] apart
      (begin_at start i (capacity_at capacities i) (omega (arith, long, many))) (omega arith) in
      (new, shares ++ part, filled_next {new = new} {part = part} run within filling serves, omega (arith, serves.adds.as_long, long))

  -- so all can be, where no interval's work is more than the stretches serve
  pub fill_exists : All IsJob jobs → AreUncut jobs stretches → IsWithinCapacity jobs grain stretches capacities →
      (shares : List JobShare) × IsFilled jobs ties grain stretches capacities shares
  fill_exists valid uncut enough =
      let (now, shares, filling, long) = fill_first (length stretches) (omega arith) in
      (shares, all_filled valid run uncut enough filling)
