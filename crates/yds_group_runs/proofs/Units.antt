-- What a run of Average Rate does above a speed, one unit of time after another.
use Rattle.yds_model.proofs.Common.{◌≡◌, ℕ, suc, ◌-◌, ◌*◌, ◌<◌, ◌≤◌, ◌⊎◌, List, [], ◌∷◌, length, get_or, ap, refl, ◌∙◌, arith, inl, inr, Bool, false, cond, ◌&&◌, nat_le, nat_lt, nat_tests, All, sum_by, sum_by-cons, cases_lt, and_parts, leb-true, ltb-true, get_or-le-sum_by, mul-le-mul_right, found_or_none, get_or_default, Job, job_at, Piece, PiecesFrom, stretches, stretch_at, numbers_of, is_live, sum_by_same, sum_by_at_most, sum_by_zero}
use Rattle.model_lemmas.proofs.Front.{pieces_forward}
use Rattle.base.specs.Numbers.{sum_below}
use Rattle.model_lemmas.proofs.SumsBelow.{sum_below_at_most}
use Rattle.model_lemmas.proofs.Time.{before, here}
use Rattle.yds_events.specs.Stretch.{no_stretch}
use Rattle.yds_events.proofs.Neighbours.{stretches_run, release_outside, deadline_outside, HasTime, stretch_with}
use Rattle.yds_laws.proofs.Served.{all_numbers}
use Rattle.yds_ratios.proofs.Below.{sum_below_list, count_here}
use Rattle.yds_ratios.proofs.AverageSpeeds.{share, live_share, live_work}

-- the stretch of one unit of time
abbrev pub unit : ℕ → Piece
unit time = record { from = time; to = suc time }

-- # A stretch and its units

-- in plain numbers: a window has all of a stretch, or none of it
same_test : (release deadline from to time : ℕ) → from ≤ time → time < to → (release ≤ from) ⊎ (to ≤ release) → (deadline ≤ from) ⊎ (to ≤ deadline) →
    (nat_le release from && nat_lt from deadline) ≡ (nat_le release time && nat_lt time deadline)
same_test release deadline from to time at below one other = grind (arith, nat_tests)

-- so the same work is live in each unit of a stretch
live_same : (jobs : List Job) (windows k time : ℕ) → HasTime jobs time k → live_work jobs windows (stretch_at jobs k) ≡ live_work jobs windows (unit time)
live_same jobs windows k time has =
    let stretch = stretch_at jobs k in
    sum_by_same (λ number. live_share jobs windows stretch number * (job_at jobs number).work) (λ number. live_share jobs windows (unit time) number * (job_at jobs number).work)
    (numbers_of jobs)
    (all_numbers (λ number. live_share jobs windows stretch number * (job_at jobs number).work ≡ live_share jobs windows (unit time) number * (job_at jobs number).work) jobs
    (λ number known.
    let job = job_at jobs number in
    ap (λ (live : Bool). cond live (share jobs windows number) 0 * job.work)
    (same_test job.release job.deadline stretch.from stretch.to time has.from has.below (release_outside jobs number k known has.known) (deadline_outside jobs number k known has.known))))

-- # Pieces one after another

module _ (f : Piece → ℕ) (time : ℕ) where
  abbrev term : Piece → ℕ
  term piece = here piece.from piece.to time * f piece

  -- none that begins later has the unit
  none_here : (start : ℕ) (pieces : List Piece) → PiecesFrom start pieces → time < start → sum_by term pieces ≡ 0
  none_here start [] run early = refl
  none_here start (piece ∷ pieces) run early =
      let outside : here piece.from piece.to time ≡ 0 = grind (arith, run.0, early) in
      omega (arith, sum_by-cons term piece pieces, ap (λ m. m * f piece) outside, none_here piece.to pieces run.2 (omega (arith, run.0, run.1, early)))

  -- at most one has it
  at_most_one : (start most : ℕ) (pieces : List Piece) → PiecesFrom start pieces →
      ((k : ℕ) (d : Piece) → k < length pieces → (get_or pieces k d).from ≤ time → time < (get_or pieces k d).to → f (get_or pieces k d) ≤ most) → sum_by term pieces ≤ most
  at_most_one start most [] run each = omega arith
  at_most_one start most (piece ∷ pieces) run each = elim (cases_lt time piece.to) [
    | inr ended ↦
        let outside : here piece.from piece.to time ≡ 0 = grind (arith, ended) in
        omega (
          arith,
          sum_by-cons term piece pieces,
          ap (λ m. m * f piece) outside,
          at_most_one piece.to most pieces run.2 (λ k d within. each (suc k) d (omega (arith, within))),
        )
    | inl below ↦
        let later = none_here piece.to pieces run.2 below in
        elim (cases_lt time piece.from) [
          | inl early ↦
              let outside : here piece.from piece.to time ≡ 0 = grind (arith, early) in
              omega (arith, sum_by-cons term piece pieces, ap (λ m. m * f piece) outside, later)
          | inr begun ↦
              let inside : here piece.from piece.to time ≡ 1 = grind (arith, begun, below) in
              omega (arith, sum_by-cons term piece pieces, ap (λ m. m * f piece) inside, later, each 0 piece (omega arith) begun below)
        ]
  ]

  -- and one that has it counts
  one_counts : (k : ℕ) (d : Piece) (pieces : List Piece) → k < length pieces → (get_or pieces k d).from ≤ time → time < (get_or pieces k d).to →
      f (get_or pieces k d) ≤ sum_by term pieces
  one_counts k d pieces within begun below =
      let inside : here (get_or pieces k d).from (get_or pieces k d).to time ≡ 1 = grind (arith, begun, below) in
      omega (arith, get_or-le-sum_by term pieces k d within, ap (λ m. m * f (get_or pieces k d)) inside)

-- # Stretches by their units

-- what is above p/q, of so much live work
abbrev pub above : ℕ → ℕ → ℕ → ℕ → ℕ
above p q windows work = q * work - p * windows

module _ (jobs : List Job) (p q windows : ℕ) where
  -- in a stretch, and in a unit
  abbrev pub above_in : Piece → ℕ
  above_in stretch = above p q windows (live_work jobs windows stretch)

  -- each stretch times its length
  abbrev pub above_stretches : ℕ
  above_stretches = sum_by (λ stretch. (stretch.to - stretch.from) * above_in stretch) (stretches jobs)

  -- the units before an end
  abbrev pub above_units : ℕ → ℕ
  above_units end = sum_below end (λ time. above_in (unit time))

  abbrev by_units : ℕ → ℕ
  by_units end = sum_below end (λ time. sum_by (term above_in time) (stretches jobs))

  counted : (end : ℕ) → by_units end ≡ sum_by (λ stretch. before stretch.from stretch.to end * above_in stretch) (stretches jobs)
  counted end =
      sum_below_list (λ time stretch. here stretch.from stretch.to time) above_in (stretches jobs) end
      ∙ sum_by_same (λ stretch. sum_below end (here stretch.from stretch.to) * above_in stretch) (λ stretch. before stretch.from stretch.to end * above_in stretch) (stretches jobs)
      (λ k d within. ap (λ m. m * above_in (get_or (stretches jobs) k d)) (count_here (get_or (stretches jobs) k d).from (get_or (stretches jobs) k d).to end))

  -- a stretch that has a unit is as its unit
  as_unit : (k time : ℕ) → HasTime jobs time k → above_in (stretch_at jobs k) ≡ above_in (unit time)
  as_unit k time has = ap (λ work. above p q windows work) (live_same jobs windows k time has)

  has_unit : (k time : ℕ) (d : Piece) → k < length (stretches jobs) → (get_or (stretches jobs) k d).from ≤ time → time < (get_or (stretches jobs) k d).to →
      above_in (get_or (stretches jobs) k d) ≡ above_in (unit time)
  has_unit k time d within from below =
      let same : get_or (stretches jobs) k d ≡ stretch_at jobs k = get_or_default (stretches jobs) k d no_stretch within in
      ap above_in same ∙ as_unit k time (record {
        known = within;
        from = omega (arith, from, ap (λ (one : Piece). one.from) same);
        below = omega (arith, below, ap (λ (one : Piece). one.to) same);
      })

  -- all stretches are at most the units before an end that all have reached
  pub stretches_at_most : (end : ℕ) → All (λ stretch. stretch.to ≤ end) (stretches jobs) → above_stretches ≤ above_units end
  stretches_at_most end ended =
      omega (
        arith,
        sum_by_same (λ stretch. (stretch.to - stretch.from) * above_in stretch) (λ stretch. before stretch.from stretch.to end * above_in stretch) (stretches jobs)
            (λ k d within.
            let stretch = get_or (stretches jobs) k d in
            let over = ended k d within in
            let forward = pieces_forward 0 (stretches jobs) (stretches_run jobs) k d within in
            let all : stretch.to - stretch.from ≡ before stretch.from stretch.to end = omega (arith, over, forward) in
            ap (λ m. m * above_in stretch) all),
        counted end,
        sum_below_at_most end (λ time. sum_by (term above_in time) (stretches jobs)) (λ time. above_in (unit time))
            (λ time inside. at_most_one above_in time 0 (above_in (unit time)) (stretches jobs) (stretches_run jobs)
            (λ k d within from below. omega (arith, has_unit k time d within from below))),
      )

  -- nothing is above a speed in a unit in which no job is live
  none_live : (time : ℕ) → ((number : ℕ) → number < length jobs → is_live (unit time) (job_at jobs number) ≡ false) → above_in (unit time) ≡ 0
  none_live time none =
      let nothing = sum_by_zero (λ number. live_share jobs windows (unit time) number * (job_at jobs number).work) (numbers_of jobs)
      (all_numbers (λ number. live_share jobs windows (unit time) number * (job_at jobs number).work ≡ 0) jobs
      (λ number known.
      let work = (job_at jobs number).work in
      omega (arith, ap (λ (live : Bool). cond live (share jobs windows number) 0 * work) (none number known)))) in
      omega (arith, ap (λ work. q * work - p * windows) nothing)

  -- what is above a speed in a unit is so in the stretches that have it
  unit_at_most : (time : ℕ) → above_in (unit time) ≤ sum_by (term above_in time) (stretches jobs)
  unit_at_most time = elim (found_or_none (length jobs) (λ number. is_live (unit time) (job_at jobs number))) [
    | inr none ↦ omega (arith, none_live time none)
    | inl (number, known, live) ↦
        let job = job_at jobs number in
        let both = and_parts (nat_le job.release time) (nat_lt time job.deadline) live in
        let (k, has) = stretch_with jobs number time known (leb-true _ _ both.0) (ltb-true _ _ both.1) in
        omega (arith, as_unit k time has, one_counts above_in time k no_stretch (stretches jobs) has.known has.from has.below)
  ]

  -- and so the units before any end are at most all stretches
  pub units_at_most : (end : ℕ) → above_units end ≤ above_stretches
  units_at_most end =
      omega (
        arith,
        sum_below_at_most end (λ time. above_in (unit time)) (λ time. sum_by (term above_in time) (stretches jobs)) (λ time inside. unit_at_most time),
        counted end,
        sum_by_at_most (λ stretch. before stretch.from stretch.to end * above_in stretch) (λ stretch. (stretch.to - stretch.from) * above_in stretch) (stretches jobs)
            (λ k d within.
            let stretch = get_or (stretches jobs) k d in
            let forward = pieces_forward 0 (stretches jobs) (stretches_run jobs) k d within in
            let few : before stretch.from stretch.to end ≤ stretch.to - stretch.from = omega (arith, forward) in
            mul-le-mul_right (above_in stretch) few),
      )
