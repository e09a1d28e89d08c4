-- The greatest number that a deadline asks is the greatest quotient's, and it is rounded where that is.
use Rattle.yds_model.proofs.Common.{◌≡◌, ℕ, suc, ◌+◌, ◌-◌, ◌*◌, ◌/◌, ◌%◌, ◌<◌, ◌≤◌, max, List, [], ◌∷◌, length, get_or, map, ◌∙◌, refl, sym, ap, arith, inl, inr, true, false, Bool, nat_lt, ◌==◌, ◌&&◌, not, All, fold, list_all, cases_lt, cases_eq, lt-ltb, le-ltb, eq-eqb, ne_eqb, get_or-map, length-map, All-nil, All-cons, All-map, All-weaker, list_all-from_AllPass, list_all_at, mul-le-mul_right, mul-le-mul_left, le_of_mul-le-mul_right, lt_of_mul-lt-mul_right, mul-lt-mul_of_pos_right, Job, job_at, Piece, div_up, stretches, stretch_at}
use Rattle.yds_events.proofs.Neighbours.{deadline_outside}
use Rattle.yds_edf.proofs.Quotients.{up_enough, up_most}
use Rattle.yds_oa.specs.Asked.{is_waiting, waiting, due_by, deadlines, asked_by, most_asked, most_rounds}
use Rattle.yds_oa.specs.Greatest.{IsGreatest}
use Rattle.yds_oa.proofs.Waiting.{waits_for, deadline_place, each_waits, each_known}

-- # The greatest of numbers

fold_from : (a : ℕ) (xs : List ℕ) → a ≤ fold max a xs
fold_from a [] = omega arith
fold_from a (x ∷ xs) = omega (arith, fold_from (max a x) xs)

pub fold_above : (a : ℕ) (xs : List ℕ) → All (λ x. x ≤ fold max a xs) xs
fold_above a [] = All-nil (λ x. x ≤ a)
fold_above a (x ∷ xs) = All-cons (λ y. y ≤ fold max (max a x) xs) x xs (omega (arith, fold_from (max a x) xs)) (fold_above (max a x) xs)

pub fold_below : (a most : ℕ) (xs : List ℕ) → a ≤ most → All (λ x. x ≤ most) xs → fold max a xs ≤ most
fold_below a most [] first all = first
fold_below a most (x ∷ xs) first all = fold_below (max a x) most xs (omega (arith, first, all 0 x (omega arith))) (λ k d within. all (suc k) d (omega arith))

-- # Quotients

-- a whole quotient and one that isn't, rounded up
up_whole : (x y : ℕ) → 1 ≤ y → x % y ≡ 0 → div_up x y * y ≡ x
up_whole x y some none = grind arith

up_more : (x y : ℕ) → 1 ≤ y → (x % y ≡ 0 → ⊥) → x < div_up x y * y
up_more x y some rest = grind arith

-- a waiting job's deadline asks at most the greatest number
pub asks_at_most : (jobs : List Job) (pending : ℕ → ℕ) (stretch : Piece) (job : ℕ) → job < length jobs → is_waiting jobs pending stretch job ≡ true →
    asked_by jobs pending stretch (job_at jobs job).deadline ≤ most_asked jobs pending stretch
asks_at_most jobs pending stretch job known waits =
    let asked = map (asked_by jobs pending stretch) (deadlines jobs pending stretch) in
    let place = deadline_place jobs pending stretch job known waits in
    let read : get_or asked place.0 0 ≡ asked_by jobs pending stretch (job_at jobs job).deadline =
    get_or-map (asked_by jobs pending stretch) (deadlines jobs pending stretch) place.0 0 0 place.1 ∙ ap (asked_by jobs pending stretch) place.2 in
    omega (arith, read, fold_above 0 asked place.0 0 (omega (arith, place.1, length-map (deadlines jobs pending stretch) (asked_by jobs pending stretch))))

-- and where each asks at most so many, so does the greatest
pub most_at_most : (jobs : List Job) (pending : ℕ → ℕ) (stretch : Piece) (most : ℕ) →
    ((job : ℕ) → is_waiting jobs pending stretch job ≡ true → job < length jobs → asked_by jobs pending stretch (job_at jobs job).deadline ≤ most) →
    most_asked jobs pending stretch ≤ most
most_at_most jobs pending stretch most each =
    fold_below 0 most (map (asked_by jobs pending stretch) (deadlines jobs pending stretch)) (omega arith)
    (All-map (λ n. n ≤ most) (asked_by jobs pending stretch) (deadlines jobs pending stretch)
    (All-map (λ deadline. asked_by jobs pending stretch deadline ≤ most) (λ job. (job_at jobs job).deadline) (waiting jobs pending stretch)
    (λ k d within. each _ (each_waits jobs pending stretch k d within) (each_known jobs pending stretch k d within))))

module _ (jobs : List Job) (pending : ℕ → ℕ) (stretch : Piece) (units time : ℕ) (is : IsGreatest jobs pending stretch units time)
    (long : stretch.from < stretch.to) where
  abbrev span : ℕ
  span = stretch.to - stretch.from

  abbrev most : ℕ
  most = div_up (units * span) time

  enough : units * span ≤ most * time
  enough = up_enough (units * span) time is.some_time

  -- no deadline asks more
  asked_most : (deadline : ℕ) → stretch.from < deadline → asked_by jobs pending stretch deadline ≤ most
  asked_most deadline later =
      up_most (due_by jobs pending stretch deadline * span) (deadline - stretch.from) most (omega (arith, later))
      (le_of_mul-le-mul_right {k = time} (omega (
        arith,
        mul-le-mul_right span (is.upper deadline later),
        mul-le-mul_right (deadline - stretch.from) enough,
      )) is.some_time)

  -- the deadline of the greatest quotient asks as much
  asked_there : (job : ℕ) → time ≡ (job_at jobs job).deadline - stretch.from → units ≤ due_by jobs pending stretch (job_at jobs job).deadline →
      most ≤ asked_by jobs pending stretch (job_at jobs job).deadline
  asked_there job until due = grind arith

  -- what holds of each waiting deadline
  each_deadline : (P : ℕ → Type 0) → ((job : ℕ) → is_waiting jobs pending stretch job ≡ true → P (job_at jobs job).deadline) →
      All P (deadlines jobs pending stretch)
  each_deadline P each = All-map P (λ job. (job_at jobs job).deadline) (waiting jobs pending stretch)
      (All-weaker (λ job. is_waiting jobs pending stretch job ≡ true) (λ job. P (job_at jobs job).deadline) each (waiting jobs pending stretch) (each_waits jobs pending stretch))

  pub most_is : most_asked jobs pending stretch ≡ most
  most_is =
      let below : most_asked jobs pending stretch ≤ most = most_at_most jobs pending stretch most
      (λ job waits known. asked_most (job_at jobs job).deadline (waits_for jobs pending stretch job waits).1) in
      elim is.attained [
        | inl none ↦
            let nothing : most ≤ 0 = up_most (units * span) time 0 is.some_time (omega (arith, ap (λ n. n * span) none)) in
            omega (arith, below, nothing)
        | inr of ↦ omega (arith, below, asked_there of.job of.until of.due, asks_at_most jobs pending stretch of.job of.known of.waits)
      ]

  -- # Where it is rounded

  abbrev is_short : ℕ → Bool
  is_short deadline = not (due_by jobs pending stretch deadline * span == most * (deadline - stretch.from))

  rounds_by : most_rounds jobs pending stretch ≡ (nat_lt 0 most && list_all is_short (deadlines jobs pending stretch))
  rounds_by = ap (λ n. nat_lt 0 n && list_all (λ deadline. not (due_by jobs pending stretch deadline * span == n * (deadline - stretch.from))) (deadlines jobs pending stretch)) most_is

  not_whole : ((units * span) % time ≡ 0 → ⊥) → most_rounds jobs pending stretch ≡ true
  not_whole rest =
      let less = up_more (units * span) time is.some_time rest in
      let some : 0 < most = elim (cases_lt 0 most) [
        | inl more ↦ more
        | inr none ↦ let nothing : most ≡ 0 = omega arith in absurd (omega (arith, less, ap (λ n. n * time) nothing))
      ] in
      let all = each_deadline (λ deadline. is_short deadline ≡ true) (λ job waits.
      let deadline = (job_at jobs job).deadline in
      let later = (waits_for jobs pending stretch job waits).1 in
      let until : 1 ≤ deadline - stretch.from = omega (arith, later) in
      let short : due_by jobs pending stretch deadline * span < most * (deadline - stretch.from) =
      lt_of_mul-lt-mul_right time (omega (
        arith,
        mul-le-mul_right span (is.upper deadline later),
        mul-lt-mul_of_pos_right less until,
      )) in
      rw (ne_eqb (due_by jobs pending stretch deadline * span) (most * (deadline - stretch.from)) (λ same. omega (arith, same, short))) refl) in
      rounds_by ∙ rw (lt-ltb 0 most some, list_all-from_AllPass is_short (deadlines jobs pending stretch) all) refl

  whole : (units * span) % time ≡ 0 → most_rounds jobs pending stretch ≡ false
  whole none = grind (arith, cases_lt, deadline_place, enough, eq-eqb, le-ltb, le_of_mul-le-mul_right, list_all_at, lt-ltb, mul-le-mul_right, rounds_by, up_most, up_whole, waits_for)

  pub rounds_is : most_rounds jobs pending stretch ≡ not ((units * span) % time == 0)
  rounds_is = grind (arith, cases_eq, eq-eqb, ne_eqb, not_whole, whole)

-- the greatest quotient's deadline isn't before the stretch's end
pub length_within : (jobs : List Job) (pending : ℕ → ℕ) (k units time : ℕ) → k < length (stretches jobs) →
    IsGreatest jobs pending (stretch_at jobs k) units time → units * ((stretch_at jobs k).to - (stretch_at jobs k).from) ≤ units * time
length_within jobs pending k units time within is = grind (arith, deadline_outside, mul-le-mul_left, waits_for)

-- what the code computes of it
pub units_told : (jobs : List Job) (pending : ℕ → ℕ) (stretch : Piece) (units time u l t : ℕ) → IsGreatest jobs pending stretch units time →
    stretch.from < stretch.to → u ≡ units → l ≡ stretch.to - stretch.from → t ≡ time → (u * l + (t - 1)) / t ≡ most_asked jobs pending stretch
units_told jobs pending stretch units time u l t is long u_is l_is t_is = rw (u_is, l_is, t_is) (sym (most_is jobs pending stretch units time is long))

pub rounds_told : (jobs : List Job) (pending : ℕ → ℕ) (stretch : Piece) (units time u l t : ℕ) → IsGreatest jobs pending stretch units time →
    stretch.from < stretch.to → u ≡ units → l ≡ stretch.to - stretch.from → t ≡ time → not ((u * l) % t == 0) ≡ most_rounds jobs pending stretch
rounds_told jobs pending stretch units time u l t is long u_is l_is t_is = rw (u_is, l_is, t_is) (sym (rounds_is jobs pending stretch units time is long))

pub units_few : (jobs : List Job) (pending : ℕ → ℕ) (k units time u l t : ℕ) → k < length (stretches jobs) →
    IsGreatest jobs pending (stretch_at jobs k) units time → u ≡ units → l ≡ (stretch_at jobs k).to - (stretch_at jobs k).from → t ≡ time →
    (u * l + (t - 1)) / t ≤ units
units_few jobs pending k units time u l t within is u_is l_is t_is =
    rw (u_is, l_is, t_is) (up_most (units * ((stretch_at jobs k).to - (stretch_at jobs k).from)) time units is.some_time (length_within jobs pending k units time within is))
