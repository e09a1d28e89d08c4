-- What levels do above each speed, together, tells their works and lengths where their speeds fall.
use Rattle.yds_model.proofs.Common.{◌≡◌, ℕ, zero, suc, ◌+◌, ◌-◌, ◌*◌, ◌<◌, ◌≤◌, List, [], ◌∷◌, length, ap, sym, ◌∙◌, refl, arith, inl, inr, sum_by, All, sum_by-cons, sum_by-append, All-tail, cases_lt, mul-sub, mul-pos, mul-le-mul_left, mul-le-mul_right, mul-lt-mul_of_pos_right, le_of_mul-le-mul_right, lt_of_mul-lt-mul_right, eq_of_mul-eq-mul_left, le_refl, Each, Job, job_at, work_of, Piece, total_length, Level, level_at, all_members, all_pieces, levels_above, IsSlower}
use Rattle.yds_laws.proofs.Exact.{above_fast, above_slow}

-- q times the work that the levels do above the speed p/q
abbrev pub curve : ℕ → ℕ → List Level → ℕ
curve p q levels = sum_by (λ level. q * level.work - p * level.length) levels

-- the first of the levels isn't faster than p/q
abbrev pub IsSlowFirst : ℕ → ℕ → List Level → Type 0
IsSlowFirst p q [] = Unit {0}
IsSlowFirst p q (level ∷ levels) = level.work * q ≤ p * level.length

-- the level is faster than the first of these
abbrev IsAboveFirst : Level → List Level → Type 0
IsAboveFirst level [] = Unit {0}
IsAboveFirst level (next ∷ levels) = next.work * level.length < level.work * next.length

-- levels with work and length, of falling speeds
abbrev pub AreFalling : List Level → Type 0
AreFalling [] = Unit {0}
AreFalling (level ∷ levels) = (1 ≤ level.work) × (1 ≤ level.length) × IsAboveFirst level levels × AreFalling levels

-- by recursion, from what holds at each place
pub are_falling : (levels : List Level) → All (λ level. (1 ≤ level.work) × (1 ≤ level.length)) levels →
    Each (length levels) (IsSlower levels) → AreFalling levels
are_falling [] positive falls = tt
are_falling (level ∷ []) positive falls =
    let some = positive 0 level (omega arith) in
    (some.0, some.1, tt, tt)
are_falling (level ∷ next ∷ levels) positive falls =
    let some = positive 0 level (omega arith) in (
      some.0,
      some.1,
      falls 1 (omega arith) 0 (omega arith),
      are_falling (next ∷ levels) (All-tail (λ one. (1 ≤ one.work) × (1 ≤ one.length)) level (next ∷ levels) positive)
          (λ i within before is. falls (suc i) (omega arith) (suc before) (omega arith)),
    )

-- after a level that isn't faster than p/q comes none that is
slower_still : (p q work long next next_long : ℕ) → 1 ≤ long → work * q ≤ p * long → next * long < work * next_long →
    next * q ≤ p * next_long
slower_still p q work long next next_long some slow falls =
    let falls_not_above : next * long ≤ work * next_long = omega arith in
    le_of_mul-le-mul_right {k = long} (omega (arith, mul-le-mul_right q falls_not_above, mul-le-mul_right next_long slow)) some

-- so the next of the levels is not either
slow_rest : (p q : ℕ) (level : Level) (levels : List Level) → 1 ≤ level.length → level.work * q ≤ p * level.length →
    IsAboveFirst level levels → IsSlowFirst p q levels
slow_rest p q level [] some slow falls = tt
slow_rest p q level (next ∷ levels) some slow falls = slower_still p q level.work level.length next.work next.length some slow falls

-- so levels of which the first isn't faster than p/q do nothing above it
pub curve_slow : (p q : ℕ) (levels : List Level) → AreFalling levels → IsSlowFirst p q levels → curve p q levels ≡ 0
curve_slow p q [] falling slow = refl
curve_slow p q (level ∷ levels) falling slow =
    simp sum_by-cons (omega (arith, slow, curve_slow p q levels falling.3 (slow_rest p q level levels falling.1 slow falling.2)))

-- the level has its members' work and its pieces' length
pub record SumsUp (jobs : List Job) (level : Level) : Type 0 where
  pub work : level.work ≡ work_of jobs level.members
  pub long : level.length ≡ total_length level.pieces

-- what levels do above p/q is what those above it do, their work less that at p/q
pub curve_above : (jobs : List Job) (p q : ℕ) (levels : List Level) → AreFalling levels → All (SumsUp jobs) levels →
    curve p q levels + p * total_length (all_pieces (levels_above p q levels)) ≡ q * work_of jobs (all_members (levels_above p q levels))
curve_above jobs p q [] falling sums = omega arith
curve_above jobs p q (level ∷ levels) falling sums =
    let sum = sums 0 level (omega arith) in
    elim (cases_lt (p * level.length) (level.work * q)) [
      | inl fast ↦ rw (above_fast p q level levels fast) (omega (
        arith,
        sum_by-cons (λ (one : Level). q * one.work - p * one.length) level levels,
        ap (λ n. p * n) (sum_by-append (λ (piece : Piece). piece.to - piece.from) level.pieces (all_pieces (levels_above p q levels))),
        ap (λ n. q * n) (sum_by-append (λ number. (job_at jobs number).work) level.members (all_members (levels_above p q levels))),
        ap (λ n. q * n) sum.work,
        ap (λ n. p * n) sum.long,
        curve_above jobs p q levels falling.3 (All-tail (SumsUp jobs) level levels sums),
      ))
      | inr slow ↦ rw (above_slow p q level levels slow) (omega (arith, curve_slow p q (level ∷ levels) falling slow))
    ]

-- A speed just below that of a level of work `all` and length `long`: so close to it, by `fine`, that it isn't below the
-- next one's.
just_below : (all long next next_long fine : ℕ) → next * long < all * next_long → next_long ≤ fine →
    next * (long * fine) ≤ (all * fine - 1) * next_long
just_below all long next next_long fine falls some =
    let apart : suc (next * long) ≤ all * next_long = omega arith in
    omega (arith, mul-le-mul_right fine apart, mul-sub next_long (all * fine) 1)

-- what a level of that speed, of work `work` and length `length`, does above it
term_below : (all long fine work length : ℕ) → 1 ≤ all → 1 ≤ fine → long * work ≡ all * length →
    long * fine * work - (all * fine - 1) * length ≡ length
term_below all long fine work length some some_fine same =
    let whole : 1 ≤ all * fine = mul-pos some some_fine in
    omega (arith, mul-sub length (all * fine) 1, ap (λ n. n * fine) same, mul-le-mul_left length whole)

-- the level after another one of that speed is slower than it too
falls_as_fast : (all long work length next next_long : ℕ) → 1 ≤ long → long * work ≡ all * length → next * length < work * next_long →
    next * long < all * next_long
falls_as_fast all long work length next next_long some same falls =
    lt_of_mul-lt-mul_right length (omega (arith, mul-lt-mul_of_pos_right falls some, ap (λ n. n * next_long) same))

-- so just below the speed of the first of levels the others do nothing above it
slow_below : (all long fine : ℕ) (level : Level) (levels : List Level) → 1 ≤ long → long * level.work ≡ all * level.length →
    (level_at levels 0).length ≤ fine → IsAboveFirst level levels → IsSlowFirst (all * fine - 1) (long * fine) levels
slow_below all long fine level [] some same enough falls = tt
slow_below all long fine level (next ∷ levels) some same enough falls =
    just_below all long next.work next.length fine (falls_as_fast all long level.work level.length next.work next.length some same falls) enough

-- and together they do what the first alone does
curve_below : (all long fine : ℕ) (level : Level) (levels : List Level) → 1 ≤ all → 1 ≤ long → 1 ≤ fine →
    long * level.work ≡ all * level.length → (level_at levels 0).length ≤ fine → AreFalling (level ∷ levels) →
    curve (all * fine - 1) (long * fine) (level ∷ levels) ≡ level.length
curve_below all long fine level levels some_work some_length some same enough falling =
    omega (
      arith,
      sum_by-cons (λ (one : Level). long * fine * one.work - (all * fine - 1) * one.length) level levels,
      term_below all long fine level.work level.length some_work some same,
      curve_slow (all * fine - 1) (long * fine) levels falling.3 (slow_below all long fine level levels some_length same enough falling.2),
    )

-- where levels do nothing above the first one's speed, neither do they above another's
not_faster : (p q : ℕ) (level : Level) (levels : List Level) → curve p q (level ∷ levels) ≡ 0 → q * level.work ≤ p * level.length
not_faster p q level levels none = omega (arith, none, sum_by-cons (λ (one : Level). q * one.work - p * one.length) level levels)

-- lists of levels that do the same above each speed
abbrev pub DoTheSame : List Level → List Level → Type 0
DoTheSame levels others = (p q : ℕ) → 1 ≤ q → curve p q levels ≡ curve p q others

-- the other first level isn't faster than this one
first_speed : (level : Level) (levels : List Level) (other : Level) (others : List Level) → AreFalling (level ∷ levels) →
    DoTheSame (level ∷ levels) (other ∷ others) → level.length * other.work ≤ level.work * other.length
first_speed level levels other others falling same =
    not_faster level.work level.length other others
    (sym (same level.work level.length falling.1) ∙ curve_slow level.work level.length (level ∷ levels) falling (le_refl (level.work * level.length)))

-- have the same first level
same_first : (level : Level) (levels : List Level) (other : Level) (others : List Level) → AreFalling (level ∷ levels) → AreFalling (other ∷ others) →
    DoTheSame (level ∷ levels) (other ∷ others) → (level.work ≡ other.work) × (level.length ≡ other.length)
same_first level levels other others falling falls same =
    let fine = 1 + ((level_at levels 0).length + (level_at others 0).length) in
    let speed : level.length * other.work ≡ level.work * other.length = omega (
      arith,
      first_speed level levels other others falling same,
      first_speed other others level levels falls (λ p q some. sym (same p q some)),
    ) in
    let long : level.length ≡ other.length =
    sym (curve_below level.work level.length fine level levels falling.0 falling.1 (omega arith) (omega arith) (omega arith) falling)
    ∙ same (level.work * fine - 1) (level.length * fine) (mul-pos falling.1 (omega arith))
    ∙ curve_below level.work level.length fine other others falling.0 falling.1 (omega arith) speed (omega arith) falls in
    (eq_of_mul-eq-mul_left level.length falling.1 level.work other.work (omega (arith, speed, ap (λ n. level.work * n) long)), long)

-- and the same without it
same_rest : (level : Level) (levels : List Level) (other : Level) (others : List Level) → (level.work ≡ other.work) × (level.length ≡ other.length) →
    DoTheSame (level ∷ levels) (other ∷ others) → DoTheSame levels others
same_rest level levels other others first same p q some =
    omega (
      arith,
      same p q some,
      sum_by-cons (λ (one : Level). q * one.work - p * one.length) level levels,
      sum_by-cons (λ (one : Level). q * one.work - p * one.length) other others,
      ap (λ n. q * n) first.0,
      ap (λ n. p * n) first.1,
    )

-- the levels at a place have the same work and length
abbrev IsSameAt : List Level → List Level → ℕ → Type 0
IsSameAt levels others i = ((level_at levels i).work ≡ (level_at others i).work) × ((level_at levels i).length ≡ (level_at others i).length)

-- the first levels and the rest together
same_each : (level : Level) (levels : List Level) (other : Level) (others : List Level) → (level.work ≡ other.work) × (level.length ≡ other.length) →
    Each (length levels) (IsSameAt levels others) → Each (length (level ∷ levels)) (IsSameAt (level ∷ levels) (other ∷ others))
same_each level levels other others first rest zero within = first
same_each level levels other others first rest (suc i) within = rest i (omega arith)

-- levels do something
some_curve : (level : Level) (levels : List Level) → 1 ≤ level.work → curve 0 1 (level ∷ levels) ≡ 0 → ⊥
some_curve level levels some none = absurd (omega (arith, some, not_faster 0 1 level levels none))

-- so they are as many, and have the same works and lengths
pub same_levels : (levels others : List Level) → AreFalling levels → AreFalling others → DoTheSame levels others →
    (length levels ≡ length others) × Each (length levels) (IsSameAt levels others)
same_levels [] [] falling falls same = (refl, λ i within. absurd (omega arith))
same_levels [] (other ∷ others) falling falls same = absurd (some_curve other others falls.0 (sym (same 0 1 (omega arith))))
same_levels (level ∷ levels) [] falling falls same = absurd (some_curve level levels falling.0 (same 0 1 (omega arith)))
same_levels (level ∷ levels) (other ∷ others) falling falls same =
    let first = same_first level levels other others falling falls same in
    let rest = same_levels levels others falling.3 falls.3 (same_rest level levels other others first same) in
    (omega (arith, rest.0), same_each level levels other others first rest.1)
