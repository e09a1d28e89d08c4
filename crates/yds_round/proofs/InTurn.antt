-- The jobs of a stretch that is cut come in the plan's order, each once in a part.
use Rattle.yds_model.proofs.Common.{◌≡◌, ℕ, ◌+◌, ◌*◌, ◌≤◌, List, [], ◌∷◌, ◌++◌, length, map, refl, sym, ap, ◌∙◌, subst, arith, inl, inr, Bool, if◌then◌else◌, cond, All, cases_lt, cases_eq, eq-eqb, ne_eqb, length-append, length-map, get_or-map, All-nil, All-cons, All-tail, All-append, All-map, mul-le-mul_right, mul-pos, count, AreDifferent, WrittenSlot, WholeSlot, slot_at_scale, slots_at, Piece, jobs_in_turn, count-cons}
use Rattle.yds_timetable.specs.declared.pace.Pace.{Pace}
use Rattle.yds_timetable.specs.Shares.{JobShare}
use Rattle.yds_timetable.specs.Pace.{slot_of, slots_from}
use Rattle.yds_round.specs.declared.split.Split.{Split}
use Rattle.yds_round.specs.Written.{Course, turn, fast_course, slow_course, slot_between, slots_after}
use Rattle.yds_round.proofs.Cuts.{piece_between, some_between, none_between, none_after, few_between, few_after}

-- the numbers are different
abbrev pub AreApart : List ℕ → Type 0
AreApart [] = Unit {0}
AreApart (job ∷ jobs) = All (λ other. other ≡ job → ⊥) jobs × AreApart jobs

-- a share does some work
abbrev pub DoesWork : JobShare → Type 0
DoesWork share = 1 ≤ share.units

abbrev pub share_jobs : List JobShare → List ℕ
share_jobs shares = map (λ share. share.job) shares

abbrev pub jobs_of : List WrittenSlot → List ℕ
jobs_of slots = map (λ slot. slot.job) slots

-- # Turns of whole slots

turns_cons : (slot : WholeSlot) (slots : List WholeSlot) → All (λ other. other.job ≡ slot.job → ⊥) slots → jobs_in_turn (slot ∷ slots) ≡ slot.job ∷ jobs_in_turn slots
turns_cons slot [] apart = refl
turns_cons slot (next ∷ slots) apart =
    ap (λ (b : Bool). if b then jobs_in_turn (next ∷ slots) else slot.job ∷ jobs_in_turn (next ∷ slots))
    (ne_eqb slot.job next.job (λ same. apart 0 next (omega arith) (sym same)))

turns_same : (slot next : WholeSlot) (slots : List WholeSlot) → slot.job ≡ next.job → jobs_in_turn (slot ∷ next ∷ slots) ≡ jobs_in_turn (next ∷ slots)
turns_same slot next slots same =
    ap (λ (b : Bool). if b then jobs_in_turn (next ∷ slots) else slot.job ∷ jobs_in_turn (next ∷ slots)) (eq-eqb slot.job next.job same)

-- what holds of the jobs holds of each share's
pub jobs_back : (P : ℕ → Type 0) (shares : List JobShare) → All P (share_jobs shares) → All (λ share. P share.job) shares
jobs_back P shares each k d within =
    subst P (get_or-map (λ (s : JobShare). s.job) shares k d d.job within) (each k d.job (omega (arith, within, length-map shares (λ (s : JobShare). s.job))))

-- the plan's slots are of the shares' jobs
pub jobs_planned : (P : ℕ → Type 0) (pace : Pace) (start done : ℕ) (shares : List JobShare) → All P (share_jobs shares) →
    All (λ slot. P slot.job) (slots_from pace start done shares)
jobs_planned P pace start done [] each = All-nil (λ (slot : WrittenSlot). P slot.job)
jobs_planned P pace start done (share ∷ shares) each =
    All-cons (λ (slot : WrittenSlot). P slot.job) (slot_of pace start done share) (slots_from pace start (done + share.units) shares) (each 0 share.job (omega arith))
    (jobs_planned P pace start (done + share.units) shares (All-tail P share.job (share_jobs shares) each))

-- at a scale they come in turn as the shares stand
pub turns_planned : (scale : ℕ) (pace : Pace) (start done : ℕ) (shares : List JobShare) → AreApart (share_jobs shares) →
    jobs_in_turn (slots_at scale (slots_from pace start done shares)) ≡ share_jobs shares
turns_planned scale pace start done [] apart = refl
turns_planned scale pace start done (share ∷ shares) apart =
    let rest = slots_from pace start (done + share.units) shares in
    turns_cons (slot_at_scale scale (slot_of pace start done share)) (slots_at scale rest)
    (All-map (λ (other : WholeSlot). other.job ≡ share.job → ⊥) (slot_at_scale scale) rest
    (jobs_planned (λ job. job ≡ share.job → ⊥) pace start (done + share.units) shares apart.0))
    ∙ ap (λ jobs. share.job ∷ jobs) (turns_planned scale pace start (done + share.units) shares apart.1)

-- # A part has jobs of the plan alone

pub jobs_after : (P : ℕ → Type 0) (course : Course) (stretch : Piece) (done : ℕ) (shares : List JobShare) → All P (share_jobs shares) →
    All (λ slot. P slot.job) (slots_after course stretch done shares)
jobs_after P course stretch done [] each = All-nil (λ (slot : WrittenSlot). P slot.job)
jobs_after P course stretch done (share ∷ shares) each =
    let next = done + share.units in
    let rest = jobs_after P course stretch next shares (All-tail P share.job (share_jobs shares) each) in
    elim (cases_lt (course.work done) (course.work next)) [
      | inl some ↦ rw (some_between course stretch share.job done next some)
          (All-cons (λ (s : WrittenSlot). P s.job) (piece_between course stretch share.job done next) (slots_after course stretch next shares) (each 0 share.job (omega arith)) rest)
      | inr none ↦ rw (none_between course stretch share.job done next none) rest
    ]

-- none is there more often than in the plan
pub count_after : (course : Course) (stretch : Piece) (done : ℕ) (shares : List JobShare) (number : ℕ) →
    count number (jobs_of (slots_after course stretch done shares)) ≤ count number (share_jobs shares)
count_after course stretch done [] number = omega arith
count_after course stretch done (share ∷ shares) number =
    let next = done + share.units in
    let rest = count_after course stretch next shares number in
    let mine = count-cons number share.job (share_jobs shares) in
    elim (cases_lt (course.work done) (course.work next)) [
      | inl some ↦ rw (some_between course stretch share.job done next some)
          (omega (arith, rest, mine, count-cons number share.job (jobs_of (slots_after course stretch next shares))))
      | inr none ↦ rw (none_between course stretch share.job done next none) (omega (arith, rest, mine))
    ]

-- a number that is none of these isn't counted
count_none : (number : ℕ) (jobs : List ℕ) → All (λ job. job ≡ number → ⊥) jobs → count number jobs ≡ 0
count_none number [] none = refl
count_none number (job ∷ jobs) none = omega (
  arith,
  count-cons number job jobs,
  ap {B = ℕ} (λ b. cond b 1 0) (ne_eqb number job (λ same. none 0 job (omega arith) (sym same))),
  count_none number jobs (All-tail (λ (n : ℕ). n ≡ number → ⊥) job jobs none),
)

pub count_once : (jobs : List ℕ) → AreApart jobs → AreDifferent jobs
count_once [] apart number = omega arith
count_once (job ∷ jobs) apart number = elim (cases_eq number job) [
  | inl same ↦ omega (
    arith,
    count-cons number job jobs,
    ap {B = ℕ} (λ b. cond b 1 0) (eq-eqb number job same),
    count_none number jobs (subst (λ (n : ℕ). All (λ (other : ℕ). other ≡ n → ⊥) jobs) (sym same) apart.0),
  )
  | inr other ↦ omega (
    arith,
    count-cons number job jobs,
    ap {B = ℕ} (λ b. cond b 1 0) (ne_eqb number job other),
    count_once jobs apart.1 number,
  )
]

-- # Both parts

module _ (split : Split) (stretch : Piece) (some_gap : 1 ≤ split.gap) where
  -- after the switch nothing runs at the faster point
  no_fast : (done : ℕ) (shares : List JobShare) → turn split stretch ≤ done * split.gap → slots_after (fast_course split stretch) stretch done shares ≡ []
  no_fast done shares after = grind (arith, mul-le-mul_right, none_after)

  -- the three ways in which a slot lies to the switch
  more_done : (done units : ℕ) → 1 ≤ units → done * split.gap + 1 ≤ (done + units) * split.gap
  more_done done units some = omega (arith, mul-pos some some_gap)

  pub turns_cut : (scale done : ℕ) (shares : List JobShare) → AreApart (share_jobs shares) → All DoesWork shares →
      jobs_in_turn (slots_at scale (slots_after (fast_course split stretch) stretch done shares)
      ++ slots_at scale (slots_after (slow_course split stretch) stretch done shares)) ≡ share_jobs shares
  turns_cut scale done [] apart does = refl
  turns_cut scale done (share ∷ shares) apart does =
      let next = done + share.units in
      let grows = more_done done share.units (does 0 share (omega arith)) in
      let rest = turns_cut scale next shares apart.1 (All-tail DoesWork share shares does) in
      let fast_rest = slots_after (fast_course split stretch) stretch next shares in
      let slow_rest = slots_after (slow_course split stretch) stretch next shares in
      let others : ℕ → Type 0 = λ job. job ≡ share.job → ⊥ in
      let fast_apart : All (λ (other : WholeSlot). other.job ≡ share.job → ⊥) (slots_at scale fast_rest) =
      All-map (λ (other : WholeSlot). other.job ≡ share.job → ⊥) (slot_at_scale scale) fast_rest (jobs_after others (fast_course split stretch) stretch next shares apart.0) in
      let slow_apart : All (λ (other : WholeSlot). other.job ≡ share.job → ⊥) (slots_at scale slow_rest) =
      All-map (λ (other : WholeSlot). other.job ≡ share.job → ⊥) (slot_at_scale scale) slow_rest (jobs_after others (slow_course split stretch) stretch next shares apart.0) in
      let at_fast = piece_between (fast_course split stretch) stretch share.job done next in
      let at_slow = piece_between (slow_course split stretch) stretch share.job done next in
      elim (cases_lt (done * split.gap) (turn split stretch)) [
        | inl before ↦ elim (cases_lt (turn split stretch) (next * split.gap)) [
          | inl over ↦
              let late : turn split stretch ≤ next * split.gap = omega (arith, over) in
              rw (
                some_between (fast_course split stretch) stretch share.job done next (omega (arith, before, over, grows)),
                some_between (slow_course split stretch) stretch share.job done next (omega (arith, before, over, grows)),
                no_fast next shares late,
              ) (turns_same (slot_at_scale scale at_fast) (slot_at_scale scale at_slow) (slots_at scale slow_rest) refl
              ∙ turns_cons (slot_at_scale scale at_slow) (slots_at scale slow_rest) slow_apart
              ∙ ap (λ jobs. share.job ∷ jobs) (rw (no_fast next shares late) at rest))
          | inr up_to ↦
              rw (
                some_between (fast_course split stretch) stretch share.job done next (omega (arith, before, up_to, grows)),
                none_between (slow_course split stretch) stretch share.job done next (omega (arith, before, up_to, grows)),
              ) (turns_cons (slot_at_scale scale at_fast) (slots_at scale fast_rest ++ slots_at scale slow_rest)
              (All-append (λ (other : WholeSlot). other.job ≡ share.job → ⊥) (slots_at scale fast_rest) (slots_at scale slow_rest) fast_apart slow_apart)
              ∙ ap (λ jobs. share.job ∷ jobs) rest)
        ]
        | inr after ↦
            let late : turn split stretch ≤ next * split.gap = omega (arith, after, grows) in
            rw (
              none_between (fast_course split stretch) stretch share.job done next (omega (arith, after, grows)),
              some_between (slow_course split stretch) stretch share.job done next (omega (arith, after, grows)),
              no_fast next shares late,
            ) (turns_cons (slot_at_scale scale at_slow) (slots_at scale slow_rest) slow_apart
            ∙ ap (λ jobs. share.job ∷ jobs) (rw (no_fast next shares late) at rest))
      ]

  -- one slot more at most
  pub one_more : (done : ℕ) (shares : List JobShare) →
      length (slots_after (fast_course split stretch) stretch done shares) + length (slots_after (slow_course split stretch) stretch done shares) ≤ length shares + 1
  one_more done [] = omega arith
  one_more done (share ∷ shares) =
      let next = done + share.units in
      elim (cases_lt (turn split stretch) (next * split.gap)) [
        | inl over ↦
            let late : turn split stretch ≤ next * split.gap = omega (arith, over) in
            let slow_few = few_after (slow_course split stretch) stretch done (share ∷ shares) in
            let first = few_between (fast_course split stretch) stretch share.job done next in
            rw (no_fast next shares late) (omega (
              arith,
              slow_few,
              first,
              length-append (slot_between (fast_course split stretch) stretch share.job done next) [],
            ))
        | inr up_to ↦
            rw (none_between (slow_course split stretch) stretch share.job done next (omega (arith, up_to, mul-le-mul_right split.gap (let later : done ≤ next = omega arith in later)))) (omega (
              arith,
              one_more next shares,
              few_between (fast_course split stretch) stretch share.job done next,
              length-append (slot_between (fast_course split stretch) stretch share.job done next) (slots_after (fast_course split stretch) stretch next shares),
            ))
      ]
