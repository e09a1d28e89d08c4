-- A block of neighbouring stretches that are all faster than a speed p/q, as long as possible: it is followed by none, or by one that isn't.
-- In a run of Optimal Available that never rounded, only jobs run in it that are due by its end.
--
-- Else take the last stretch of the block that has a slot of a job that is due later. Some time asks just its speed. It isn't within the
-- block, since earliest deadline first had served all that is due by then before that slot. So it is after the block. Of what is due by
-- then only what the stretch does is served in the block, and the rest is more than the speed p/q does from the block's end on.
use Rattle.yds_model.proofs.Common.{◌≡◌, ℕ, zero, suc, ◌+◌, ◌-◌, ◌*◌, ◌<◌, ◌≤◌, List, length, ap, subst, arith, inl, inr, cases_lt, cases_eq, cases_order, All-contains, All-from_get_or, get_or_default, mul-pos, mul-le-mul_left, mul-le-mul_right, le_of_mul-le-mul_right, Job, job_at, WholeSlot, no_slot, slot_at, stretches, LiesIn, slots_in, stretch_at, contains_filter, sum_by-add, sum_by_at_most}
use Rattle.yds_events.specs.Stretch.{no_stretch}
use Rattle.yds_events.specs.Window.{length_at}
use Rattle.yds_events.proofs.Times.{not_later, deadline_at}
use Rattle.yds_events.proofs.Neighbours.{count_stretches, stretch_begins, stretch_forward, stretch_order, stretch_starts_rise}
use Rattle.yds_laws.proofs.ExactRates.{stretch_of_slot}
use Rattle.yds_energy.proofs.RoundedRuns.{all_work}
use Rattle.yds_energy.proofs.StretchSlots.{lies, lies_passes}
use Rattle.yds_ratios.proofs.PassingTests.{factor_some, sum_by_one_less}
use Rattle.yds_ratios.proofs.StretchPoints.{point}
use Rattle.yds_ratios.proofs.LaterWork.{later_part, later_work, part_at_most, part_whole}
use Rattle.yds_ratios.proofs.EarliestLater.{due_later}
use Rattle.yds_ratios.proofs.ExactRun.{IsExactRun, work_at, IsFast, IsSlow, part_in, work_is, in_part, takes_time, known}

-- # In plain numbers

-- A stretch does `w` in `long`. So much due `long + x` after it begins can't be asked, if it leaves something of the stretch.
not_within : (w long L x s : ℕ) → L * long ≡ w * (long + x) → L + s ≤ w → 1 ≤ s → 1 ≤ long → ⊥
not_within w long L x s just less some time = absurd (omega (arith, just, mul-le-mul_right long less, mul-pos some time))

-- Nor can it, if what it leaves is served by a stretch that isn't faster than p/q, while this one is.
not_beyond : (p q M w long other other_long L left u v : ℕ) → L * long ≡ w * (long + v + u) → L ≤ w + left → left * other_long ≤ other * u →
    q * other ≤ p * (other_long * M) → p * (long * M) < q * w → 1 ≤ other_long → 1 ≤ u → ⊥
not_beyond p q M w long other other_long L left u v just split served slow fast time some =
    let few : q * left ≤ p * M * u =
    le_of_mul-le-mul_right {k = other_long} (omega (arith, mul-le-mul_left q served, mul-le-mul_right u slow)) time in
    absurd (omega (
      arith,
      ap (λ n. q * n) just,
      mul-le-mul_left q (mul-le-mul_right long split),
      mul-le-mul_right long few,
      mul-le-mul_right (u + v) (let more : p * (long * M) + 1 ≤ q * w = omega (arith, fast) in more),
    ))

-- # A slot of a job that is due after its block

module _ (jobs : List Job) (scale : ℕ) (slots : List WholeSlot) (run : IsExactRun jobs scale slots) where
  abbrev count : ℕ
  count = length (stretches jobs)

  abbrev deadline : WholeSlot → ℕ
  deadline slot = (job_at jobs slot.job).deadline

  abbrev release : WholeSlot → ℕ
  release slot = (job_at jobs slot.job).release

  -- the slot at a place lies in a stretch
  abbrev StandsIn : ℕ → ℕ → Type 0
  StandsIn s k = LiesIn scale (slot_at slots s) (stretch_at jobs k)

  -- The stretch k stands in a block that ends before the stretch j. In it is a slot of a job that is due after the block, and in the later
  -- stretches of the block there is none.
  module _ (k j s : ℕ) (before : k < j) (upto : j ≤ count) (within : s < length slots) (there : StandsIn s k) (late : point jobs j < deadline (slot_at slots s))
      (rest : (l t : ℕ) → k < l → l < j → t < length slots → StandsIn t l → deadline (slot_at slots t) ≤ point jobs j) where
    -- the stretch is one of them
    here : k < count
    here = omega (arith, before, upto)

    abbrev begin : ℕ
    begin = (stretch_at jobs k).from

    abbrev end : ℕ
    end = (stretch_at jobs k).to

    -- later slots of jobs that were released by then aren't due by the block's end
    later_late : (t l : ℕ) → t < length slots → k < l → l < count → StandsIn t l → release (slot_at slots t) ≤ begin → point jobs j < deadline (slot_at slots t)
    later_late t l inside order known_there lies_there released =
        let after : (slot_at slots s).to ≤ (slot_at slots t).from =
        omega (arith, there.to, lies_there.from, mul-le-mul_right scale (stretch_order jobs k l order known_there)) in
        let order_of = due_later jobs scale slots run.feasible run.earliest s t within inside after (omega (arith, there.from, mul-le-mul_right scale released)) in
        omega (arith, late, order_of)

    -- a slot that begins with the stretch or later lies in no earlier one
    not_earlier : (t l : ℕ) → t < length slots → l < k → StandsIn t l → begin * scale ≤ (slot_at slots t).from → ⊥
    not_earlier t l inside order lies_there from =
        absurd (omega (arith, takes_time jobs scale slots run t inside, lies_there.to, from, mul-le-mul_right scale (stretch_order jobs l k order here)))

    -- what is due by the block's end is served in the stretch
    term_within : (D : ℕ) → D ≤ point jobs j → (t : ℕ) → t < length slots → later_part jobs (begin * scale) begin D (slot_at slots t) ≤ part_in jobs scale k (slot_at slots t)
    term_within D by t inside =
        let slot = slot_at slots t in
        let place = stretch_of_slot jobs scale slot (run.uncut t no_slot inside) in
        part_at_most jobs (begin * scale) begin D (part_in jobs scale k slot) slot
        (λ from released due. elim (cases_order place.0 k) [
          | inl same ↦ omega (arith, in_part jobs scale k slot (subst (λ (l : ℕ). LiesIn scale slot (stretch_at jobs l)) same place.2))
          | inr (inl earlier) ↦ absurd (not_earlier t place.0 inside earlier place.2 from)
          | inr (inr later) ↦ absurd (omega (arith, by, due, later_late t place.0 inside later place.1 place.2 released))
        ])

    -- and what is due by a later time in the stretch and after the block
    term_beyond : (D : ℕ) → j < count → (t : ℕ) → t < length slots → later_part jobs (begin * scale) begin D (slot_at slots t)
        ≤ part_in jobs scale k (slot_at slots t) + later_part jobs ((stretch_at jobs j).from * scale) (stretch_at jobs j).from D (slot_at slots t)
    term_beyond D some t inside =
        let slot = slot_at slots t in
        let next = (stretch_at jobs j).from in
        let place = stretch_of_slot jobs scale slot (run.uncut t no_slot inside) in
        part_at_most jobs (begin * scale) begin D (part_in jobs scale k slot + later_part jobs (next * scale) next D slot) slot
        (λ from released due. elim (cases_order place.0 k) [
          | inl same ↦ omega (arith, in_part jobs scale k slot (subst (λ (l : ℕ). LiesIn scale slot (stretch_at jobs l)) same place.2))
          | inr (inl earlier) ↦ absurd (not_earlier t place.0 inside earlier place.2 from)
          | inr (inr later) ↦ elim (cases_lt place.0 j) [
            | inl in_block ↦
                absurd (omega (arith, rest place.0 t later in_block inside place.2, later_late t place.0 inside later place.1 place.2 released))
            | inr past ↦
                let begun : next * scale ≤ slot.from = omega (arith, place.2.from, mul-le-mul_right scale (stretch_starts_rise jobs j place.0 past place.1)) in
                let released_there : release slot ≤ next = omega (arith, released, stretch_starts_rise jobs k j (omega (arith, before)) some) in
                omega (arith, part_whole jobs (next * scale) next D slot begun released_there due)
          ]
        ])

    -- its own job is none of those due by the block's end
    own_none : (D : ℕ) → D ≤ point jobs j → later_part jobs (begin * scale) begin D (slot_at slots s) ≤ 0
    own_none D by = part_at_most jobs (begin * scale) begin D 0 (slot_at slots s) (λ from released due. absurd (omega (arith, by, late, due)))

    module _ (p q : ℕ) (fast : IsFast jobs scale slots p q k) where
      abbrev work : ℕ
      work = work_at jobs scale slots k

      -- the slot does some work, since its stretch is fast
      some_work : 1 ≤ (slot_at slots s).work
      some_work = elim (run.even k no_stretch here) [
        | inl nothing ↦ absurd (let none : work ≡ 0 = ap all_work nothing in omega (arith, fast, ap (λ n. q * n) none))
        | inr full ↦
            let slot = slot_at slots s in
            let found = contains_filter (lies scale (stretch_at jobs k)) slots slot (lies_passes scale (stretch_at jobs k) slot there) (s, within, get_or_default slots s slot no_slot within) in
            let is = All-contains (λ one. one.work * (length_at jobs k * scale) ≡ work * (one.to - one.from)) (slots_in scale (stretch_at jobs k) slots) slot full.speeds found in
            let done : 1 ≤ work = factor_some q work (omega (arith, fast)) in
            let time : 1 ≤ slot.to - slot.from = omega (arith, takes_time jobs scale slots run s within) in
            factor_some (length_at jobs k * scale) slot.work (omega (arith, is, mul-pos done time))
      ]

      -- no time within the block asks the stretch's speed
      none_within : (D : ℕ) → end ≤ D → later_work jobs scale slots begin D * length_at jobs k ≡ work * (D - begin) → D ≤ point jobs j → ⊥
      none_within D upto_D just by =
          let terms = later_part jobs (begin * scale) begin D in
          let less = sum_by_one_less terms (part_in jobs scale k) no_slot slots s within
          (All-from_get_or (λ slot. terms slot ≤ part_in jobs scale k slot) slots no_slot (term_within D by)) in
          let left : D - begin ≡ length_at jobs k + (D - end) = omega (arith, upto_D, stretch_forward jobs k here) in
          not_within work (length_at jobs k) (later_work jobs scale slots begin D) (D - end) (slot_at slots s).work
          (omega (arith, just, ap (λ n. work * n) left))
          (omega (arith, less, work_is jobs scale slots k, own_none D by, in_part jobs scale k (slot_at slots s) there))
          some_work (omega (arith, stretch_forward jobs k here))

      -- nor does one after it, if a stretch that isn't fast follows
      none_beyond : (D : ℕ) → later_work jobs scale slots begin D * length_at jobs k ≡ work * (D - begin) → point jobs j < D → j < count →
          IsSlow jobs scale slots p q j → ⊥
      none_beyond D just beyond more slow =
          let next = (stretch_at jobs j).from in
          let begins = stretch_begins jobs j more in
          let terms = later_part jobs (begin * scale) begin D in
          let laters = later_part jobs (next * scale) next D in
          let split : later_work jobs scale slots begin D ≤ work + later_work jobs scale slots next D =
          omega (
            arith,
            sum_by_at_most terms (λ slot. part_in jobs scale k slot + laters slot) slots
                (All-from_get_or (λ slot. terms slot ≤ part_in jobs scale k slot + laters slot) slots no_slot (term_beyond D more)),
            sum_by-add (part_in jobs scale k) laters slots,
            work_is jobs scale slots k,
          ) in
          let joint : end ≤ next = stretch_order jobs k j before more in
          let left : D - begin ≡ length_at jobs k + (next - end) + (D - next) = omega (arith, joint, beyond, begins, stretch_forward jobs k here) in
          not_beyond p q scale work (length_at jobs k) (work_at jobs scale slots j) (length_at jobs j) (later_work jobs scale slots begin D) (later_work jobs scale slots next D)
          (D - next) (next - end) (omega (arith, just, ap (λ n. work * n) left)) split (run.most j D more (omega (arith, beyond, begins)))
          slow fast (omega (arith, stretch_forward jobs j more)) (omega (arith, beyond, begins))

      -- so there is no such slot
      none_late : (j < count → IsSlow jobs scale slots p q j) → ⊥
      none_late slow = elim (run.attained k here) [
        | inl nothing ↦ absurd (omega (arith, fast, ap (λ n. q * n) nothing))
        | inr (D, upto_D, just) ↦ elim (cases_lt (point jobs j) D) [
          | inr by ↦ none_within D upto_D just by
          | inl beyond ↦ elim (cases_lt j count) [
            | inl more ↦ none_beyond D just beyond more (slow more)
            | inr none ↦
                let own = known jobs scale slots run s within in
                let points = count_stretches jobs (omega (arith, own)) in
                let last = deadline_at jobs (slot_at slots s).job own in
                absurd (omega (arith, late, last.2, not_later jobs last.0 j (omega (arith, last.1, none, points)) (omega (arith, upto, points))))
          ]
        ]
      ]

  -- In a block no slot has a job that is due after it.
  pub due_in_block : (p q more k j : ℕ) → k + more ≡ j → j ≤ count → ((l : ℕ) → k ≤ l → l < j → IsFast jobs scale slots p q l) → (j < count → IsSlow jobs scale slots p q j) →
      (l s : ℕ) → k ≤ l → l < j → s < length slots → StandsIn s l → deadline (slot_at slots s) ≤ point jobs j
  due_in_block p q zero k j is upto fast slow l s from to within there = absurd (omega (arith, is, from, to))
  due_in_block p q (suc more) k j is upto fast slow l s from to within there =
      let rest = due_in_block p q more (suc k) j (omega (arith, is)) upto (λ i after end. fast i (omega (arith, after)) end) slow in
      elim (cases_eq l k) [
        | inr other ↦ rest l s (omega (arith, from, other)) to within there
        | inl same ↦ elim (cases_lt (point jobs j) (deadline (slot_at slots s))) [
          | inr by ↦ by
          | inl late ↦ absurd (none_late k j s (omega (arith, is)) upto within (subst (λ (i : ℕ). StandsIn s i) same there) late
              (λ i t after end inside lies_there. rest i t (omega (arith, after)) end inside lies_there) p q (fast k (omega arith) (omega (arith, is))) slow)
        ]
      ]
