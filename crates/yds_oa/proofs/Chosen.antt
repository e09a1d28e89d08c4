-- The greatest quotient by places is the greatest of all that deadlines ask.
use Rattle.yds_model.proofs.Common.{◌≡◌, ℕ, zero, suc, ◌+◌, ◌-◌, ◌*◌, ◌<◌, ◌≤◌, List, length, slice_index, ◌∙◌, refl, sym, subst, ap, arith, inl, inr, add-one, IsNonDecreasingBy, cases_lt, cases_eq, lt-leb, mul-le-mul_left, le_of_mul-le-mul_left, Each, Job, Piece}
use Rattle.base.specs.Numbers.{sum_below}
use Rattle.model_lemmas.proofs.SumsBelow.{sum_below_zero, sum_places}
use Rattle.yds_edf.specs.declared.due_order.Due.{Due}
use Rattle.yds_edf.specs.declared.pending.PendingJobs.{PendingJobs}
use Rattle.yds_oa.specs.declared.quotient.Quotient.{Quotient}
use Rattle.yds_oa.specs.Asked.{due_by}
use Rattle.yds_edf.specs.Blocks.{units_before}
use Rattle.yds_edf.specs.DueOrder.{no_due, due_at, AreByDeadline}
use Rattle.yds_oa.specs.Greatest.{IsOfDeadline, IsGreatest, AreDueAfter, IsQuotientAt, IsGreatestOf}
use Rattle.yds_oa.proofs.Waiting.{weight_by, waits_is, due_in_order}
use Rattle.yds_edf.proofs.PlacedSums.{one_place_more, before_rises}
use Rattle.yds_edf.proofs.JobPlaces.{entry_at}

-- # The places that are due by a time

-- so many of the first places are due by it, and the others aren't
pub record IsCut (order : List Due) (deadline end cut : ℕ) : Type 0 where
  pub within : cut ≤ end
  pub before : (place : ℕ) → place < cut → (due_at order place).deadline ≤ deadline
  pub after : (place : ℕ) → cut ≤ place → place < end → deadline < (due_at order place).deadline

cut_of : (order : List Due) → IsNonDecreasingBy (λ due. due.deadline) order → (deadline end : ℕ) → end ≤ length order → (cut : ℕ) × IsCut order deadline end cut
cut_of order rising deadline zero within = (
  0,
  record { within = omega arith; before = λ place less. absurd (omega (arith, less)); after = λ place most less. absurd (omega (arith, less)) },
)
cut_of order rising deadline (suc end) within = elim (cases_lt deadline (due_at order end).deadline) [
  | inl later ↦
      let cut = cut_of order rising deadline end (omega (arith, within)) in (
        cut.0,
        record {
          within = omega (arith, cut.1.within);
          before = cut.1.before;
          after = λ place most less. elim (cases_eq place end) [
            | inl last ↦ subst (λ p. deadline < (due_at order p).deadline) (sym last) later
            | inr other ↦ cut.1.after place most (omega (arith, less, other))
          ];
        },
      )
  | inr upto ↦ (
    suc end,
    record {
      within = omega arith;
      before = λ place less. omega (arith, upto, rising place end no_due (omega (arith, less)) (omega (arith, within)));
      after = λ place most less. absurd (omega (arith, most, less));
    },
  )
]

module _ (jobs : List Job) (pending : PendingJobs) (units : ℕ → ℕ) (stretch : Piece) (start : ℕ) {ties : List ℕ} (by_deadline : AreByDeadline jobs ties pending.order.items)
    (fresh : Each (length pending.order.items) (λ place. slice_index pending.units place ≡ units (due_at pending.order.items place).job))
    (after : AreDueAfter pending stretch.from start) where
  abbrev order : List Due
  order = pending.order.items

  abbrev before : ℕ → ℕ
  before = units_before pending.units

  -- what a place adds to the units that are due by a deadline
  abbrev weight : ℕ → ℕ → ℕ
  weight deadline place = weight_by units stretch deadline (due_at order place)

  module _ (deadline cut : ℕ) (is : IsCut order deadline (length order) cut) where
    weight_over : (place : ℕ) → place < start → weight deadline place ≡ 0
    weight_over place less = grind arith

    weight_due : (place : ℕ) → start ≤ place → place < cut → weight deadline place ≡ slice_index pending.units place
    weight_due place most less = grind arith

    weight_later : (place : ℕ) → cut ≤ place → place < length order → weight deadline place ≡ 0
    weight_later place most less = rw (lt-leb (due_at order place).deadline deadline (is.after place most less)) refl

    sum_over : (end : ℕ) → end ≤ start → sum_below end (weight deadline) ≡ 0
    sum_over end upto = sum_below_zero end (weight deadline) (λ place less. weight_over place (omega (arith, less, upto)))

    sum_due : (end : ℕ) → start ≤ end → end ≤ cut → sum_below end (weight deadline) + before start ≡ before end
    sum_due zero past upto = let none : start ≡ 0 = omega (arith, past) in omega (arith, ap before none)
    sum_due (suc end) past upto = elim (cases_lt end start) [
      | inl first ↦ let same : start ≡ suc end = omega (arith, first, past) in omega (arith, sum_over (suc end) (omega (arith, first)), ap before same)
      | inr later ↦ omega (arith, sum_due end later (omega (arith, upto)), weight_due end later (omega (arith, upto)))
    ]

    sum_later : (end : ℕ) → cut ≤ end → end ≤ length order → sum_below end (weight deadline) ≡ sum_below cut (weight deadline)
    sum_later zero past upto = let none : cut ≡ 0 = omega (arith, past) in ap (λ n. sum_below n (weight deadline)) (sym none)
    sum_later (suc end) past upto = elim (cases_lt end cut) [
      | inl first ↦ let same : suc end ≡ cut = omega (arith, first, past) in ap (λ n. sum_below n (weight deadline)) same
      | inr later ↦ omega (arith, sum_later end later (omega (arith, upto)), weight_later end later (omega (arith, upto)))
    ]

    pub due_cut : start ≤ cut → due_by jobs units stretch deadline + before start ≡ before cut
    due_cut past = omega (
      arith,
      due_in_order jobs units stretch ties order by_deadline.same deadline,
      sum_places (weight_by units stretch deadline) order no_due,
      sum_later (length order) is.within (omega arith),
      sum_due cut past (omega arith),
    )

    -- nothing is due by it where no place from the start on is
    none_due : cut ≤ start → due_by jobs units stretch deadline ≡ 0
    none_due first = omega (
      arith,
      due_in_order jobs units stretch ties order by_deadline.same deadline,
      sum_places (weight_by units stretch deadline) order no_due,
      sum_later (length order) is.within (omega arith),
      sum_over cut first,
    )

  -- # The last place before with some units

  last_some : (place : ℕ) → start ≤ place → before start < before (place + 1) →
      (last : ℕ) × (start ≤ last) × (last ≤ place) × (1 ≤ slice_index pending.units last) × (before (last + 1) ≡ before (place + 1))
  last_some zero past more =
      let none : start ≡ 0 = omega (arith, past) in
      (0, past, omega arith, omega (arith, more, one_place_more pending.units 0, ap before none), refl)
  last_some (suc place) past more = elim (cases_lt 0 (slice_index pending.units (suc place))) [
    | inl some ↦ (suc place, past, omega arith, omega (arith, some), refl)
    | inr none ↦
        let same : before (place + 1) ≡ before (suc place + 1) = omega (arith, none, one_place_more pending.units (suc place), ap before (add-one place)) in
        let earlier : start ≤ place = elim (cases_eq start (suc place)) [
          | inl here ↦ absurd (omega (arith, more, same, ap before (here ∙ sym (add-one place))))
          | inr other ↦ omega (arith, past, other)
        ] in
        let found = last_some place earlier (omega (arith, more, same)) in
        (found.0, found.1, omega (arith, found.2), found.3, found.4 ∙ same)
  ]

  module _ (greatest : Quotient) (some_time : 1 ≤ greatest.time)
      (upper : (place : ℕ) → start ≤ place → place < length order →
      (before (place + 1) - before start) * greatest.time ≤ greatest.units * ((due_at order place).deadline - stretch.from)) where
    asks_less : (deadline : ℕ) → stretch.from < deadline → due_by jobs units stretch deadline * greatest.time ≤ greatest.units * (deadline - stretch.from)
    asks_less deadline later =
        let found = cut_of order by_deadline.rising deadline (length order) (omega arith) in
        let cut = found.0 in
        elim (cases_lt start cut) [
          | inr none ↦ omega (arith, ap (λ n. n * greatest.time) (none_due deadline cut found.1 none))
          | inl some ↦
              let past : start ≤ cut = omega (arith, some) in
              let due = due_cut deadline cut found.1 past in
              let last : cut - 1 + 1 ≡ cut = omega (arith, past, some) in
              let inside : cut - 1 < cut = omega (arith, past, some) in
              let same : before (cut - 1 + 1) - before start ≡ due_by jobs units stretch deadline = omega (arith, due, ap before last) in
              let longer : (due_at order (cut - 1)).deadline - stretch.from ≤ deadline - stretch.from = omega (arith, found.1.before (cut - 1) inside) in
              omega (
                arith,
                upper (cut - 1) (omega (arith, past, some)) (omega (arith, inside, found.1.within)),
                ap (λ n. n * greatest.time) same,
                mul-le-mul_left greatest.units longer,
              )
        ]

    asked_by_one : 1 ≤ greatest.units → IsQuotientAt pending stretch.from start greatest → IsOfDeadline jobs units stretch greatest.units greatest.time
    asked_by_one some at =
        let found = last_some at.place at.after (omega (arith, some, at.units)) in
        let last = found.0 in
        let known : last < length order = omega (arith, found.2, at.known) in
        let entry = entry_at jobs ties order by_deadline.same last known in
        let due = due_at order last in
        let same : before (last + 1) - before start ≡ greatest.units = omega (arith, found.4, at.units) in
        let later : stretch.from < due.deadline = after.after last found.1 known in
        let sooner : due.deadline ≤ (due_at order at.place).deadline = by_deadline.rising last at.place no_due found.2 at.known in
        let at_most : greatest.time ≤ due.deadline - stretch.from =
        le_of_mul-le-mul_left {k = greatest.units} (omega (arith, upper last found.1 known, ap (λ n. n * greatest.time) same)) some in
        let cut = cut_of order by_deadline.rising due.deadline (length order) (omega arith) in
        let inside : last < cut.0 = elim (cases_lt last cut.0) [
          | inl before_it ↦ before_it
          | inr beyond ↦ absurd (omega (arith, cut.1.after last beyond known))
        ] in
        let all_due = due_cut due.deadline cut.0 cut.1 (omega (arith, found.1, inside)) in
        record {
          job = due.job;
          known = entry.known;
          waits = waits_is jobs units stretch due.job (omega (arith, found.3, fresh last known)) (omega (arith, later, entry.deadline));
          until = omega (arith, at_most, at.time, sooner, entry.deadline);
          due = omega (
            arith,
            same,
            some,
            all_due,
            before_rises pending.units (last + 1) cut.0 (omega (arith, inside)),
            ap (due_by jobs units stretch) entry.deadline,
          );
        }

-- the greatest quotient by places is the greatest that a deadline has
pub is_greatest : (jobs : List Job) (pending : PendingJobs) (units : ℕ → ℕ) (stretch : Piece) (from : ℕ) (greatest : Quotient) {ties : List ℕ} → AreByDeadline jobs ties pending.order.items →
    Each (length pending.order.items) (λ place. slice_index pending.units place ≡ units (due_at pending.order.items place).job) → from ≡ stretch.from →
    IsGreatestOf pending from greatest → IsGreatest jobs units stretch greatest.units greatest.time
is_greatest jobs pending units stretch from greatest by_deadline fresh from_is of_from =
    let of : IsGreatestOf pending stretch.from greatest = subst (λ time. IsGreatestOf pending time greatest) from_is of_from in
    record {
      some_time = of.greatest.some_time;
      upper = asks_less jobs pending units stretch of.start by_deadline fresh of.after greatest of.greatest.some_time of.greatest.upper;
      attained = elim (cases_lt 0 greatest.units) [
        | inr none ↦ inl (omega (arith, none))
        | inl some ↦ elim of.greatest.attained [
          | inl none ↦ inl none
          | inr at ↦ inr (asked_by_one jobs pending units stretch of.start by_deadline fresh of.after greatest of.greatest.some_time of.greatest.upper some at)
        ]
      ];
    }
