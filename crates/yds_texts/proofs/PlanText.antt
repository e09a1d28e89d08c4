-- What the answer of `plan` is worth: its text is read again as the document with its plan, `audit` answers it with
-- 'feasible' and `check` with 'accepted'.
use Rattle.yds_model.proofs.Common.{◌≡◌, ℕ, ◌<◌, ◌≤◌, ◌==◌, List, [], ◌∷◌, length, get_or, Some, Ok, refl, ap, subst, arith, inl, inr, eq-eqb, eqb-true, cond, codes, ◌≢◌, All, AllPairs, cases_lt, Decides-eqb, length-append, All-head, All-tail, All-from_get_or, All-contains, AllPairs-cons, get_or-le-sum_by, IsDistinct-from_AllPairs, Contains-from_any, length-le_from_distinct_below, count, AreDifferent, Job, work_of, WrittenSlot, Level, level_at, no_level, all_members, IsProper, IsPlan, Accepted, Document, reading, IsTextOf, with_plan, AskPlan, AskCheck, OfDocument, AnswersRequest, count-cons, counted_contains}
use Rattle.base.specs.declared.limits.TheConstants.{MAX_INPUT, MAX_JOBS}
use Rattle.base.specs.declared.status.Status.TheVariants.{Done}
use Rattle.yds_texts.specs.PlanText.{PlansHoldTheHeadline, PlansAreFeasible, PlansAreAccepted}
use Rattle.yds_laws.proofs.Bound.{explained_is_least}
use Rattle.yds_laws.proofs.Explained.{proper_explains}
use Rattle.yds_energy.proofs.PlansEnergy.{least_is_cheapest_among_written}
use Rattle.yds_texts.proofs.Answered.{done_not_refused, answered, text_read, slots_agree, answers_document, audited}
use Rattle.yds_laws.proofs.Judgements.{judgement_is_exact}

-- Different numbers below n are at most n.

-- a number that isn't counted isn't in the list
uncounted : (number : ℕ) (numbers : List ℕ) → count number numbers ≤ 0 → All (λ other. number ≢ other) numbers
uncounted number numbers none k d within = λ same.
    omega (arith, get_or-le-sum_by (λ other. cond (number == other) 1 0) numbers k d within, ap {B = ℕ} (λ b. cond b 1 0) (eq-eqb number (get_or numbers k d) same))

-- numbers of which none stands twice differ in pairs
different_pairs : (numbers : List ℕ) → AreDifferent numbers → AllPairs (λ x y. x ≢ y) numbers
different_pairs [] different = λ i j d order within. absurd (omega (arith, within))
different_pairs (x ∷ xs) different =
    AllPairs-cons (λ x y. x ≢ y) x xs
    (uncounted x xs (omega (arith, different x, count-cons x x xs, ap {B = ℕ} (λ b. cond b 1 0) (eq-eqb x x refl))))
    (different_pairs xs (λ number. omega (arith, different number, count-cons number x xs)))

-- so there are no more of them than numbers below their limit
few_different : (numbers : List ℕ) (n : ℕ) → AreDifferent numbers → All (λ number. number < n) numbers → length numbers ≤ n
few_different numbers n different known =
    length-le_from_distinct_below numbers n (IsDistinct-from_AllPairs Decides-eqb numbers (different_pairs numbers different))
    (λ q is. All-contains (λ number. number < n) numbers q known (Contains-from_any eqb-true q numbers is))

-- Each level has a member, so there are no more levels than members.

-- work that is the members' together is some member's
some_member : (jobs : List Job) (work : ℕ) (members : List ℕ) → 1 ≤ work → work ≡ work_of jobs members → 1 ≤ length members
some_member jobs work [] some same = absurd (omega (arith, some, same))
some_member jobs work (number ∷ numbers) some same = omega arith

-- levels with a member each are no more than the members
no_more_levels : (levels : List Level) → All (λ level. 1 ≤ length level.members) levels → length levels ≤ length (all_members levels)
no_more_levels [] some = omega arith
no_more_levels (level ∷ levels) some =
    omega (
      arith,
      All-head (λ level. 1 ≤ length level.members) level levels some,
      no_more_levels levels (All-tail (λ level. 1 ≤ length level.members) level levels some),
      length-append level.members (all_members levels),
    )

-- The parts of a plan are as many as its text has room for.
pub record IsSmall (levels : List Level) : Type 0 where
  pub few_levels : length levels ≤ MAX_JOBS
  pub few_members : length (all_members levels) ≤ MAX_JOBS

-- so a plan of jobs within their limit has few levels and members
plan_is_small : (jobs : List Job) (slots : List WrittenSlot) (levels : List Level) → length jobs ≤ MAX_JOBS → IsProper jobs slots levels →
    All (λ number. number < length jobs) (all_members levels) → IsSmall levels
plan_is_small jobs slots levels few proper known =
    let different : AreDifferent (all_members levels) = λ number. elim (cases_lt (count number (all_members levels)) 1) [
      | inl none ↦ omega arith
      | inr some ↦ (proper.members number (All-contains (λ one. one < length jobs) (all_members levels) number known
          (counted_contains number (all_members levels) some))).at_most_once
    ] in
    let members = few_different (all_members levels) (length jobs) different known in
    let some = All-from_get_or (λ level. 1 ≤ length level.members) levels no_level
    (λ i within. some_member jobs (level_at levels i).work (level_at levels i).members (proper.well_formed.positive i no_level within).0 (proper.sums i within).work) in
    record {
      few_members = omega (arith, members, few);
      few_levels = omega (arith, members, few, no_more_levels levels some);
    }

-- What the text of a plan is read as.

-- a plan of a document that was read, and the reading of its text
pub record IsReadAgain (input text : List ℕ) (document : Document) (slots : List WrittenSlot) (levels : List Level) : Type 0 where
  pub read : reading input ≡ Ok document
  pub plan : IsPlan document.jobs slots levels
  pub said : IsTextOf (with_plan document slots levels) text
  pub read_again : reading text ≡ Ok (with_plan document slots levels)
  pub short : length text ≤ MAX_INPUT

-- the text of a plan is read as the document with the plan
read_again : (input text : List ℕ) (document : Document) (slots : List WrittenSlot) (levels : List Level) →
    reading input ≡ Ok document → IsPlan document.jobs slots levels → IsTextOf (with_plan document slots levels) text →
    IsReadAgain input text document slots levels
read_again input text document slots levels read plan said =
    let fits = said.possible in
    let few : length document.jobs ≤ MAX_JOBS = fits.jobs.few in
    let known : All (λ number. number < length document.jobs) (all_members levels) =
    subst (λ count. All (λ number. number < count) (all_members levels)) fits.jobs.one_name_each fits.levels.known in
    let small = plan_is_small document.jobs slots levels few plan.proper known in
    let again = text_read (with_plan document slots levels) text said (omega (arith, few, plan.few_slots)) small.few_levels (omega (arith, few, plan.few_pieces)) small.few_members in
    record { read = read; plan = plan; said = said; read_again = again.read_again; short = again.short }

-- the input is read as a document, and the text as it with a plan of it
abbrev IsPlanRead : List ℕ → List ℕ → Type 0
IsPlanRead input text = (document : Document) × (slots : List WrittenSlot) × (levels : List Level) × IsReadAgain input text document slots levels

-- so is what `plan` writes where it is done
pub plan_read : (input text : List ℕ) → AnswersRequest (Some (OfDocument AskPlan)) input text Done → IsPlanRead input text
plan_read input text answers =
    let is = answered AskPlan input text Done done_not_refused answers in
    let answer = is.answers in
    (is.document, answer.slots, answer.levels, read_again input text is.document answer.slots answer.levels is.read answer.plan answer.said)

-- The laws.

-- the law: where `plan` is done, its answer holds the headline
pub plans_hold_the_headline : PlansHoldTheHeadline
plans_hold_the_headline input text answers =
    let (document, slots, levels, is) = plan_read input text answers in
    let proper = is.plan.proper in
    let explained = proper_explains document.jobs slots levels proper in
    let least = explained_is_least document.jobs slots levels explained in (
      document,
      slots,
      levels,
      record {
        read = is.read;
        written = is.said.written;
        short = is.short;
        read_again = is.read_again;
        feasible = proper.feasible;
        least = least;
        proper = proper;
        explained = explained;
        cheapest = least_is_cheapest_among_written document.jobs slots least;
      },
    )

-- the law: `audit` answers the text of a plan with 'feasible'
pub plan_texts_are_feasible : PlansAreFeasible
plan_texts_are_feasible input text answers =
    let (document, slots, levels, is) = plan_read input text answers in
    audited text (with_plan document slots levels) is.short is.read_again is.plan.proper.feasible

-- the law: `check` answers it with 'accepted'
pub plan_texts_are_accepted : PlansAreAccepted
plan_texts_are_accepted input text answers =
    let (document, slots, levels, is) = plan_read input text answers in
    let shown = with_plan document slots levels in
    answers_document AskCheck text (codes "accepted\n") shown is.short is.read_again record {
      judgement = Accepted;
      is_judgement = (judgement_is_exact document.jobs slots levels (slots_agree shown is.said.possible) is.plan.proper.well_formed).1 is.plan.proper;
      said = refl;
      ended = refl;
    }
