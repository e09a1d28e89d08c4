-- The jobs in three parts, as time goes on: those that are over and those that are to come have no part of the stretch.
use Rattle.yds_model.proofs.Common.{◌≡◌, ℕ, ◌+◌, ◌-◌, ◌*◌, ◌%◌, ◌<◌, ◌≤◌, List, [], ◌∷◌, ◌++◌, length, get_or, take, drop, drop-cons, add-one, ◌∙◌, refl, sym, ap, subst, arith, inl, inr, cond, true, false, Bool, ◌&&◌, ◌||◌, ◌==◌, not, nat_lt, nat_le, All, sum_by, filter, insert, list_any, IsPermutation, IsNonDecreasingBy, IsPartitionedBy, IsPartitionPoint, div-add-mod', cases_Bool, le-leb, lt-leb, lt-ltb, leb-true, leb-false, take-append-drop, get_or-take, get_or-drop, get_or_append_left, length-append, length-take, length-drop, append_assoc, append-nil, length-map, sum_by-cons, sum_by-le, filter-append, All-from_get_or, All-cons, All-append, All-take, All-map, All-weaker, All-permutation, IsPermutation-trans, IsPermutation-append_left, IsPermutation-middle, IsNonDecreasingBy-insert, length_permutation, sum_by_pushed, sum_by-IsPermutation, list_any-IsPermutation, Job, IsJob, Piece, stretches, div_up, is_live, term_of, terms_of, rounds_term, average_rate_rounds, stretch_at, sum_by-filter, filter_none, filter_all}
use Rattle.base.specs.declared.limits.TheConstants.{MAX_GRID, MAX_JOBS, MAX_TIME}
use Rattle.yds_events.specs.Stretch.{IsOutside}
use Rattle.yds_avr.specs.declared.rate.Rate.{Rate}
use Rattle.yds_avr.specs.Rate.{rate_of, rate_units, rate_term, rate_rounds, IsRate, IsLive}
use Rattle.yds_avr.specs.Roster.{no_rate, rate_at, rates_of, HaveFallingDeadlines, AreRates, AreParts, IsRoster}
use Rattle.yds_avr.proofs.Rounded.{whole_few}

-- the stretch lies in the job's window
abbrev pub rate_live : Piece → Rate → Bool
rate_live stretch rate = nat_le rate.release stretch.from && nat_lt stretch.from rate.deadline

-- the parts of the live jobs together, and whether one isn't whole
abbrev pub rates_together : List Rate → Piece → ℕ
rates_together rates stretch = sum_by (rate_term stretch) (filter (rate_live stretch) rates)

abbrev pub some_rounds : List Rate → Piece → Bool
some_rounds rates stretch = list_any (rate_rounds stretch) (filter (rate_live stretch) rates)

-- # In falling order of the deadlines

-- due no earlier than a rate
pub falls_behind : (live : List Rate) (time : ℕ) → All IsRate live → HaveFallingDeadlines live → IsPartitionedBy (λ (other : Rate). nat_le time other.deadline) live
falls_behind live time are falling i j d order within later =
    le-leb time (get_or live i d).deadline (omega (arith, leb-true time (get_or live j d).deadline later, falling i j d order within, (are j d within).time_in_range))

pub goes_in : (live : List Rate) (rate : Rate) (place : ℕ) → HaveFallingDeadlines live → place ≤ length live →
    IsPartitionPoint (λ (other : Rate). nat_le rate.deadline other.deadline ≡ true) (λ (other : Rate). nat_le rate.deadline other.deadline ≡ false) live place →
    HaveFallingDeadlines (insert live place rate)
goes_in live rate place falling within found = IsNonDecreasingBy-insert (λ (other : Rate). MAX_TIME - other.deadline) live place rate falling within
    (λ k d less. omega (arith, leb-true rate.deadline (get_or live k d).deadline (found.0 k d (omega arith) less)))
    (λ k d behind less. omega (arith, leb-false rate.deadline (get_or live k d).deadline (found.1 k d behind less)))

pub due_behind : (live : List Rate) (stay time : ℕ) → ((place : ℕ) → stay ≤ place → place < length live → (rate_at live place).deadline ≤ time) → All (λ rate. rate.deadline ≤ time) (drop stay live)
due_behind live stay time due = All-from_get_or (λ rate. rate.deadline ≤ time) (drop stay live) no_rate (λ place less. omega (
  arith,
  due (stay + place) (omega arith) (omega (arith, less, length-drop stay live)),
  ap (λ (rate : Rate). rate.deadline) (get_or-drop stay live place no_rate),
))

-- by the time until a day that comes after all
pub falls_by : (live : List Rate) → All IsRate live → IsNonDecreasingBy (λ rate. 4294967295 - rate.deadline) live → HaveFallingDeadlines live
falls_by live are rising i j d order within = omega (arith, rising i j d order within, (are j d within).time_in_range, (are i d (omega arith)).time_in_range)

-- # As time goes on

pub stands_later : (order live : List Rate) (arrived whole capacity time later : ℕ) → IsRoster order live arrived whole capacity time → time ≤ later →
    IsRoster order live arrived whole capacity later
stands_later order live arrived whole capacity time later so after = grind arith

module _ (order live : List Rate) (arrived whole capacity time : ℕ) (so : AreParts order live arrived whole capacity time) where
  -- what is said of all is said of the live ones
  pub live_all : (P : Rate → Type 0) → All P order → All P live
  live_all P all k d less =
      let each = All-permutation P order (live ++ (so.over ++ drop arrived order)) so.same all in
      subst P (get_or_append_left live (so.over ++ drop arrived order) d k less) (each k d (omega (arith, less, length-append live (so.over ++ drop arrived order))))

  pub live_few : length live ≤ length order
  live_few = omega (arith, length_permutation order (live ++ (so.over ++ drop arrived order)) so.same, length-append live (so.over ++ drop arrived order))

  pub whole_fits : AreRates order → whole ≤ 4000000000000000
  whole_fits rates = omega (
    arith,
    so.together,
    sum_by-le (λ (rate : Rate). rate.whole) 1000000000000 live (live_all (λ rate. rate.whole ≤ 1000000000000) (All-weaker IsRate (λ rate. rate.whole ≤ 1000000000000) whole_few order rates.each)),
    live_few,
    rates.few,
  )

  -- the next arrives
  pub one_arrives : (rate : Rate) (after : List Rate) (room : ℕ) → arrived < length order → rate_at order arrived ≡ rate → rate.release ≤ time →
      IsPermutation (rate ∷ live) after → capacity ≤ room → AreParts order after (arrived + 1) (whole + rate.whole) room time
  one_arrives rate after room known is released same more =
      let rest = drop (arrived + 1) order in
      let next : drop arrived order ≡ rate ∷ rest = subst (λ (one : Rate). drop arrived order ≡ one ∷ rest) is (rw (add-one arrived) (drop-cons order arrived no_rate known)) in
      record {
        within = omega arith;
        rising = so.rising;
        together = omega (arith, so.together, sum_by_pushed (λ (one : Rate). one.whole) rate live after same);
        room = omega (arith, so.room, length_permutation (rate ∷ live) after same);
        over = so.over;
        same =
            IsPermutation-trans order (live ++ (so.over ++ drop arrived order)) (after ++ (so.over ++ rest)) so.same
            (rw (next, sym (append_assoc live so.over (rate ∷ rest)))
            (IsPermutation-trans ((live ++ so.over) ++ rate ∷ rest) (rate ∷ ((live ++ so.over) ++ rest)) (after ++ (so.over ++ rest)) (IsPermutation-middle (live ++ so.over) rate rest)
            (rw (append_assoc live so.over rest) (IsPermutation-append_left (so.over ++ rest) (rate ∷ live) after same))));
        come = All-permutation (λ one. one.release ≤ time) (rate ∷ live) after same (All-cons (λ one. one.release ≤ time) rate live released so.come);
        done = so.done;
      }

  -- those that are live, in another order
  pub other_order : (after : List Rate) (room : ℕ) → IsPermutation live after → capacity ≤ room → AreParts order after arrived whole room time
  other_order after room same more = record {
    within = so.within;
    rising = so.rising;
    together = so.together ∙ sym (sum_by-IsPermutation (λ (rate : Rate). rate.whole) live after same);
    room = omega (arith, so.room, more, length_permutation live after same);
    over = so.over;
    same = IsPermutation-trans order (live ++ (so.over ++ drop arrived order)) (after ++ (so.over ++ drop arrived order)) so.same
        (IsPermutation-append_left (so.over ++ drop arrived order) live after same);
    come = All-permutation (λ rate. rate.release ≤ time) live after same so.come;
    done = so.done;
  }

  -- those that are due stand behind
  pub some_leave : (stay left : ℕ) → left ≡ sum_by (λ rate. rate.whole) (take stay live) → All (λ rate. rate.deadline ≤ time) (drop stay live) →
      AreParts order (take stay live) arrived left capacity time
  some_leave stay left together due = record {
    within = so.within;
    rising = so.rising;
    together = together;
    room = omega (arith, so.room, length-take stay live);
    over = drop stay live ++ so.over;
    same = subst (λ (rates : List Rate). IsPermutation order rates)
        (ap (λ (rates : List Rate). rates ++ (so.over ++ drop arrived order)) (sym (take-append-drop stay live))
        ∙ append_assoc (take stay live) (drop stay live) (so.over ++ drop arrived order)
        ∙ ap (λ (rates : List Rate). take stay live ++ rates) (sym (append_assoc (drop stay live) so.over (drop arrived order))))
        so.same;
    come = All-take (λ rate. rate.release ≤ time) stay live so.come;
    done = All-append (λ rate. rate.deadline ≤ time) (drop stay live) so.over due so.done;
  }

  -- none is to come before the next
  pub coming_later : (arrived < length order → time < (rate_at order arrived).release) → All (λ rate. time < rate.release) (drop arrived order)
  coming_later next = All-from_get_or (λ rate. time < rate.release) (drop arrived order) no_rate (λ place less.
      let known : arrived + place < length order = omega (arith, less, length-drop arrived order) in
      omega (
        arith,
        next (omega (arith, known)),
        so.rising arrived (arrived + place) no_rate (omega arith) known,
        ap (λ (rate : Rate). rate.release) (get_or-drop arrived order place no_rate),
      ))

  -- none is due before the last
  pub none_due : All IsRate order → HaveFallingDeadlines live → (stay : ℕ) → stay ≤ length live → (0 < stay → time < (rate_at live (stay - 1)).deadline) → All (λ rate. time < rate.deadline) (take stay live)
  none_due are falling stay within last = All-from_get_or (λ rate. time < rate.deadline) (take stay live) no_rate (λ place less.
      let before : place < stay = omega (arith, less, length-take stay live) in
      omega (
        arith,
        last (omega (arith, before)),
        falling place (stay - 1) no_rate (omega (arith, before)) (omega (arith, before, within)),
        (live_all IsRate are (stay - 1) no_rate (omega (arith, before, within))).time_in_range,
        ap (λ (rate : Rate). rate.deadline) (get_or-take stay live place no_rate before),
      ))

-- # What has a part of a stretch

over_not_live : (stretch : Piece) (rate : Rate) → rate.deadline ≤ stretch.from → rate_live stretch rate ≡ false
over_not_live stretch rate over = grind arith

coming_not_live : (stretch : Piece) (rate : Rate) → stretch.from < rate.release → rate_live stretch rate ≡ false
coming_not_live stretch rate early = rw (lt-leb rate.release stretch.from early) refl

-- a test of what passes another
any_filter : {X : Type 0} (p f : X → Bool) (xs : List X) → list_any f (filter p xs) ≡ list_any (λ x. p x && f x) xs
any_filter p f [] = refl
any_filter p f (x ∷ xs) = elim (cases_Bool (p x)) [
  | inl passes ↦ rw (passes) (ap (λ b. f x || b) (any_filter p f xs))
  | inr fails ↦ rw (fails) (any_filter p f xs)
]

together_permuted : (rates order : List Rate) (stretch : Piece) → IsPermutation rates order → rates_together rates stretch ≡ rates_together order stretch
together_permuted rates order stretch same = grind (arith, sum_by-IsPermutation, sum_by-filter)

rounds_permuted : (rates order : List Rate) (stretch : Piece) → IsPermutation rates order → some_rounds rates stretch ≡ some_rounds order stretch
rounds_permuted rates order stretch same =
    any_filter (rate_live stretch) (rate_rounds stretch) rates
    ∙ list_any-IsPermutation (λ rate. rate_live stretch rate && rate_rounds stretch rate) rates order same
    ∙ sym (any_filter (rate_live stretch) (rate_rounds stretch) order)

-- # A rate is its job's

units_same : (grid : ℕ) (job : Job) → rate_units (rate_of grid job) ≡ grid * job.work
units_same grid job = div-add-mod' (grid * job.work) (job.deadline - job.release)

term_same : (grid : ℕ) (stretch : Piece) (job : Job) → rate_term stretch (rate_of grid job) ≡ term_of grid stretch job
term_same grid stretch job = ap (λ n. div_up (n * (stretch.to - stretch.from)) (job.deadline - job.release)) (units_same grid job)

rounds_same : (grid : ℕ) (stretch : Piece) (job : Job) → rate_rounds stretch (rate_of grid job) ≡ rounds_term grid stretch job
rounds_same grid stretch job = ap (λ n. not (n * (stretch.to - stretch.from) % (job.deadline - job.release) == 0)) (units_same grid job)

live_terms : (grid : ℕ) (stretch : Piece) (jobs : List Job) →
    sum_by (λ rate. cond (rate_live stretch rate) (rate_term stretch rate) 0) (rates_of grid jobs) ≡ sum_by (λ job. cond (is_live stretch job) (term_of grid stretch job) 0) jobs
live_terms grid stretch [] = refl
live_terms grid stretch (job ∷ jobs) = omega (
  arith,
  sum_by-cons (λ rate. cond (rate_live stretch rate) (rate_term stretch rate) 0) (rate_of grid job) (rates_of grid jobs),
  sum_by-cons (λ job. cond (is_live stretch job) (term_of grid stretch job) 0) job jobs,
  ap (λ n. cond (is_live stretch job) n 0) (term_same grid stretch job),
  live_terms grid stretch jobs,
)

terms_same : (grid : ℕ) (stretch : Piece) (jobs : List Job) → rates_together (rates_of grid jobs) stretch ≡ terms_of jobs grid stretch
terms_same grid stretch jobs =
    sum_by-filter (rate_live stretch) (rate_term stretch) (rates_of grid jobs)
    ∙ live_terms grid stretch jobs
    ∙ sym (sum_by-filter (is_live stretch) (term_of grid stretch) jobs)

live_rounds : (grid : ℕ) (stretch : Piece) (jobs : List Job) →
    list_any (λ rate. rate_live stretch rate && rate_rounds stretch rate) (rates_of grid jobs) ≡ list_any (λ job. is_live stretch job && rounds_term grid stretch job) jobs
live_rounds grid stretch [] = refl
live_rounds grid stretch (job ∷ jobs) =
    ap (λ b. is_live stretch job && b || list_any (λ rate. rate_live stretch rate && rate_rounds stretch rate) (rates_of grid jobs)) (rounds_same grid stretch job)
    ∙ ap (λ b. is_live stretch job && rounds_term grid stretch job || b) (live_rounds grid stretch jobs)

some_same : (grid : ℕ) (stretch : Piece) (jobs : List Job) → some_rounds (rates_of grid jobs) stretch ≡ average_rate_rounds jobs grid stretch
some_same grid stretch jobs =
    any_filter (rate_live stretch) (rate_rounds stretch) (rates_of grid jobs)
    ∙ live_rounds grid stretch jobs
    ∙ sym (any_filter (is_live stretch) (rounds_term grid stretch) jobs)

is_rate : (grid : ℕ) → grid ≤ MAX_GRID → (job : Job) → IsJob job → IsRate (rate_of grid job)
is_rate grid in_range job is = grind arith

are_rates : (grid : ℕ) (jobs : List Job) → grid ≤ MAX_GRID → All IsJob jobs → All IsRate (rates_of grid jobs)
are_rates grid jobs in_range are = All-map IsRate (rate_of grid) jobs (All-weaker IsJob (λ job. IsRate (rate_of grid job)) (is_rate grid in_range) jobs are)

rates_outside : (grid : ℕ) (jobs : List Job) (stretch : Piece) → All (λ job. IsOutside stretch job.deadline) jobs → All (λ rate. IsOutside stretch rate.deadline) (rates_of grid jobs)
rates_outside grid jobs stretch outside = All-map (λ rate. IsOutside stretch rate.deadline) (rate_of grid) jobs outside

-- # The live jobs' parts are those of all

pub all_rates : (jobs : List Job) (grid : ℕ) (order : List Rate) → grid ≤ MAX_GRID → All IsJob jobs → length jobs ≤ MAX_JOBS → IsPermutation (rates_of grid jobs) order → AreRates order
all_rates jobs grid order in_range are few same = record {
  each = All-permutation IsRate (rates_of grid jobs) order same (are_rates grid jobs in_range are);
  few = omega (arith, few, length_permutation (rates_of grid jobs) order same, length-map jobs (rate_of grid));
}

module _ (jobs : List Job) (grid : ℕ) (order live : List Rate) (arrived whole capacity time : ℕ) (stretch : Piece) (so : AreParts order live arrived whole capacity time)
    (now : time ≡ stretch.from) (same : IsPermutation (rates_of grid jobs) order) (coming : All (λ rate. time < rate.release) (drop arrived order))
    (due : All (λ rate. time < rate.deadline) live) where
  passes : filter (rate_live stretch) (live ++ (so.over ++ drop arrived order)) ≡ live
  passes =
      let test = rate_live stretch in
      let front : filter test live ≡ live = filter_all test live (λ k d less.
      rw (le-leb (get_or live k d).release stretch.from (omega (arith, so.come k d less, now)), lt-ltb stretch.from (get_or live k d).deadline (omega (arith, due k d less, now))) refl) in
      let over : filter test so.over ≡ [] = filter_none test so.over (λ k d less. over_not_live stretch (get_or so.over k d) (omega (arith, so.done k d less, now))) in
      let back : filter test (drop arrived order) ≡ [] = filter_none test (drop arrived order) (λ k d less. coming_not_live stretch (get_or (drop arrived order) k d) (omega (arith, coming k d less, now))) in
      filter-append test live (so.over ++ drop arrived order)
      ∙ ap (λ (rates : List Rate). rates ++ filter test (so.over ++ drop arrived order)) front
      ∙ ap (λ (rates : List Rate). live ++ rates) (filter-append test so.over (drop arrived order) ∙ ap (λ (rates : List Rate). rates ++ filter test (drop arrived order)) over ∙ back)
      ∙ append-nil live

  permuted : IsPermutation (rates_of grid jobs) (live ++ (so.over ++ drop arrived order))
  permuted = IsPermutation-trans (rates_of grid jobs) order (live ++ (so.over ++ drop arrived order)) same so.same

  pub live_terms_are : sum_by (rate_term stretch) live ≡ terms_of jobs grid stretch
  live_terms_are =
      sym (together_permuted (rates_of grid jobs) (live ++ (so.over ++ drop arrived order)) stretch permuted ∙ ap (sum_by (rate_term stretch)) passes) ∙ terms_same grid stretch jobs

  pub live_rounds_are : list_any (rate_rounds stretch) live ≡ average_rate_rounds jobs grid stretch
  live_rounds_are =
      sym (rounds_permuted (rates_of grid jobs) (live ++ (so.over ++ drop arrived order)) stretch permuted ∙ ap (list_any (rate_rounds stretch)) passes) ∙ some_same grid stretch jobs

  pub are_live : grid ≤ MAX_GRID → All IsJob jobs → All (λ job. IsOutside stretch job.deadline) jobs → All (IsLive stretch) live
  are_live in_range are outside k d less = record {
    is_rate = all IsRate (are_rates grid jobs in_range are) k d less;
    released = omega (arith, so.come k d less, now);
    due = elim (all (λ rate. IsOutside stretch rate.deadline) (rates_outside grid jobs stretch outside) k d less) [
      | inl over ↦ absurd (omega (arith, over, due k d less, now))
      | inr until ↦ until
    ];
  } where
    all : (P : Rate → Type 0) → All P (rates_of grid jobs) → All P live
    all P each = live_all order live arrived whole capacity time so P (All-permutation P (rates_of grid jobs) order same each)
