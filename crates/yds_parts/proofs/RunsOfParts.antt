-- Runs of both policies on a grid: those of both parts, one after another, are one of all jobs.
use Rattle.yds_model.proofs.Common.{rules, ◌≡◌, ℕ, length, ◌+◌, ◌-◌, ◌*◌, ◌<◌, ◌≤◌, Bool, false, min, max, List, [], ◌∷◌, ◌++◌, map, refl, sym, ap, subst, ◌∙◌, arith, append-nil, sum_by, count_by, fold, cond, All, Contains, filter, list_any, lt-leb, le-ltb, filter-append, All-from_get_or, All-append, Contains-append_left, Contains-append_right, All-map, sum_by-append, false-and, and-false, fun_ext, Job, no_job, job_at, WholeSlot, slots_at, Piece, IsFeasibleAt, stretches, div_up, pending_units, IsRunAt, HasRunDenominators, is_live, term_of, terms_of, average_rate, rounds_term, average_rate_rounds, pending_jobs, due_units, pending_deadlines, asked, units_asked, optimal_available, optimal_available_rounds, sum_by_same, filter_none}
use Rattle.yds_parts.specs.Parts.{ArePartedAt, together_at, moved_written, WindowsAreForward}
use Rattle.yds_parts.specs.RunsOfParts.{AverageRateOfParts, OptimalAvailableOfParts, RunDenominatorsOfParts}
use Rattle.yds_parts.proofs.WrittenParts.{together_is, scale_of_first, scale_of_second, solid_of_both}
use Rattle.yds_parts.proofs.EventsOfParts.{IsGap, EndsBy, BeginsFrom, stretches_between, stretches_joined, gaps_are, first_stretches, second_stretches}
use Rattle.yds_parts.proofs.PendingOfParts.{after_gap, before_gap, after_first, before_second, units_together, second_units_none, first_units_none, deadlines_together, due_together, none_waiting_second, none_waiting_first}
use Rattle.yds_parts.proofs.ServedOfParts.{run_together}

-- # Counts of stretches

-- tests that agree count as much
count_same : (p q : Piece → Bool) (pieces : List Piece) → All (λ piece. p piece ≡ q piece) pieces → count_by p pieces ≡ count_by q pieces
count_same p q pieces same =
    sum_by_same (λ piece. cond (p piece) 1 0) (λ piece. cond (q piece) 1 0) pieces (λ k d within. ap {B = ℕ} (λ b. cond b 1 0) (same k d within))

-- a test that fails counts nothing
count_none : (pieces : List Piece) → count_by (λ piece. false) pieces ≡ 0
count_none [] = refl
count_none (piece ∷ pieces) = count_none pieces

-- in each part the stretches count as they do there, and between the two none does
counts_together : (time : ℕ) (first second : List Job) → ArePartedAt time first second → WindowsAreForward first → WindowsAreForward second → (p earlier after : Piece → Bool) →
    ((stretch : Piece) → EndsBy time stretch → p stretch ≡ earlier stretch) → ((stretch : Piece) → BeginsFrom time stretch → p stretch ≡ after stretch) →
    ((stretch : Piece) → IsGap first second stretch → p stretch ≡ false) →
    count_by p (stretches (first ++ second)) ≡ count_by earlier (stretches first) + count_by after (stretches second)
counts_together time first second parted windows later_windows p earlier after in_earlier in_after in_between =
    let gaps : List Piece = stretches_between first second in
    let number : Piece → ℕ = λ piece. cond (p piece) 1 0 in
    omega (
      arith,
      ap (count_by p) (stretches_joined time first second parted windows later_windows),
      sum_by-append number (stretches first) (gaps ++ stretches second),
      sum_by-append number gaps (stretches second),
      count_same p earlier (stretches first) (λ k d within. in_earlier _ (first_stretches time first second parted windows later_windows k d within)),
      count_same p (λ piece. false) gaps (λ k d within. in_between _ (gaps_are time first second parted windows later_windows k d within)),
      count_none gaps,
      count_same p after (stretches second) (λ k d within. in_after _ (second_stretches time first second parted windows later_windows k d within)),
    )

-- # Average Rate: live jobs

module _ (time : ℕ) (first second : List Job) (parted : ArePartedAt time first second) where
  none_live_second : (stretch : Piece) → All (λ job. stretch.from < job.release) second → filter (is_live stretch) second ≡ []
  none_live_second stretch before = grind (arith, false-and, filter_none, lt-leb)

  -- no first job is live after its window
  none_live_first : (stretch : Piece) → All (λ job. job.deadline ≤ stretch.from) first → filter (is_live stretch) first ≡ []
  none_live_first stretch over = grind (arith, and-false, filter_none, le-ltb)

  -- in a stretch of the first jobs they alone are live
  live_first : (stretch : Piece) → EndsBy time stretch → filter (is_live stretch) (first ++ second) ≡ filter (is_live stretch) first
  live_first stretch ends = grind (arith, append-nil, filter-append, none_live_second)

  -- in one of the second they are
  live_second : (stretch : Piece) → BeginsFrom time stretch → filter (is_live stretch) (first ++ second) ≡ filter (is_live stretch) second
  live_second stretch begins = grind (arith, filter-append, none_live_first)

  -- and between none is
  live_gap : (stretch : Piece) → IsGap first second stretch → filter (is_live stretch) (first ++ second) ≡ []
  live_gap stretch gap =
      filter-append (is_live stretch) first second
      ∙ ap (λ (front : List Job). front ++ filter (is_live stretch) second)
      (none_live_first stretch (All-from_get_or (λ job. job.deadline ≤ stretch.from) first no_job (λ k within. gap.ended k within)))
      ∙ none_live_second stretch (All-from_get_or (λ job. stretch.from < job.release) second no_job
      (λ k within. let ahead = gap.ahead k within in omega (arith, ahead, gap.forward)))

  -- # Average Rate: what a stretch serves

  module _ (grid scale : ℕ) (slots others : List WholeSlot) (one : IsFeasibleAt first scale slots) (other : IsFeasibleAt second scale others) where
    abbrev jobs : List Job
    jobs = first ++ second

    abbrev all : List WholeSlot
    all = together_at first slots others

    -- in a stretch of the first jobs as much is served as in their part
    rate_first : (stretch : Piece) → EndsBy time stretch → average_rate jobs grid scale all stretch ≡ average_rate first grid scale slots stretch
    rate_first stretch ends =
        let units : pending_units jobs grid scale all stretch ≡ pending_units first grid scale slots stretch = omega (
          arith,
          units_together time scale first second parted slots others one other grid stretch,
          second_units_none time scale first second parted slots others one other grid stretch (before_second time scale first second parted slots others one other stretch ends),
        ) in
        ap (λ n. min n (scale * terms_of jobs grid stretch)) units
        ∙ ap (λ (live : List Job). min (pending_units first grid scale slots stretch) (scale * sum_by (term_of grid stretch) live)) (live_first stretch ends)

    -- so it is in one of the second
    rate_second : (stretch : Piece) → BeginsFrom time stretch → average_rate jobs grid scale all stretch ≡ average_rate second grid scale others stretch
    rate_second stretch begins =
        let units : pending_units jobs grid scale all stretch ≡ pending_units second grid scale others stretch = omega (
          arith,
          units_together time scale first second parted slots others one other grid stretch,
          first_units_none time scale first second parted slots others one other grid stretch (after_first time scale first second parted slots others one other stretch begins),
        ) in
        ap (λ n. min n (scale * terms_of jobs grid stretch)) units
        ∙ ap (λ (live : List Job). min (pending_units second grid scale others stretch) (scale * sum_by (term_of grid stretch) live)) (live_second stretch begins)

    -- and between nothing is
    rate_gap : (stretch : Piece) → IsGap first second stretch → average_rate jobs grid scale all stretch ≡ 0
    rate_gap stretch gap = grind (arith, live_gap)

    -- # Optimal Available: what a stretch serves

    -- each deadline by which as much is due asks for as much
    asked_same : (part : List Job) (its : List WholeSlot) (stretch : Piece) →
        ((deadline : ℕ) → due_units jobs grid scale all stretch deadline ≡ due_units part grid scale its stretch deadline) →
        asked jobs grid scale all stretch ≡ asked part grid scale its stretch
    asked_same part its stretch due = fun_ext (λ deadline. ap (λ n. div_up (n * (stretch.to - stretch.from)) (scale * (deadline - stretch.from))) (due deadline))

    -- so what waits by the same deadlines does
    asks_same : (part : List Job) (its : List WholeSlot) (stretch : Piece) → pending_deadlines jobs scale all stretch ≡ pending_deadlines part scale its stretch →
        ((deadline : ℕ) → due_units jobs grid scale all stretch deadline ≡ due_units part grid scale its stretch deadline) →
        units_asked jobs grid scale all stretch ≡ units_asked part grid scale its stretch
    asks_same part its stretch deadlines due = simp (asked_same part its stretch due, deadlines)

    -- and it rounds where the part does
    rounds_same : (part : List Job) (its : List WholeSlot) (stretch : Piece) → pending_deadlines jobs scale all stretch ≡ pending_deadlines part scale its stretch →
        ((deadline : ℕ) → due_units jobs grid scale all stretch deadline ≡ due_units part grid scale its stretch deadline) →
        optimal_available_rounds jobs grid scale all stretch ≡ optimal_available_rounds part grid scale its stretch
    rounds_same part its stretch deadlines due = simp (asked_same part its stretch due, deadlines, due)

    -- a part of which nothing waits has nothing due
    nothing_due : (part : List Job) (its : List WholeSlot) (stretch : Piece) (deadline : ℕ) → pending_jobs part scale its stretch ≡ [] →
        due_units part grid scale its stretch deadline ≡ 0
    nothing_due part its stretch deadline none = grind arith

    abbrev deadlines_of : List Job → List ℕ → List ℕ
    deadlines_of part numbers = map (λ number. (job_at part number).deadline) numbers

    -- where no second job waits, only first deadlines ask
    deadlines_first : (stretch : Piece) → pending_jobs second scale others stretch ≡ [] → pending_deadlines jobs scale all stretch ≡ pending_deadlines first scale slots stretch
    deadlines_first stretch none =
        deadlines_together time scale first second parted slots others one other stretch
        ∙ ap (λ (some : List ℕ). pending_deadlines first scale slots stretch ++ deadlines_of second some) none
        ∙ append-nil (pending_deadlines first scale slots stretch)

    -- and only their work is due
    due_first : (stretch : Piece) (deadline : ℕ) → pending_jobs second scale others stretch ≡ [] →
        due_units jobs grid scale all stretch deadline ≡ due_units first grid scale slots stretch deadline
    due_first stretch deadline none = omega (
      arith,
      due_together time scale first second parted slots others one other grid stretch deadline,
      nothing_due second others stretch deadline none,
    )

    -- where no first job waits, only second ones ask
    deadlines_second : (stretch : Piece) → pending_jobs first scale slots stretch ≡ [] → pending_deadlines jobs scale all stretch ≡ pending_deadlines second scale others stretch
    deadlines_second stretch none =
        deadlines_together time scale first second parted slots others one other stretch
        ∙ ap (λ (some : List ℕ). deadlines_of first some ++ pending_deadlines second scale others stretch) none

    -- and only theirs is due
    due_second : (stretch : Piece) (deadline : ℕ) → pending_jobs first scale slots stretch ≡ [] →
        due_units jobs grid scale all stretch deadline ≡ due_units second grid scale others stretch deadline
    due_second stretch deadline none = omega (
      arith,
      due_together time scale first second parted slots others one other grid stretch deadline,
      nothing_due first slots stretch deadline none,
    )

    -- in a stretch of the first jobs no second one waits
    waits_first : (stretch : Piece) → EndsBy time stretch → pending_jobs second scale others stretch ≡ []
    waits_first stretch ends =
        none_waiting_second time scale first second parted slots others one other stretch (before_second time scale first second parted slots others one other stretch ends)

    -- in one of the second no first one does
    waits_second : (stretch : Piece) → BeginsFrom time stretch → pending_jobs first scale slots stretch ≡ []
    waits_second stretch begins =
        none_waiting_first time scale first second parted slots others one other stretch (after_first time scale first second parted slots others one other stretch begins)

    -- and between none at all
    none_waiting : (stretch : Piece) → IsGap first second stretch → pending_deadlines jobs scale all stretch ≡ []
    none_waiting stretch gap =
        deadlines_second stretch
        (none_waiting_first time scale first second parted slots others one other stretch (after_gap time scale first second parted slots others one other stretch gap))
        ∙ ap (deadlines_of second)
        (none_waiting_second time scale first second parted slots others one other stretch (before_gap time scale first second parted slots others one other stretch gap))

    -- so nothing is asked there
    none_asked : (stretch : Piece) → IsGap first second stretch → units_asked jobs grid scale all stretch ≡ 0
    none_asked stretch gap = ap (λ (some : List ℕ). fold max 0 (map (asked jobs grid scale all stretch) some)) (none_waiting stretch gap)

    -- in a stretch of the first jobs as much is served as in their part
    available_first : (stretch : Piece) → EndsBy time stretch → optimal_available jobs grid scale all stretch ≡ optimal_available first grid scale slots stretch
    available_first stretch ends = search (arith, rules, asks_same, deadlines_first, due_first, waits_first)

    -- so it is in one of the second
    available_second : (stretch : Piece) → BeginsFrom time stretch → optimal_available jobs grid scale all stretch ≡ optimal_available second grid scale others stretch
    available_second stretch begins = search (arith, rules, asks_same, deadlines_second, due_second, waits_second)

    -- and between nothing is
    available_gap : (stretch : Piece) → IsGap first second stretch → optimal_available jobs grid scale all stretch ≡ 0
    available_gap stretch gap = omega (arith, ap (λ n. scale * n) (none_asked stretch gap))

    -- it rounds where the part does
    rounds_first : (stretch : Piece) → EndsBy time stretch → optimal_available_rounds jobs grid scale all stretch ≡ optimal_available_rounds first grid scale slots stretch
    rounds_first stretch ends = search (arith, rules, deadlines_first, due_first, rounds_same, waits_first)

    -- so it is in one of the second
    rounds_second : (stretch : Piece) → BeginsFrom time stretch →
        optimal_available_rounds jobs grid scale all stretch ≡ optimal_available_rounds second grid scale others stretch
    rounds_second stretch begins = search (arith, rules, deadlines_second, due_second, rounds_same, waits_second)

    -- and between it rounds nowhere
    rounds_gap : (stretch : Piece) → IsGap first second stretch → optimal_available_rounds jobs grid scale all stretch ≡ false
    rounds_gap stretch gap = search (arith, rules, none_asked)

-- # The laws

-- the law: runs of Average Rate
pub average_rate_of_parts : AverageRateOfParts
average_rate_of_parts time grid rounded later_rounded first second slots others parted windows later_windows is later = record {
  run = record {
    solid = solid_of_both first slots others is.run.solid later.run.solid;
    holds = λ scale divides.
        let run = is.run.holds scale (scale_of_first scale first slots others divides) in
        let later_run = later.run.holds scale (scale_of_second scale first slots others divides) in
        let whole : List WholeSlot = slots_at scale slots in
        let later_whole : List WholeSlot = slots_at scale others in
        subst (λ (all : List WholeSlot). IsRunAt (first ++ second) grid scale (average_rate (first ++ second) grid scale all) all) (sym (together_is scale first slots others))
        (run_together time scale first second parted windows later_windows whole later_whole run.feasible later_run.feasible grid
        (average_rate (first ++ second) grid scale (together_at first whole later_whole)) (average_rate first grid scale whole) (average_rate second grid scale later_whole)
        (rate_first time first second parted grid scale whole later_whole run.feasible later_run.feasible)
        (rate_second time first second parted grid scale whole later_whole run.feasible later_run.feasible)
        (rate_gap time first second parted grid scale whole later_whole run.feasible later_run.feasible) run later_run);
  };
  rounds = omega (
    arith,
    is.rounds,
    later.rounds,
    counts_together time first second parted windows later_windows (average_rate_rounds (first ++ second) grid) (average_rate_rounds first grid) (average_rate_rounds second grid)
        (λ stretch ends. ap (list_any (rounds_term grid stretch)) (live_first time first second parted stretch ends))
        (λ stretch begins. ap (list_any (rounds_term grid stretch)) (live_second time first second parted stretch begins))
        (λ stretch gap. ap (list_any (rounds_term grid stretch)) (live_gap time first second parted stretch gap)),
  );
}

-- the law: runs of Optimal Available
pub optimal_available_of_parts : OptimalAvailableOfParts
optimal_available_of_parts time grid rounded later_rounded first second slots others parted windows later_windows is later =
    let solid = solid_of_both first slots others is.run.solid later.run.solid in
    record {
      run = record {
        solid = solid;
        holds = λ scale divides.
            let run = is.run.holds scale (scale_of_first scale first slots others divides) in
            let later_run = later.run.holds scale (scale_of_second scale first slots others divides) in
            let whole : List WholeSlot = slots_at scale slots in
            let later_whole : List WholeSlot = slots_at scale others in
            subst (λ (all : List WholeSlot). IsRunAt (first ++ second) grid scale (optimal_available (first ++ second) grid scale all) all)
            (sym (together_is scale first slots others))
            (run_together time scale first second parted windows later_windows whole later_whole run.feasible later_run.feasible grid
            (optimal_available (first ++ second) grid scale (together_at first whole later_whole)) (optimal_available first grid scale whole)
            (optimal_available second grid scale later_whole)
            (available_first time first second parted grid scale whole later_whole run.feasible later_run.feasible)
            (available_second time first second parted grid scale whole later_whole run.feasible later_run.feasible)
            (available_gap time first second parted grid scale whole later_whole run.feasible later_run.feasible) run later_run);
      };
      rounds = record {
        solid = solid;
        holds = λ scale divides.
            let first_scale = scale_of_first scale first slots others divides in
            let second_scale = scale_of_second scale first slots others divides in
            let run = is.run.holds scale first_scale in
            let later_run = later.run.holds scale second_scale in
            let whole : List WholeSlot = slots_at scale slots in
            let later_whole : List WholeSlot = slots_at scale others in
            subst (λ (all : List WholeSlot). rounded + later_rounded ≡ count_by (optimal_available_rounds (first ++ second) grid scale all) (stretches (first ++ second)))
            (sym (together_is scale first slots others))
            (omega (
              arith,
              is.rounds.holds scale first_scale,
              later.rounds.holds scale second_scale,
              counts_together time first second parted windows later_windows (optimal_available_rounds (first ++ second) grid scale (together_at first whole later_whole))
                  (optimal_available_rounds first grid scale whole) (optimal_available_rounds second grid scale later_whole)
                  (rounds_first time first second parted grid scale whole later_whole run.feasible later_run.feasible)
                  (rounds_second time first second parted grid scale whole later_whole run.feasible later_run.feasible)
                  (rounds_gap time first second parted grid scale whole later_whole run.feasible later_run.feasible),
            ));
      };
    }

-- the law: the denominators
pub run_denominators_of_parts : RunDenominatorsOfParts
run_denominators_of_parts time grid first second slots others parted windows later_windows one other =
    let n : ℕ = length first in
    let joined = stretches_joined time first second parted windows later_windows in
    let gaps : List Piece = stretches_between first second in
    All-append (HasRunDenominators (first ++ second) grid) slots (map (moved_written n) others)
    (λ k d within.
    let is = one k d within in
    record {
      stretch = is.stretch;
      is_stretch = subst (λ (all : List Piece). Contains all is.stretch) (sym joined)
          (Contains-append_left (stretches first) (gaps ++ stretches second) is.stretch is.is_stretch);
      lies = is.lies;
      units = is.units;
      speed = is.speed;
      work = is.work;
      from = is.from;
      to = is.to;
    })
    (All-map (HasRunDenominators (first ++ second) grid) (moved_written n) others (λ k d within.
    let is = other k d within in
    record {
      stretch = is.stretch;
      is_stretch = subst (λ (all : List Piece). Contains all is.stretch) (sym joined)
          (Contains-append_right (stretches first) (gaps ++ stretches second) is.stretch (Contains-append_right gaps (stretches second) is.stretch is.is_stretch));
      lies = record { from = is.lies.from; to = is.lies.to };
      units = is.units;
      speed = is.speed;
      work = is.work;
      from = is.from;
      to = is.to;
    }))
