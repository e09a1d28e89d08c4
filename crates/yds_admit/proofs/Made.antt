-- The pieces of jobs, job by job.
use Rattle.yds_model.proofs.Common.{◌≡◌, ℕ, ◌+◌, ◌<◌, ◌≤◌, List, [], ◌∷◌, ◌++◌, Bool, true, false, if◌then◌else◌, map, take, length, get_or, ◌∙◌, refl, sym, subst, arith, inl, inr, ap, Any, filter, sum_by, cases_lt, get_or_append_left, get_or-append_right, get_or_default, get_or_push, length-append, length_push, append-nil, map-append, filter_more, sum_by-append, sum_by_push, Job, no_job, job_at, Any-append_left, work_within}
use Rattle.model_lemmas.proofs.Confined.{part_within}
use Rattle.yds_admit.specs.declared.board.Spot.{Spot}
use Rattle.yds_admit.specs.Board.{falling_jobs}
use Rattle.yds_admit.specs.Pieces.{IsCutInto, AreCut}
use Rattle.yds_admit.proofs.Fitting.{no_spot, spot_at}
use Rattle.yds_admit.proofs.Cutting.{added}

-- the marked jobs of one spot more
pub falling_more : (rows : List Job) (marks : List Bool) (spots : List Spot) (n : ℕ) → n < length spots → get_or marks (spot_at spots n).number false ≡ true →
    falling_jobs rows marks (take (n + 1) spots) ≡ falling_jobs rows marks (take n spots) ++ job_at rows (spot_at spots n).number ∷ []
falling_more rows marks spots n below is =
    let test : Spot → Bool = λ spot. get_or marks spot.number false in
    let spot : Spot = spot_at spots n in
    ap (map (λ (one : Spot). job_at rows one.number))
    (filter_more test spots n no_spot below ∙ ap (λ (b : Bool). filter test (take n spots) ++ (if b then spot ∷ [] else [])) is)
    ∙ map-append (λ (one : Spot). job_at rows one.number) (filter test (take n spots)) (spot ∷ [])

-- a spot that isn't marked
pub falling_same : (rows : List Job) (marks : List Bool) (spots : List Spot) (n : ℕ) → n < length spots → get_or marks (spot_at spots n).number false ≡ false →
    falling_jobs rows marks (take (n + 1) spots) ≡ falling_jobs rows marks (take n spots)
falling_same rows marks spots n below is =
    let test : Spot → Bool = λ spot. get_or marks spot.number false in
    ap (map (λ (one : Spot). job_at rows one.number))
    (filter_more test spots n no_spot below ∙ ap (λ (b : Bool). filter test (take n spots) ++ (if b then spot_at spots n ∷ [] else [])) is
    ∙ append-nil (filter test (take n spots)))

-- no job is cut yet
pub none_made : AreCut [] []
none_made = grind arith

-- the pieces of one job more come after the others
module _ (job : Job) (old new : List Job) (into : IsCutInto job old new) where
  long : length new ≡ length old + length into.more
  long = ap (λ (jobs : List Job). length jobs) into.is ∙ length-append old into.more

  front : (i : ℕ) → i < length old → (job_at new i).release ≡ (job_at old i).release
  front i below = ap (λ (jobs : List Job). (job_at jobs i).release) into.is ∙ ap (λ (one : Job). one.release) (get_or_append_left old into.more no_job i below)

  back : (i : ℕ) → length old ≤ i → i < length new → (job_at new i).release ≡ job.release
  back i from below = grind (arith, get_or-append_right, long)

  -- none of the pieces is released before a time
  pub none_before : (time : ℕ) → time ≤ job.release → ((i : ℕ) → i < length old → time ≤ (job_at old i).release) → (i : ℕ) → i < length new → time ≤ (job_at new i).release
  none_before time own others i below = grind (arith, back, cases_lt, front)

  -- one job more is cut, which isn't released after the pieces before
  pub one_made : (all : List Job) → AreCut all old → ((i : ℕ) → i < length old → job.release ≤ (job_at old i).release) → AreCut (all ++ job ∷ []) new
  one_made all made later = record {
    falling = λ i j order below. elim (cases_lt j (length old)) [
      | inl early ↦ omega (arith, made.falling i j order early, front i (omega (arith, order, early)), front j early)
      | inr late ↦ omega (arith, back j late below, none_before job.release (omega arith) later i (omega (arith, order, below)))
    ];
    total = omega (
      arith,
      ap (λ (jobs : List Job). sum_by (λ (one : Job). one.work) jobs) into.is,
      sum_by-append (λ (one : Job). one.work) old into.more,
      into.work,
      made.total,
      sum_by_push (λ (one : Job). one.work) all job,
    );
    same = λ from to. omega (
      arith,
      ap (λ (jobs : List Job). work_within jobs from to) into.is,
      sum_by-append (part_within from to) old into.more,
      added from to job into.more into.windows into.work,
      made.same from to,
      sum_by_push (part_within from to) all job,
    );
    kept = λ from some. elim (cases_lt some.0 (length all)) [
      | inl early ↦
          let there = made.kept from (some.0, some.1, early, sym (get_or_append_left all (job ∷ []) some.1 some.0 early) ∙ some.3, some.4) in
          subst (Any (λ (one : Job). one.release ≡ from)) (sym into.is) (Any-append_left (λ (one : Job). one.release ≡ from) old into.more there)
      | inr late ↦
          let here : length all ≡ some.0 = omega (arith, late, some.2, length_push all job) in (
            length old,
            job_at new (length old),
            omega (arith, long, into.some),
            get_or_default new (length old) (job_at new (length old)) no_job (omega (arith, long, into.some)),
            back (length old) (omega arith) (omega (arith, long, into.some)) ∙ ap (λ (one : Job). one.release) (sym (get_or_push all job some.1 some.0 here) ∙ some.3) ∙ some.4,
          )
    ];
    known = λ from some. elim (cases_lt some.0 (length old)) [
      | inl early ↦ Any-append_left (λ (one : Job). one.release ≡ from) all (job ∷ []) (made.known from (
        some.0,
        job_at old some.0,
        early,
        get_or_default old some.0 (job_at old some.0) no_job early,
        sym (front some.0 early) ∙ read new from some,
      ))
      | inr late ↦ (length all, job, omega (arith, length_push all job), get_or_push all job job (length all) refl, sym (back some.0 late some.2) ∙ read new from some)
    ];
  } where
    read : (jobs : List Job) (from : ℕ) (some : Any (λ (one : Job). one.release ≡ from) jobs) → (job_at jobs some.0).release ≡ from
    read jobs from some = ap (λ (one : Job). one.release) (get_or_default jobs some.0 no_job some.1 some.2 ∙ some.3) ∙ some.4
