-- One piece more, and what the pieces before a place say of the work that is due.
use Rattle.yds_model.proofs.Common.{◌≡◌, ℕ, zero, suc, ◌+◌, ◌-◌, ◌*◌, ◌<◌, ◌≤◌, List, [], ◌∷◌, ◌++◌, length, get_or, take, ◌∙◌, refl, sym, subst, arith, inl, inr, ap, cond, nat_le, ◌&&◌, Bool, true, false, append_assoc, All, sum_by, cases_lt, cases_eq, le-leb, lt-leb, ne_eqb, get_or_append_left, get_or_push, length_push, take_all, take-append-le, append-nil, All-nil, All-push, sum_by_push, sum_by_more, sum_by-take-drop, Job, no_job, job_at, sum_by_same, sum_by_zero}
use Rattle.model_lemmas.proofs.Confined.{part_within}
use Rattle.base.specs.declared.limits.TheConstants.{MAX_JOBS, MAX_WORK}
use Rattle.base.specs.Numbers.{sum_below}
use Rattle.model_lemmas.proofs.SumsBelow.{sum_below_same, sum_below_front}
use Rattle.yds_admit.specs.Chain.{IsChain, due_work, AreEmpty}
use Rattle.yds_admit.specs.Board.{AreGaps}
use Rattle.yds_admit.specs.Pieces.{went, IsGreatest, IsCutting, IsCutInto}
use Rattle.yds_admit.proofs.Sweep.{no_more, attained}

pub yes : (place q x : ℕ) → place ≤ q → cond (nat_le place q) x 0 ≡ x
yes place q x most = ap {B = ℕ} (λ b. cond b x 0) (le-leb place q most)

no : (place q x : ℕ) → q < place → cond (nat_le place q) x 0 ≡ 0
no place q x less = ap {B = ℕ} (λ b. cond b x 0) (lt-leb place q less)

-- the greatest, from the chain after the pieces
greatest_of : (top : ℕ) (times : List ℕ) (jobs : List Job) (places gaps : List ℕ) (m n : ℕ) → take n jobs ≡ jobs → n ≡ length jobs →
    IsChain m (λ q. top * get_or times q 0) (λ q. due_work jobs (get_or times q 0)) (λ q. went (length jobs) jobs places q) gaps 0 0 →
    (q : ℕ) → q ≤ m → IsGreatest top times m n jobs places q
greatest_of top times jobs places gaps m n whole count chain q within =
    let reach : ℕ → ℕ = λ q. top * get_or times q 0 in
    let due : ℕ → ℕ = λ q. due_work jobs (get_or times q 0) in
    let done : ℕ → ℕ = λ q. went (length jobs) jobs places q in
    let found = attained m reach due done gaps chain (m - q) q (omega (arith, within)) in
    let same : went n jobs places q ≡ went (length jobs) jobs places q = ap (λ k. went k jobs places q) count in
    record {
      all = λ p later short.
          let split : q + (p - q) ≡ p = omega (arith, later) in
          omega (
            arith,
            same,
            ap (λ (some : List Job). due_work some (get_or times p 0)) whole,
            chain.most p short,
            subst (λ (k : ℕ). done k + reach q ≤ done q + reach k) split (no_more m reach due done gaps chain q (p - q) (omega (arith, split, short))),
          );
      at = found.0;
      later = found.1;
      within = found.2;
      exact = omega (arith, same, found.3, ap (λ (some : List Job). due_work some (get_or times found.0 0)) whole);
    }

-- the first n pieces stay the same
same_went : (n : ℕ) (jobs : List Job) (places : List ℕ) (job : Job) (place q : ℕ) → n ≤ length jobs → length places ≡ length jobs →
    went n (jobs ++ job ∷ []) (places ++ place ∷ []) q ≡ went n jobs places q
same_went n jobs places job place q few long = grind (arith, get_or_append_left, nat_le, sum_below_same)

next_term : (n : ℕ) (f : ℕ → ℕ) → sum_below (n + 1) f ≡ sum_below n f + f n
next_term n f = let e : n + 1 ≡ suc n = omega arith in ap (λ k. sum_below k f) e

-- one of the pieces more
pub next_went : (n : ℕ) (jobs : List Job) (places : List ℕ) (q : ℕ) →
    went (n + 1) jobs places q ≡ went n jobs places q + cond (nat_le (get_or places n 0) q) (job_at jobs n).work 0
next_went n jobs places q = next_term n (λ k. cond (nat_le (get_or places k 0) q) (job_at jobs k).work 0)

-- more pieces have no fewer units
pub went_grows : (n m : ℕ) (jobs : List Job) (places : List ℕ) (q : ℕ) → n ≤ m → went n jobs places q ≤ went m jobs places q
went_grows n m jobs places q = sum_below_front n m (λ k. cond (nat_le (get_or places k 0) q) (job_at jobs k).work 0)

-- at most the work of the first n pieces
pub went_most : (n : ℕ) (jobs : List Job) (places : List ℕ) (q : ℕ) → n ≤ length jobs → went n jobs places q ≤ sum_by (λ job. job.work) (take n jobs)
went_most zero jobs places q within = omega arith
went_most (suc n) jobs places q within =
    let e : n + 1 ≡ suc n = omega arith in
    omega (
      arith,
      went_most n jobs places q (omega arith),
      sum_by_more (λ (job : Job). job.work) jobs n no_job (omega arith),
      ap (λ k. sum_by (λ (job : Job). job.work) (take k jobs)) e,
      few_units (nat_le (get_or places n 0) q) (job_at jobs n).work,
    )
  where
    few_units : (b : Bool) (x : ℕ) → cond b x 0 ≤ x
    few_units true x = omega arith
    few_units false x = omega arith

-- with one more, they fit
pub went_fits : (n : ℕ) (jobs : List Job) (places : List ℕ) (q : ℕ) → n ≤ length jobs → sum_by (λ job. job.work) jobs ≤ MAX_JOBS * MAX_WORK →
    went n jobs places q ≤ MAX_JOBS * MAX_WORK
went_fits n jobs places q within few = omega (arith, went_most n jobs places q within, sum_by-take-drop (λ (job : Job). job.work) jobs n, few)

more_went : (jobs : List Job) (places : List ℕ) (job : Job) (place q : ℕ) → length places ≡ length jobs →
    went (length jobs + 1) (jobs ++ job ∷ []) (places ++ place ∷ []) q ≡ went (length jobs) jobs places q + cond (nat_le place q) job.work 0
more_went jobs places job place q long = grind (arith, get_or_push, nat_le, next_term, same_went)

-- a piece of a job whose deadline has the place `end`
module _ (top : ℕ) (times : List ℕ) (jobs : List Job) (places gaps new : List ℕ) (cutting : IsCutting top times jobs places gaps) (job : Job) (end place : ℕ)
    (within : end ≤ length gaps) (early : (q : ℕ) → q < end → get_or times q 0 < job.deadline)
    (late : (q : ℕ) → end ≤ q → q ≤ length gaps → job.deadline ≤ get_or times q 0) (before : place ≤ end) (empty : AreEmpty gaps place end)
    (as_long : length new ≡ length gaps) (taken : (q : ℕ) → q + 1 ≡ place → get_or new q 0 + job.work ≡ get_or gaps q 0)
    (others : (q : ℕ) → (q + 1 ≡ place → ⊥) → get_or new q 0 ≡ get_or gaps q 0) where
  abbrev m : ℕ
  m = length gaps

  more_due : (q : ℕ) → q ≤ m → due_work (jobs ++ job ∷ []) (get_or times q 0) ≡ due_work jobs (get_or times q 0) + cond (nat_le end q) job.work 0
  more_due q below = grind (arith, cases_lt, nat_le, no, sum_by_push, yes)

  chained : IsChain m (λ q. top * get_or times q 0) (λ q. due_work (jobs ++ job ∷ []) (get_or times q 0))
      (λ q. went (length (jobs ++ job ∷ [])) (jobs ++ job ∷ []) (places ++ place ∷ []) q) new 0 0
  chained =
      let done : ℕ → ℕ = λ q. went (length jobs) jobs places q in
      let is : (q : ℕ) → went (length (jobs ++ job ∷ [])) (jobs ++ job ∷ []) (places ++ place ∷ []) q ≡ done q + cond (nat_le place q) job.work 0 =
      λ q. ap (λ n. went n (jobs ++ job ∷ []) (places ++ place ∷ []) q) (length_push jobs job) ∙ more_went jobs places job place q cutting.as_long in
      record {
        as_long = as_long;
        steps = λ q below. elim (cases_eq (q + 1) place) [
          | inl same ↦ omega (
            arith,
            is q,
            is (q + 1),
            cutting.chain.steps q below,
            no place q job.work (omega (arith, same)),
            yes place (q + 1) job.work (omega (arith, same)),
            taken q same,
          )
          | inr other ↦ elim (cases_lt q place) [
            | inl less ↦ omega (
              arith,
              is q,
              is (q + 1),
              cutting.chain.steps q below,
              no place q job.work less,
              no place (q + 1) job.work (omega (arith, less, other)),
              others q other,
            )
            | inr most ↦ omega (
              arith,
              is q,
              is (q + 1),
              cutting.chain.steps q below,
              yes place q job.work most,
              yes place (q + 1) job.work (omega (arith, most)),
              others q other,
            )
          ]
        ];
        most = λ q below. elim (cases_lt q end) [
          | inl less ↦ omega (arith, is q, more_due q below, cutting.chain.most q below, no end q job.work less)
          | inr most ↦ omega (arith, is q, more_due q below, cutting.chain.most q below, yes end q job.work most, yes place q job.work (omega (arith, before, most)))
        ];
        exact = λ q below some. elim (cases_lt q place) [
          | inl less ↦ omega (
            arith,
            is q,
            more_due q (omega (arith, below)),
            exact_before q below some,
            no place q job.work less,
            no end q job.work (omega (arith, less, before)),
          )
          | inr most ↦ elim (cases_lt q end) [
            | inl between ↦ absurd (omega (arith, some, others q (λ e. omega (arith, e, most)), empty q most between))
            | inr after ↦ omega (arith, is q, more_due q (omega (arith, below)), exact_before q below some, yes place q job.work most, yes end q job.work after)
          ]
        ];
        last = omega (arith, is m, more_due m (omega arith), cutting.chain.last, yes place m job.work (omega (arith, before, within)), yes end m job.work within);
      }
    where
      exact_before : (q : ℕ) → q < m → 1 ≤ get_or new q 0 → went (length jobs) jobs places q ≡ due_work jobs (get_or times q 0)
      exact_before q below some = cutting.chain.exact q below (elim (cases_eq (q + 1) place) [
        | inl same ↦ omega (arith, some, taken q same)
        | inr other ↦ omega (arith, some, others q other)
      ])

  pub one_piece_more : IsCutting top times (jobs ++ job ∷ []) (places ++ place ∷ []) new
  one_piece_more = record {
    as_long = omega (arith, length_push places place, length_push jobs job, cutting.as_long);
    chain = subst (λ (n : ℕ). IsChain n (λ q. top * get_or times q 0) (λ q. due_work (jobs ++ job ∷ []) (get_or times q 0))
        (λ q. went (length (jobs ++ job ∷ [])) (jobs ++ job ∷ []) (places ++ place ∷ []) q) new 0 0) (sym as_long) chained;
    greatest = λ n few q below. elim (cases_lt (length jobs) n) [
      | inl all ↦
          let count : n ≡ length (jobs ++ job ∷ []) = omega (arith, all, few, length_push jobs job) in
          subst (λ (k : ℕ). IsGreatest top times k n (jobs ++ job ∷ []) (places ++ place ∷ []) q) (sym as_long)
          (greatest_of top times (jobs ++ job ∷ []) (places ++ place ∷ []) new m n (take_all n (jobs ++ job ∷ []) (omega (arith, count))) count chained q (omega (arith, below, as_long)))
      | inr front ↦
          let old = cutting.greatest n front q (omega (arith, below, as_long)) in
          let whole : take n (jobs ++ job ∷ []) ≡ take n jobs = take-append-le n jobs (job ∷ []) front in
          let same = same_went n jobs places job place q front cutting.as_long in
          record {
            all = λ p later short. omega (arith, old.all p later (omega (arith, short, as_long)), same, ap (λ (some : List Job). due_work some (get_or times p 0)) whole);
            at = old.at;
            later = old.later;
            within = omega (arith, old.within, as_long);
            exact = omega (arith, old.exact, same, ap (λ (some : List Job). due_work some (get_or times old.at 0)) whole);
          }
    ];
  }

-- # A job's pieces

-- as `IsCutInto`, with units that are left
pub record IsCutSoFar (job : Job) (old new : List Job) (left : ℕ) : Type 0 where
  pub more : List Job
  pub is : new ≡ old ++ more
  pub windows : All (λ piece. (piece.release ≡ job.release) × (piece.deadline ≡ job.deadline)) more
  pub work : sum_by (λ piece. piece.work) more + left ≡ job.work

pub none_yet : (job : Job) (old : List Job) → IsCutSoFar job old old job.work
none_yet job old = grind (arith, All-nil, append-nil)

pub cut_more : (job : Job) (old new : List Job) (left units : ℕ) (piece : Job) → IsCutSoFar job old new left → units ≤ left → piece.release ≡ job.release →
    piece.deadline ≡ job.deadline → piece.work ≡ units → IsCutSoFar job old (new ++ piece ∷ []) (left - units)
cut_more job old new left units piece so_far some release deadline work = record {
  more = so_far.more ++ piece ∷ [];
  is = ap (λ (jobs : List Job). jobs ++ piece ∷ []) so_far.is ∙ append_assoc old so_far.more (piece ∷ []);
  windows = All-push (λ one. (one.release ≡ job.release) × (one.deadline ≡ job.deadline)) so_far.more piece so_far.windows (release, deadline);
  work = omega (arith, so_far.work, sum_by_push (λ (one : Job). one.work) so_far.more piece, work, some);
}

-- with the last piece
pub cut_last : (job : Job) (old new : List Job) (left : ℕ) (piece : Job) → IsCutSoFar job old new left → piece.release ≡ job.release → piece.deadline ≡ job.deadline →
    piece.work ≡ left → IsCutInto job old (new ++ piece ∷ [])
cut_last job old new left piece so_far release deadline work = record {
  more = so_far.more ++ piece ∷ [];
  is = ap (λ (jobs : List Job). jobs ++ piece ∷ []) so_far.is ∙ append_assoc old so_far.more (piece ∷ []);
  some = omega (arith, length_push so_far.more piece);
  windows = All-push (λ one. (one.release ≡ job.release) × (one.deadline ≡ job.deadline)) so_far.more piece so_far.windows (release, deadline);
  work = omega (arith, so_far.work, sum_by_push (λ (one : Job). one.work) so_far.more piece, work);
}

-- what pieces of one job add to an interval
pub added : (from to : ℕ) (job : Job) (more : List Job) → All (λ piece. (piece.release ≡ job.release) × (piece.deadline ≡ job.deadline)) more →
    sum_by (λ piece. piece.work) more ≡ job.work → sum_by (part_within from to) more ≡ part_within from to job
added from to job more windows work = by_test (nat_le from job.release && nat_le job.deadline to) refl where
  same : (b : Bool) → nat_le from job.release && nat_le job.deadline to ≡ b → All (λ piece. part_within from to piece ≡ cond b piece.work 0) more
  same b is k d below =
      let one : Job = get_or more k d in
      ap {B = ℕ} (λ t. cond t one.work 0) (rw ((windows k d below).0, (windows k d below).1) is)

  by_test : (b : Bool) → nat_le from job.release && nat_le job.deadline to ≡ b → sum_by (part_within from to) more ≡ part_within from to job
  by_test true is = sum_by_same (part_within from to) (λ piece. piece.work) more (same true is) ∙ work ∙ sym (ap {B = ℕ} (λ t. cond t job.work 0) is)
  by_test false is = sum_by_zero (part_within from to) more (same false is) ∙ sym (ap {B = ℕ} (λ t. cond t job.work 0) is)

-- no pieces yet
pub none_cut : (top : ℕ) (times gaps : List ℕ) → AreGaps top times gaps → IsCutting top times [] [] gaps
none_cut top times gaps are = record {
  as_long = refl;
  chain = chain;
  greatest = λ n few q below.
      let none : n ≡ 0 = omega (arith, few) in
      greatest_of top times [] [] gaps (length gaps) n (take_all n [] (omega arith)) none chain q below;
} where
  chain : IsChain (length gaps) (λ q. top * get_or times q 0) (λ q. due_work [] (get_or times q 0)) (λ q. went 0 [] [] q) gaps 0 0
  chain = record {
    as_long = refl;
    steps = λ q below. omega (arith, are.each q (omega (arith, below, are.as_long)), ap {B = ℕ} (λ b. cond b 0 0) (ne_eqb (q + 1) 0 (λ e. omega (arith, e))));
    most = λ q below. omega arith;
    exact = λ q below some. refl;
    last = refl;
  }
