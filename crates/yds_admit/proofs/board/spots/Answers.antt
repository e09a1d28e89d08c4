use Rattle.yds_model.proofs.Common.{◌≡◌, ℕ, ◌<◌, ◌≤◌, ◌∷◌, [], List, length, get_or, ◌∙◌, sym, subst, arith, inl, inr, ap, cases_lt, get_or_read, map-append, All-push, Job, IsJob, no_job, job_at}
use Rattle.yds_admit.specs.declared.board.Spot.{Spot}
use Rattle.yds_admit.specs.Board.{IsSpot}
use Rattle.yds_admit.specs.Chain.{AreTimes, IsEnd}
use Rattle.yds_admit.proofs.Marks.{numbers_more}
use Rattle.yds_admit.proofs.board.spots.Goals as goal

-- a job at its places
module _ (rows : List Job) (times : List ℕ) (number : ℕ) (row : Job) (are : AreTimes 0 rows times) (below : number < length rows) (is : row ≡ job_at rows number) (is_job : IsJob row)
    (begin end : ℕ) (within : begin < length times) (until : get_or times begin 0 ≤ row.release)
    (after : (q : ℕ) → begin < q → q < length times → row.release < get_or times q 0) (at : IsEnd times row.deadline end) where
  is_spot : IsSpot rows times (record { number = number; release = row.release; work = row.work; begin = begin; end = end })
  is_spot = record {
    known = below;
    in_range = omega (arith, is_job.has_window, is_job.time_in_range);
    release = ap (λ (job : Job). job.release) is;
    work = ap (λ (job : Job). job.work) is;
    in_order = elim (cases_lt begin end) [
      | inl less ↦ less
      | inr most ↦ absurd (omega (arith, are.rising end begin 0 most within, at.there, until, is_job.has_window))
    ];
    within = at.within;
    deadline = at.there ∙ ap (λ (job : Job). job.deadline) is;
    earlier = λ q less. omega (arith, at.is.before q less, at.there);
    until = until;
    after = after;
  }

pub loop-number-preserved : goal.loop-number-preserved
loop-number-preserved c =
    let row : Job = record { release = c.row.inside.release; deadline = c.row.inside.deadline; work = c.row.inside.work } in
    let is : row ≡ job_at c.args.rows.now c.loop-number.number =
    c.row.view_is ∙ get_or_read c.args.rows.now c.loop-number.number c.index-rows-number.result c.loop-number-test.true c.index-rows-number.is no_job in
    let end : ℕ = get_or c.args.ends.now c.loop-number.number 0 in
    let spot : Spot = record { number = c.loop-number.number; release = row.release; work = row.work; begin = c.last_until.result; end = end } in
    record {
      numbers = rw (c.in_ok-push.ensures.items, map-append (λ (spot : Spot). spot.number) c.loop-number.spots.items (spot ∷ []), c.loop-number.invariant.numbers) (numbers_more c.loop-number.number);
      each = rw c.in_ok-push.ensures.items (All-push (IsSpot c.args.rows.now c.args.times.now) c.loop-number.spots.items spot c.loop-number.invariant.each
          (is_spot c.args.rows.now c.args.times.now c.loop-number.number row c.requires.times c.loop-number-test.true is c.row.invariant c.last_until.result end
          c.last_until.ensures.within c.last_until.ensures.until c.last_until.ensures.after
          (subst (λ (time : ℕ). IsEnd c.args.times.now time end) (sym (ap (λ (job : Job). job.deadline) is)) (c.requires.ends.each c.loop-number.number c.loop-number-test.true))));
    }
