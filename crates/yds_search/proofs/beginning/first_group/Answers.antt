use Rattle.yds_model.proofs.Common.{ℕ, ◌≡◌, ◌+◌, ◌∙◌, List, [], ◌∷◌, ◌++◌, map, ap, sym, subst, arith, length, range_with_len, length-map-range_with_len, Job, Piece, stretches}
use Rattle.yds_events.specs.declared.window.Window.{Window}
use Rattle.yds_events.proofs.Neighbours.{few_stretches}
use Rattle.yds_search.specs.declared.own.OwnJob.{OwnJob}
use Rattle.yds_search.specs.declared.own.OwnStretch.{OwnStretch}
use Rattle.yds_search.specs.declared.stack.Size.{Size}
use Rattle.yds_search.specs.Own.{Part}
use Rattle.yds_search.specs.Beginning.{AreFarthest, reached_before}
use Rattle.yds_search.specs.Searching.{IsBegun}
use Rattle.yds_search.proofs.Beginnings.{begun_part, instance_is, known_all, one_begun, none_begun}
use Rattle.yds_search.proofs.Laid.{size_is}
use Rattle.yds_search.proofs.beginning.first_group.Goals as goal
use Rattle.yds_search.proofs.beginning.first_group.Goals.{then-jobs-gt0+in_ok-push, else-jobs-gt0}

pub add_stretches-requires-clause-few : goal.add_stretches-requires-clause-few
add_stretches-requires-clause-few c = omega (
  arith,
  ap (λ (pieces : List Piece). length pieces) (c.deref-2.ensures.value ∙ c.requires.timeline.cut),
  few_stretches c.args.rows.now,
  c.requires.few,
)

pub add_stretches-requires-clause-ends : goal.add_stretches-requires-clause-ends
add_stretches-requires-clause-ends c = omega (
  arith,
  ap (λ (xs : List ℕ). length xs) c.deref-3.ensures.value,
  c.in_ok-ends.ensures.all,
  c.len-count.ensures,
  c.deref-2.ensures.len,
)

pub add_jobs-requires-clause-known : goal.add_jobs-requires-clause-known
add_jobs-requires-clause-known c = rw c.deref-4.ensures.value (known_all c.args.rows.now c.args.timeline.now.order.items c.requires.timeline.ordered)

pub add_jobs-requires-clause-ranks : goal.add_jobs-requires-clause-ranks
add_jobs-requires-clause-ranks c = omega (
  arith,
  ap (λ (xs : List ℕ). length xs) (c.deref-6.ensures.value ∙ c.in_ok-ranks.ensures.ranks),
  length-map-range_with_len (reached_before c.deref-3.result.now) 0 (length c.deref-2.result.now + 1),
  ap (λ (pieces : List Piece). length pieces) (c.deref-2.ensures.value ∙ c.requires.timeline.cut),
)

pub returns : goal.returns
returns c =
    let jobs : List Job = c.args.rows.now in
    let windows : List Window = c.args.timeline.now.windows.items in
    let order : List ℕ = c.args.timeline.now.order.items in
    let ends : List ℕ = c.in_ok-ends.ends.items in
    let ranks : List ℕ = c.in_ok-ranks.ranks.items in
    let part : Part = begun_part jobs windows order ends ranks in
    let all : c.len-count.result ≡ length (stretches jobs) =
    omega (arith, c.len-count.ensures, c.args.timeline.now.stretches.ok, ap (λ (pieces : List Piece). length pieces) c.requires.timeline.cut) in
    let farthest : AreFarthest jobs windows (length jobs) (length (stretches jobs)) ends =
    rw (c.deref.ensures.value, all) at c.in_ok-ends.ensures in
    let ranked : ranks ≡ map (reached_before ends) (range_with_len 0 (length (stretches jobs) + 1)) =
    rw (c.deref-3.ensures.value, c.deref-2.ensures.value, c.requires.timeline.cut) at c.in_ok-ranks.ensures.ranks in
    let own : c.add_jobs.new.jobs.items ≡ part.jobs =
    rw (c.in_ok-stack.ensures.jobs, c.deref-5.ensures.value, c.deref-6.ensures.value, c.deref-4.ensures.value) at c.in_ok-add_jobs.ensures in
    let own_stretches : c.add_stretches.new.stretches.items ≡ part.stretches =
    rw (c.deref-2.ensures.value, c.deref-3.ensures.value, c.requires.timeline.cut) at c.in_ok-ranks.ensures.stretches in
    let count : c.len-jobs.result ≡ length part.jobs = omega (arith, c.len-jobs.ensures, c.add_jobs.new.jobs.ok, ap (λ (xs : List OwnJob). length xs) own) in
    let count_stretches : c.len-stretches.result ≡ length part.stretches =
    omega (arith, c.len-stretches.ensures, c.add_stretches.new.stretches.ok, ap (λ (xs : List OwnStretch). length xs) own_stretches) in
    let instance = instance_is jobs windows c.requires.few c.requires.jobs c.requires.timeline.windows_are in
    elim c.if-jobs-gt0.branch [
      | then-jobs-gt0+in_ok-push w ↦ subst (IsBegun jobs) (sym w.stack-is) (one_begun jobs windows order ends ranks instance c.requires.timeline.ordered farthest ranked _
          (omega (arith, w.if-jobs-gt0.true, count)) own own_stretches
          (w.in_ok-push.ensures.items ∙ ap (λ (sizes : List Size). sizes ++ record { jobs = c.len-jobs.result; stretches = c.len-stretches.result } ∷ []) c.in_ok-stack.ensures.sizes
          ∙ ap (λ (size : Size). size ∷ []) (size_is c.len-jobs.result c.len-stretches.result part count count_stretches)))
      | else-jobs-gt0 w ↦ subst (IsBegun jobs) (sym w.stack-is) (none_begun jobs windows order ends ranks instance c.requires.timeline.ordered farthest ranked _
          (omega (arith, w.if-jobs-gt0.false, count)) own own_stretches c.in_ok-stack.ensures.sizes)
    ]
