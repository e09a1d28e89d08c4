use Rattle.yds_model.proofs.Common.{ℕ, ◌∷◌, ◌++◌, [], arith, IsPermutation-append_left, All-permutation, sum_by-IsPermutation, Job, IsJob}
use Rattle.model_lemmas.proofs.Confined.{part_within}
use Rattle.yds_admit.specs.State.{next_job}
use Rattle.yds_admit.proofs.Bounds.{fits_over}
use Rattle.yds_admit.proofs.Least.{room_alone}
use Rattle.yds_admit.proofs.Newly.{none_before, first_with, MatchOption-then}
use Rattle.yds_admit.proofs.Next.{jobs_due, next_are}
use Rattle.yds_admit.proofs.candidate.first_overfull.Goals as goal

pub overfull_from-requires-clause-are : goal.overfull_from-requires-clause-are
overfull_from-requires-clause-are c = All-permutation IsJob _ _ c.requires.ordered.deadlines c.requires.state.decided.are

pub overfull_from-requires-clause-alone : goal.overfull_from-requires-clause-alone
overfull_from-requires-clause-alone c =
    let decided = c.requires.state.decided in
    room_alone c.args.board.now.top c.args.state.now.jobs.items c.args.by_deadline.now decided.are c.requires.ordered.deadlines decided.room c.args.from

pub returns : goal.returns
returns c =
    let board = c.args.board.now in
    let state = c.args.state.now in
    let is = c.requires.state in
    let top : ℕ = board.top in
    let jobs = state.jobs.items in
    let row : Job = next_job board state in
    let from : ℕ = c.args.from in
    let end : ℕ = c.requires.least.0 in
    let is_end = c.requires.least.2 in
    let least = c.requires.least.3 in
    let are = next_are board state is c.requires.more in
    let same = IsPermutation-append_left (row ∷ []) jobs c.args.by_deadline.now c.requires.ordered.deadlines in
    let found = rw c.next_row.ensures at c.overfull_from.ensures in
    MatchOption-then c.overfull_from.result found
    (λ none to forward. omega (arith, none to forward, sum_by-IsPermutation (part_within from to) _ _ same))
    (λ overfull first. first_with top (jobs ++ row ∷ []) (c.args.by_deadline.now ++ row ∷ []) same from overfull.from overfull.to overfull.work least.is_release
    (none_before top jobs row are is.decided.room from (λ other less some. fits_over top board.times.items is.on.are_times.rising jobs c.requires.least.1 row end is_end (jobs_due board state is) other (least.earlier other less some)))
    first)
