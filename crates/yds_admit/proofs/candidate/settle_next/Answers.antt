use Rattle.yds_model.proofs.Common.{◌≡◌, ℕ, List, ◌∙◌, ap, subst, arith, get_or_read, Job}
use Rattle.yds_admit.specs.Idle.{IsIdleFrom}
use Rattle.yds_admit.specs.State.{next_job}
use Rattle.yds_admit.proofs.Idleness.{lent, fits_inside}
use Rattle.yds_admit.proofs.candidate.settle_next.Goals as goal

pub returns-clause-room : goal.returns-clause-room
returns-clause-room c =
    let held = c.requires.room in
    let old = c.args.room.now.links in
    let new = c.idle_place-near.new.links in
    let links = rw c.deref.ensures.value at c.idle_place-near.ensures.links in
    let whole = lent old.len old.items new old.ok.0 (omega (arith, links.as_long, held.links.as_long)) in
    rw c.in_ok-refuse_next.ensures.jobs
    (record { has_idle = held.has_idle; links = rw whole links; bounds = held.bounds; used = held.used; ordered = held.ordered; exact = held.exact })

pub admit_beside-requires-clause-fits : goal.admit_beside-requires-clause-fits
admit_beside-requires-clause-fits c =
    let times = c.args.board.now.times.items in
    let idle = c.args.room.now.idle.items in
    let row : Job = next_job c.args.board.now c.args.state.now in
    let end : ℕ = c.next_end-end.result in
    let begin : ℕ = c.in-Some.begin in
    let is_row = c.row.view_is ∙ c.next_row-row.ensures in
    let work : c.from.result ≡ row.work = c.from.ensures ∙ ap (λ (job : Job). job.work) is_row in
    let near : IsIdleFrom idle end row.work begin = subst (λ (units : ℕ). IsIdleFrom idle end units begin) work
    (subst (λ (some : List ℕ). IsIdleFrom some end c.from.result begin) c.deref.ensures.value c.in-Some.ensures.place) in
    fits_inside c.args.board.now.top times c.args.state.now.jobs.items idle c.requires.room.has_idle row begin end near
    (omega (
      arith,
      c.if-row-index.true,
      ap (λ (job : Job). job.release) is_row,
      get_or_read times begin c.index.result.now (omega (arith, near.order, c.next_end-end.ensures.within)) c.index.ensures 0,
    ))
