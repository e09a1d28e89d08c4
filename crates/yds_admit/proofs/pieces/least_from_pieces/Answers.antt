use Rattle.yds_model.proofs.Common.{◌≡◌, ℕ, ◌+◌, ◌-◌, ◌*◌, ◌<◌, ◌≤◌, ◌⊎◌, List, length, get_or, sym, arith, ap, inl, inr, Any, cases_lt, get_or_read, Job, job_at}
use Rattle.yds_admit.specs.Idle.{IsIdleFrom, idle_before}
use Rattle.yds_admit.specs.Pieces.{went, IsCount}
use Rattle.yds_admit.proofs.Bounds.{any_at, many_more, fits_all, fits_idle, fits_earlier, least_piece, too_much, none_sooner, all_too_much}
use Rattle.yds_admit.proofs.pieces.least_from_pieces.Goals as goal

pub loop-count-preserved-then-wanted-from : goal.loop-count-preserved-then-wanted-from
loop-count-preserved-then-wanted-from c =
    let top : ℕ = c.args.board.now.top in
    let jobs = c.args.pieces.now.jobs in
    let places = c.args.pieces.now.places.items in
    let end : ℕ = c.args.end in
    let row : Job = c.args.row.now in
    let count : ℕ = c.loop-count.count in
    let n : ℕ = count - c.min.result in
    let held = c.loop-count.invariant in
    let within : count ≤ length jobs = omega (arith, held.within, c.released_from-count.ensures.within) in
    let below : n < length jobs = omega (arith, within, c.min.ensures, c.loop-count-test.true) in
    let release = c.release-latest.ensures in
    record {
      from = omega (arith, c.min.ensures, c.loop-count-test.true);
      within = omega (arith, held.within);
      wanted = omega (arith, held.wanted, c.units_between-wanted.ensures);
      leaves = many_more top jobs places row end c.requires.pieces.2.bounds.falling n count c.released_from-count.result within held.leaves
          (omega (
            arith,
            held.wanted,
            ap (λ k. top * k) release,
            ap (λ (job : Job). top * job.deadline) c.row.view_is,
            rw (c.from.ensures, c.from-2.ensures, c.from-in-loop-count.ensures, c.from-in-loop-count-2.ensures) at c.if-wanted-from.true,
          ));
    }

pub overflow_add-index : goal.overflow_add-index
overflow_add-index c =
    let times = c.args.board.now.times.items in
    let near : c.in-Some.behind ≤ c.args.end = rw c.in-Some.is at c.requires.near in
    let time = get_or_read times c.in-Some.behind c.index.result.now (omega (arith, near, c.requires.end.within)) c.index.ensures 0 in
    omega (
      arith,
      time,
      c.requires.board.are_times.rising c.in-Some.behind c.args.end 0 near c.requires.end.within,
      c.requires.end.there,
      ap (λ (job : Job). job.deadline) c.row.view_is,
      c.row.invariant.time_in_range,
    )

-- those that are released after the place behind which enough is idle
after_near : (jobs : List Job) (times : List ℕ) (behind time m : ℕ) → behind < length times → time ≡ get_or times behind 0 → m ≤ length jobs →
    ((k : ℕ) → k < m → time + 1 ≤ (job_at jobs k).release) → ((k : ℕ) → m ≤ k → k < length jobs → (job_at jobs k).release < time + 1) → IsCount jobs m (get_or times behind 0 + 1)
after_near jobs times behind time m below is within early late = record {
  within = within;
  early = λ i less. omega (arith, early i less, is);
  late = λ i from short. omega (arith, late i from short, is);
}

pub returns-in_default : goal.returns-in_default
returns-in_default c all idle of near =
    let top : ℕ = c.args.board.now.top in
    let times = c.args.board.now.times.items in
    let rising = c.requires.board.are_times.rising in
    let jobs = c.args.pieces.now.jobs in
    let places = c.args.pieces.now.places.items in
    let row : Job = c.args.row.now in
    let end : ℕ = c.args.end in
    let from : ℕ = c.earliest.result in
    let little : idle_before idle end < row.work = rw c.in_default.is at near in
    let window : row.release < row.deadline =
    omega (arith, ap (λ (job : Job). job.release) c.row.view_is, ap (λ (job : Job). job.deadline) c.row.view_is, c.row.invariant.has_window) in
    let until : from ≤ row.release = c.earliest.ensures.own in
    let released : (i : ℕ) → i < length jobs → from ≤ (job_at jobs i).release = λ i below.
    omega (
      arith,
      of.bounds.falling i (length jobs - 1) (omega (arith, below)) (omega (arith, below)),
      c.earliest.ensures.last (length jobs - 1) (omega (arith, below)),
    ) in
    let is : (row.release ≡ from) ⊎ Any (λ (job : Job). job.release ≡ from) jobs = elim c.earliest.ensures.one [
      | inl own ↦ inl (sym own)
      | inr piece ↦ inr (any_at jobs from piece.0 piece.1 (sym piece.2))
    ] in (
      least_piece top times rising all jobs places idle of.bounds row end c.requires.end window from until is
          (none_sooner top times rising all jobs places idle of.bounds row end c.requires.end window from released until),
      λ exact. all_too_much top times rising all jobs places idle of.bounds row end c.requires.end window exact little from released until,
    )

pub returns-then-wanted-from-2 : goal.returns-then-wanted-from-2
returns-then-wanted-from-2 c all idle of near =
    let top : ℕ = c.args.board.now.top in
    let times = c.args.board.now.times.items in
    let rising = c.requires.board.are_times.rising in
    let jobs = c.args.pieces.now.jobs in
    let places = c.args.pieces.now.places.items in
    let row : Job = c.args.row.now in
    let end : ℕ = c.args.end in
    let behind : ℕ = c.in-Some.behind in
    let m : ℕ = c.released_from-count.result in
    let few = c.released_from-count.ensures.within in
    let close : behind ≤ end = rw c.in-Some.is at c.requires.near in
    let there : behind < length times = omega (arith, close, c.requires.end.within) in
    let early = after_near jobs times behind c.index.result.now m there (get_or_read times behind c.index.result.now there c.index.ensures 0) few
    c.released_from-count.ensures.early c.released_from-count.ensures.late in
    let enough : IsIdleFrom idle end row.work behind = rw c.in-Some.is at near in
    let count : ℕ = c.loop-count.count in
    let n : ℕ = count - 1 in
    let held = c.loop-count.invariant in
    let below : n < length jobs = omega (arith, held.within, c.loop-count-test.true, few) in
    let release = c.release-release.ensures in
    let soon = c.released_from.ensures.late n (omega (arith, held.from, held.within, c.min-until.ensures, c.loop-count-test.true)) below in
    let own = ap (λ (job : Job). job.release) c.row.view_is in
    let window : row.release < row.deadline = omega (arith, own, ap (λ (job : Job). job.deadline) c.row.view_is, c.row.invariant.has_window) in
    let from : ℕ = c.release-release.result in
    let within : count ≤ length jobs = omega (arith, held.within, few) in
    let released : (i : ℕ) → i < count → from ≤ (job_at jobs i).release = λ i less. omega (arith, release, of.bounds.falling i n (omega (arith, less)) below) in
    let until : from ≤ row.release = omega (arith, release, soon, own) in
    let much : top * row.deadline < row.work + went count jobs places end + top * from = omega (
      arith,
      held.wanted,
      ap (λ (job : Job). top * job.deadline) c.row.view_is,
      rw (c.from.ensures, c.from-2.ensures, c.from-in-loop-count-3.ensures, c.from-in-loop-count-4.ensures) at c.if-wanted-from-2.true,
    ) in (
      least_piece top times rising all jobs places idle of.bounds row end c.requires.end window from until (inr (any_at jobs from n below (sym release)))
          (fits_earlier top times rising all jobs places idle of.bounds row end c.requires.end window of.has_idle behind enough m early count from within released until held.leaves),
      λ exact. too_much top times rising all jobs places idle of.bounds row end c.requires.end window exact count from within released until much,
    )

pub returns-then-wanted-from-3 : goal.returns-then-wanted-from-3
returns-then-wanted-from-3 c all idle of near =
    let top : ℕ = c.args.board.now.top in
    let times = c.args.board.now.times.items in
    let rising = c.requires.board.are_times.rising in
    let jobs = c.args.pieces.now.jobs in
    let places = c.args.pieces.now.places.items in
    let row : Job = c.args.row.now in
    let end : ℕ = c.args.end in
    let behind : ℕ = c.in-Some.behind in
    let m : ℕ = c.released_from-count.result in
    let few = c.released_from-count.ensures.within in
    let close : behind ≤ end = rw c.in-Some.is at c.requires.near in
    let there : behind < length times = omega (arith, close, c.requires.end.within) in
    let early = after_near jobs times behind c.index.result.now m there (get_or_read times behind c.index.result.now there c.index.ensures 0) few
    c.released_from-count.ensures.early c.released_from-count.ensures.late in
    let enough : IsIdleFrom idle end row.work behind = rw c.in-Some.is at near in
    let count : ℕ = c.loop-count.count in
    let held = c.loop-count.invariant in
    let own = ap (λ (job : Job). job.release) c.row.view_is in
    let window : row.release < row.deadline = omega (arith, own, ap (λ (job : Job). job.deadline) c.row.view_is, c.row.invariant.has_window) in
    let within : count ≤ length jobs = omega (arith, held.within, few) in
    let from : ℕ = c.row.inside.release in
    let released : (i : ℕ) → i < count → from ≤ (job_at jobs i).release = λ i less.
    c.released_from.ensures.early i (omega (arith, less, c.min-until.ensures, c.loop-count-test.false)) in
    let until : from ≤ row.release = omega (arith, own) in
    let much : top * row.deadline < row.work + went count jobs places end + top * from = omega (
      arith,
      held.wanted,
      ap (λ (job : Job). top * job.deadline) c.row.view_is,
      rw (c.from.ensures, c.from-2.ensures, c.from-4.ensures, c.from-5.ensures) at c.if-wanted-from-3.true,
    ) in (
      least_piece top times rising all jobs places idle of.bounds row end c.requires.end window from until (inl (sym own))
          (fits_earlier top times rising all jobs places idle of.bounds row end c.requires.end window of.has_idle behind enough m early count from within released until held.leaves),
      λ exact. too_much top times rising all jobs places idle of.bounds row end c.requires.end window exact count from within released until much,
    )

pub returns : goal.returns
returns c all idle of near =
    let top : ℕ = c.args.board.now.top in
    let times = c.args.board.now.times.items in
    let rising = c.requires.board.are_times.rising in
    let jobs = c.args.pieces.now.jobs in
    let places = c.args.pieces.now.places.items in
    let row : Job = c.args.row.now in
    let end : ℕ = c.args.end in
    let behind : ℕ = c.in-Some.behind in
    let m : ℕ = c.released_from-count.result in
    let few = c.released_from-count.ensures.within in
    let close : behind ≤ end = rw c.in-Some.is at c.requires.near in
    let there : behind < length times = omega (arith, close, c.requires.end.within) in
    let early = after_near jobs times behind c.index.result.now m there (get_or_read times behind c.index.result.now there c.index.ensures 0) few
    c.released_from-count.ensures.early c.released_from-count.ensures.late in
    let enough : IsIdleFrom idle end row.work behind = rw c.in-Some.is at near in
    let count : ℕ = c.loop-count.count in
    let held = c.loop-count.invariant in
    let own = ap (λ (job : Job). job.release) c.row.view_is in
    let window : row.release < row.deadline = omega (arith, own, ap (λ (job : Job). job.deadline) c.row.view_is, c.row.invariant.has_window) in
    let within : count ≤ length jobs = omega (arith, held.within, few) in
    let released : (i : ℕ) → i < count → row.release ≤ (job_at jobs i).release = λ i less.
    omega (arith, own, c.released_from.ensures.early i (omega (arith, less, c.min-until.ensures, c.loop-count-test.false))) in
    let late : get_or times behind 0 < row.release → (i : ℕ) → count ≤ i → i < length jobs → (job_at jobs i).release < row.release = λ outside i from below.
    elim (cases_lt i c.released_from.result) [
      | inr later ↦ omega (arith, own, c.released_from.ensures.late i later below)
      | inl sooner ↦ omega (arith, outside, early.late i (omega (arith, from, sooner, held.from, c.min-until.ensures)) below)
    ] in
    elim (cases_lt (get_or times behind 0) row.release) [
      | inr inside ↦ λ from until. fits_idle top times rising all jobs places idle of.bounds row end c.requires.end window of.has_idle behind enough m early from (omega (arith, inside, until))
      | inl outside ↦ fits_all top times rising all jobs places idle of.bounds row end c.requires.end window of.has_idle behind enough m early count
          (record { within = within; early = released; late = late outside })
          (omega (
            arith,
            held.wanted,
            ap (λ (job : Job). top * job.release) c.row.view_is,
            ap (λ (job : Job). top * job.deadline) c.row.view_is,
            rw (c.from.ensures, c.from-2.ensures, c.from-4.ensures, c.from-5.ensures) at c.if-wanted-from-3.false,
          ))
          held.leaves
    ]
