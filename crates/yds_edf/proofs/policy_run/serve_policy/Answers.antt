use Rattle.yds_model.proofs.Common.{◌≡◌, ℕ, ◌+◌, ◌<◌, ◌≤◌, List, length, ◌∙◌, sym, subst, ap, arith, refl, Bool, Job, Piece, stretches}
use Rattle.yds_events.proofs.Neighbours.{few_stretches, stretch_read}
use Rattle.yds_timetable.specs.Timetable.{shares_of}
use Rattle.yds_edf.specs.Queue.{JobQueue, new_queue, IsNoEarlier, pending_in}
use Rattle.yds_edf.proofs.Running.{begun, none_tabled, tabled_many, stepped, few_rounded, all_rows, all_run, can_lay, one_or_none, one_at_most}
use Rattle.yds_edf.proofs.policy_run.serve_policy.Goals as goal

pub loop-number-init : goal.loop-number-init
loop-number-init g c = record {
  running = rw (c.in_ok-queue.ensures, c.new-timetable.ensures, c.from.ensures) (begun c.args.rows.now c.args.grid (g.P.Policy.units c.args.policy.now c.args.rows.now c.args.grid));
  tabled = rw (c.new-timetable.ensures) (none_tabled c.args.rows.now c.args.grid);
  counted = refl;
  keeps = c.requires.keeps;
  units_stay = refl;
  rounds_stay = refl;
}

pub overflow_cast-number : goal.overflow_cast-number
overflow_cast-number g c = omega (
  arith,
  c.loop-number-test.true,
  ap (λ (pieces : List Piece). length pieces) c.requires.stretches,
  few_stretches c.args.rows.now,
  c.requires.few,
)

pub set-setting-requires-clause-keeps : goal.set-setting-requires-clause-keeps
set-setting-requires-clause-keeps g c =
    subst (λ (jobs : List Job). g.P.Policy.keeps c.loop-number.policy jobs c.loop-number.number) (sym (ap (λ (queue : JobQueue). queue.jobs) c.arrive.ensures ∙ c.loop-number.invariant.running.same_jobs)) c.loop-number.invariant.keeps

pub overflow_add-rounded : goal.overflow_add-rounded
overflow_add-rounded g c =
    let here : c.loop-number.number < length (stretches c.args.rows.now) =
    omega (arith, c.loop-number-test.true, ap (λ (pieces : List Piece). length pieces) c.requires.stretches) in
    omega (
      arith,
      here,
      few_stretches c.args.rows.now,
      c.requires.few,
      c.loop-number.invariant.counted,
      few_rounded c.args.rows.now c.args.grid (g.P.Policy.rounds c.args.policy.now c.args.rows.now c.args.grid) (shares_of c.loop-number.timetable) c.loop-number.number,
      c.from-rounded.ensures,
      one_at_most c.set-setting.result.rounds,
    )

pub serve_stretch-requires-clause-few : goal.serve_stretch-requires-clause-few
serve_stretch-requires-clause-few g c =
    let here : c.loop-number.number < length (stretches c.args.rows.now) =
    omega (arith, c.loop-number-test.true, ap (λ (pieces : List Piece). length pieces) c.requires.stretches) in
    omega (
      arith,
      tabled_many c.loop-number.invariant.tabled (let most : c.loop-number.number ≤ length (stretches c.args.rows.now) = omega (arith, here) in most),
      here,
      few_stretches c.args.rows.now,
      c.requires.few,
    )

pub loop-number-preserved : goal.loop-number-preserved
loop-number-preserved g c =
    let here : c.loop-number.number < length (stretches c.args.rows.now) =
    omega (arith, c.loop-number-test.true, ap (λ (pieces : List Piece). length pieces) c.requires.stretches) in
    let next = stepped c.args.rows.now c.args.grid (g.P.Policy.units c.args.policy.now) (g.P.Policy.rounds c.args.policy.now) c.requires.some_grid c.loop-number.number here _ _ _ _ _
    c.loop-number.invariant.running c.loop-number.invariant.tabled _
    (stretch_read c.args.rows.now c.args.stretches.now c.loop-number.number c.index-stretches-number.result _ c.requires.stretches here c.index-stretches-number.is c.stretch.view_is)
    c.arrive.ensures _ (c.set-setting.ensures.units ∙ ap (λ (tells : List Job → ℕ → (ℕ → ℕ) → Piece → ℕ). tells c.arrive.new.self.jobs c.arrive.new.self.grain (pending_in c.arrive.new.self)
    (record { from = c.stretch.inside.from; to = c.stretch.inside.to })) c.loop-number.invariant.units_stay) _ (c.set-setting.ensures.rounds ∙ ap (λ (tells : List Job → ℕ → (ℕ → ℕ) → Piece → Bool). tells c.arrive.new.self.jobs c.arrive.new.self.grain (pending_in c.arrive.new.self)
    (record { from = c.stretch.inside.from; to = c.stretch.inside.to })) c.loop-number.invariant.rounds_stay) _ c.in_ok-serve_stretch.ensures.serves c.in_ok-serve_stretch.ensures.puts
    _ c.loop-number.invariant.counted in
    record {
      running = next.0;
      tabled = next.1;
      counted = omega (arith, next.2, c.from-rounded.ensures, one_or_none c.set-setting.result.rounds);
      keeps = subst (λ (jobs : List Job). g.P.Policy.keeps c.set-setting.new.self jobs (c.loop-number.number + 1))
          (ap (λ (queue : JobQueue). queue.jobs) c.arrive.ensures ∙ c.loop-number.invariant.running.same_jobs) c.set-setting.ensures.keeps;
      units_stay = c.set-setting.ensures.units_stay ∙ c.loop-number.invariant.units_stay;
      rounds_stay = c.set-setting.ensures.rounds_stay ∙ c.loop-number.invariant.rounds_stay;
    }

pub returns-clause-run : goal.returns-clause-run
returns-clause-run g c =
    let all : c.loop-number.number ≡ length (stretches c.args.rows.now) =
    omega (arith, c.loop-number-test.false, ap (λ (pieces : List Piece). length pieces) c.requires.stretches) in
    all_run (rw all at c.loop-number.invariant.running) (rw all at c.loop-number.invariant.tabled) (rw all at c.loop-number.invariant.counted)

pub returns-clause-stretches : goal.returns-clause-stretches
returns-clause-stretches g c =
    let all : c.loop-number.number ≡ length (stretches c.args.rows.now) =
    omega (arith, c.loop-number-test.false, ap (λ (pieces : List Piece). length pieces) c.requires.stretches) in
    all_rows (rw all at c.loop-number.invariant.tabled)

pub returns-clause-count_in_range : goal.returns-clause-count_in_range
returns-clause-count_in_range g c =
    let all : c.loop-number.number ≡ length (stretches c.args.rows.now) =
    omega (arith, c.loop-number-test.false, ap (λ (pieces : List Piece). length pieces) c.requires.stretches) in
    omega (
      arith,
      all,
      few_stretches c.args.rows.now,
      c.requires.few,
      c.loop-number.invariant.counted,
      few_rounded c.args.rows.now c.args.grid (g.P.Policy.rounds c.args.policy.now c.args.rows.now c.args.grid) (shares_of c.loop-number.timetable) c.loop-number.number,
    )

pub returns-clause-room : goal.returns-clause-room
returns-clause-room g c =
    let all : c.loop-number.number ≡ length (stretches c.args.rows.now) =
    omega (arith, c.loop-number-test.false, ap (λ (pieces : List Piece). length pieces) c.requires.stretches) in
    can_lay c.requires.few (rw all at c.loop-number.invariant.running) (rw all at c.loop-number.invariant.tabled)
