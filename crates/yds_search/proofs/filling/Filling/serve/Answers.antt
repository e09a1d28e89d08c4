use Rattle.yds_model.proofs.Common.{◌≡◌, ◌<◌, ◌≤◌, ◌+◌, ◌++◌, ◌∙◌, length, get_or, set, take, drop, List, [], ℕ, refl, ap, arith, take_at, get_or-map, length-map, length-set}
use Rattle.yds_events.specs.declared.window.Window.{Window}
use Rattle.yds_events.specs.Window.{window_at, no_window, IsIn}
use Rattle.yds_search.specs.declared.own.OwnJob.{OwnJob}
use Rattle.yds_search.specs.Own.{own_windows, window_of, HaveWindows}
use Rattle.yds_search.specs.Fill.{IsNext}
use Rattle.yds_search.specs.Cells.{rooms_of}
use Rattle.yds_search.proofs.Fills.{serve_begins, serve_ends, take_next, take_fills, next_jumps}
use Rattle.yds_search.proofs.Reaches.{take_rooms, serving_takes}
use Rattle.yds_search.proofs.filling.Filling.serve.Goals as goal

-- the window that is read
window_is : (jobs : List OwnJob) (job : ℕ) → job < length jobs → window_at (own_windows jobs) job ≡ window_of (get_or jobs job (record { job = 0; work = 0; first = 0; end = 0 }))
window_is jobs job known = get_or-map window_of jobs job (record { job = 0; work = 0; first = 0; end = 0 }) no_window known

-- a place before the end of the window that is read, and where the window begins
record IsInside (jobs : List OwnJob) (job m place : ℕ) : Type 0 where
  known : job < length (own_windows jobs)
  inside : IsIn (own_windows jobs) job place
  within : place < m
  begins : (get_or jobs job (record { job = 0; work = 0; first = 0; end = 0 })).first ≡ (window_at (own_windows jobs) job).first

inside_window : (jobs : List OwnJob) (job m place : ℕ) → HaveWindows m jobs → job < length jobs → (window_at (own_windows jobs) job).first ≤ place →
    place < (get_or jobs job (record { job = 0; work = 0; first = 0; end = 0 })).end → IsInside jobs job m place
inside_window jobs job m place windows known from upto =
    let range = windows job (record { job = 0; work = 0; first = 0; end = 0 }) known in
    let is = window_is jobs job known in
    record {
      known = omega (arith, known, length-map jobs window_of);
      inside = record { from = from; upto = omega (arith, upto, ap (λ (window : Window). window.end) is) };
      within = omega (arith, upto, range.1);
      begins = omega (arith, ap (λ (window : Window). window.first) is);
    }

pub loop-place-init : goal.loop-place-init
loop-place-init c =
    let begins = ap (λ (window : Window). window.first) (window_is c.args.jobs.now c.args.job c.requires.known) in
    let next : IsNext (rooms_of c.args.self.now.cells.items) c.deref_mut.result.now = rw c.deref_mut.ensures.value c.requires.next in
    let found = c.next_place-place.ensures.place (rooms_of c.args.self.now.cells.items) next in
    let same : take c.args.self.now.next.len (c.next_place-place.new.next ++ drop (length c.next_place-place.new.next) c.args.self.now.next.items) ≡ c.next_place-place.new.next =
    take_at _ _ _ (c.next_place-place.auto.next ∙ c.deref_mut.ensures.len) in
    record {
      served = λ shares taken later. record {
        shares' = shares;
        served = serve_begins (own_windows c.args.jobs.now) c.args.job c.args.want shares (rooms_of c.args.self.now.cells.items) c.next_place-place.result taken later
            (λ k from before. found.full k (omega (arith, from, begins)) before);
        reaches = λ m so_far. so_far;
        keeps = λ keeps. keeps;
        lates = refl;
      };
      next = rw same (c.next_place-place.ensures.next (rooms_of c.args.self.now.cells.items) next);
      from = omega (arith, found.after, begins);
      within = rw same (omega (arith, found.within, c.next_place-place.auto.next));
      count = refl;
      late = refl;
    }

pub returns-clause-served : goal.returns-clause-served
returns-clause-served c shares taken later =
    let so_far = c.loop-place.invariant.served shares taken later in
    record {
      shares' = so_far.shares';
      served = serve_ends so_far.served (omega (arith, c.loop-place-test.false, ap (λ (window : Window). window.end) (window_is c.args.jobs.now c.args.job c.requires.known)));
      reaches = so_far.reaches;
      keeps = so_far.keeps;
      lates = so_far.lates;
    }

pub returns-then-left-eq0-clause-served : goal.returns-then-left-eq0-clause-served
returns-then-left-eq0-clause-served c shares taken later =
    let here = inside_window c.args.jobs.now c.args.job (length c.args.self.now.cells.items) c.loop-place.place c.requires.windows c.requires.known c.loop-place.invariant.from
    c.loop-place-test.true in
    let so_far = c.loop-place.invariant.served shares taken later in
    serving_takes (own_windows c.args.jobs.now) c.args.job c.args.want c.args.self.now.late _ shares _ c.loop-place.place c.loop-place.left _ _ _ _ _ _ _ so_far here.known here.inside here.within
    c.loop-place.invariant.count here.begins (rw c.loop-place.invariant.late at c.in_ok-left.ensures.taken so_far.shares') (omega (arith, here.inside.upto))
    (λ some. absurd (omega (arith, some, c.if-left-eq0.true)))

pub returns-then-left-eq0-clause-next : goal.returns-then-left-eq0-clause-next
returns-then-left-eq0-clause-next c =
    let here = inside_window c.args.jobs.now c.args.job (length c.args.self.now.cells.items) c.loop-place.place c.requires.windows c.requires.known c.loop-place.invariant.from
    c.loop-place-test.true in
    rw c.in_ok-left.ensures.next (take_next _ _ _ _ _ _ _ _ _ c.loop-place.invariant.next
    (take_rooms _ _ _ _ _ _ _ _ _ (omega (arith, here.within, c.loop-place.invariant.count)) (c.in_ok-left.ensures.taken []).1))

pub loop-place-preserved : goal.loop-place-preserved
loop-place-preserved c =
    let here = inside_window c.args.jobs.now c.args.job (length c.args.self.now.cells.items) c.loop-place.place c.requires.windows c.requires.known c.loop-place.invariant.from
    c.loop-place-test.true in
    let within : c.loop-place.place < length c.loop-place.self.cells.items = omega (arith, here.within, c.loop-place.invariant.count) in
    let room : c.loop-place.place < length (rooms_of c.loop-place.self.cells.items) = omega (arith, within, length-map c.loop-place.self.cells.items (λ cell. cell.room)) in
    let takes = take_rooms _ _ _ _ _ _ _ _ _ within (c.in_ok-left.ensures.taken []).1 in
    let next : IsNext (rooms_of c.take.new.self.cells.items) c.deref_mut-in-loop-place.result.now =
    rw (c.deref_mut-in-loop-place.ensures.value, c.in_ok-left.ensures.next) (take_next _ _ _ _ _ _ _ _ _ c.loop-place.invariant.next takes) in
    let moved = c.next_place-after.ensures.next (rooms_of c.take.new.self.cells.items) next in
    let found = c.next_place-after.ensures.place (rooms_of c.take.new.self.cells.items) next in
    let same : take c.take.new.self.next.len (c.next_place-after.new.next ++ drop (length c.next_place-after.new.next) c.take.new.self.next.items) ≡ c.next_place-after.new.next =
    take_at _ _ _ (c.next_place-after.auto.next ∙ c.deref_mut-in-loop-place.ensures.len) in
    record {
      served = λ shares taken later.
          let so_far = c.loop-place.invariant.served shares taken later in
          serving_takes (own_windows c.args.jobs.now) c.args.job c.args.want c.args.self.now.late _ shares _ c.loop-place.place c.loop-place.left _ _ _ _ _ _ _ so_far here.known here.inside
          here.within c.loop-place.invariant.count here.begins (rw c.loop-place.invariant.late at c.in_ok-left.ensures.taken so_far.shares') found.after
          (λ some k from upto. found.full k from upto);
      next = rw same (next_jumps c.loop-place.place c.next_place-after.result moved (omega (arith, within, c.in_ok-left.ensures.count, length-map c.take.new.self.cells.items (λ cell. cell.room)))
          (take_fills _ _ _ _ _ _ _ _ room takes (omega (arith, c.if-left-eq0.false))) (rw c.next_place-after.auto.next found));
      from = omega (arith, found.after, c.loop-place.invariant.from);
      within = rw same (omega (arith, found.within, c.next_place-after.auto.next, length-set c.next_place-after.new.next c.loop-place.place c.next_place-after.result));
      count = c.in_ok-left.ensures.count ∙ c.loop-place.invariant.count;
      late = c.in_ok-left.ensures.late ∙ c.loop-place.invariant.late;
    }
