use Rattle.yds_model.proofs.Common.{◌≡◌, ◌-◌, ◌==◌, ◌∙◌, List, ℕ, length, get_or, map, ap, arith, dedup, length-set, take_all}
use Rattle.yds_events.specs.Keys.{time_of_key, with_end}
use Rattle.yds_events.proofs.Keys.{as_many, all_keys, rising_keys}
use Rattle.yds_events.proofs.Cut.{added, times_more, placed_more, all_placed}
use Rattle.yds_events.proofs.timeline.cut.Goals as goal

pub overflow_cast-len : goal.overflow_cast-len
overflow_cast-len c = omega (
  arith,
  (added c.loop-key.times.items c.time.result).few,
  ap (λ (xs : List ℕ). length xs) c.in_ok-add_last.ensures,
  c.add_last.new.times.ok,
  as_many c.requires.0 c.args.keys.now c.requires.1,
  c.requires.1.few,
)

pub index_mut-requires : goal.index_mut-requires
index_mut-requires c = omega (
  arith,
  c.number.ensures,
  (all_keys c.requires.0 c.args.keys.now c.requires.1 c.loop-key.key-index 0 c.loop-key-test.true).known,
  as_many c.requires.0 c.args.keys.now c.requires.1,
  c.loop-key.places.ok,
)

pub loop-key-preserved : goal.loop-key-preserved
loop-key-preserved c =
    let key = get_or c.args.keys.now c.loop-key.key-index 0 in
    let times = c.in_ok-add_last.ensures ∙ ap (with_end c.loop-key.times.items) c.time.ensures in
    let place : c.len.result - 1 ≡ length (with_end c.loop-key.times.items (time_of_key key)) - 1 =
    omega (arith, ap (λ (xs : List ℕ). length xs) times, c.add_last.new.times.ok) in
    record {
      few = omega (arith, (added c.loop-key.times.items c.time.result).few, ap (λ (xs : List ℕ). length xs) c.in_ok-add_last.ensures);
      count = omega (arith, length-set c.loop-key.places.items c.number.result (c.len.result - 1), c.loop-key.invariant.count);
      times = times ∙ ap (λ (xs : List ℕ). with_end xs (time_of_key key)) c.loop-key.invariant.times ∙ times_more c.args.keys.now c.loop-key.key-index c.loop-key-test.true;
      placed = rw (times, c.number.ensures, place) (placed_more c.requires.0 c.args.keys.now c.loop-key.times.items c.loop-key.places.items c.loop-key.key-index
          (all_keys c.requires.0 c.args.keys.now c.requires.1) (as_many c.requires.0 c.args.keys.now c.requires.1) c.loop-key.invariant.count c.loop-key-test.true
          c.loop-key.invariant.placed);
    }

pub returns-clause-times : goal.returns-clause-times
returns-clause-times c times are = c.loop-key.invariant.times
    ∙ ap (λ (xs : List ℕ). dedup (λ x y. x == y) (map time_of_key xs)) (take_all c.loop-key.key-index c.args.keys.now c.loop-key-test.false) ∙ rising_keys times c.args.keys.now are

pub returns-clause-places : goal.returns-clause-places
returns-clause-places c times are = all_placed times c.args.keys.now c.loop-key.times.items c.loop-key.places.items are c.loop-key.invariant.count
    (λ i below. c.loop-key.invariant.placed i (omega (arith, below, c.loop-key-test.false)))
