use Rattle.yds_model.proofs.Common.{ℕ, ◌∙◌, List, map, sym, subst, arith, range_with_len, IsPermutation, map-range_with_len_more, IsNonDecreasingBy-from_sort}
use Rattle.yds_events.specs.Keys.{key_of}
use Rattle.yds_events.proofs.timeline.sorted_keys.Goals as goal

pub loop-number-preserved : goal.loop-number-preserved
loop-number-preserved c = c.in_ok-push.ensures.items ∙ rw (c.loop-number.invariant, c.from.ensures)
    (sym (map-range_with_len_more (key_of c.args.times.now) 0 c.loop-number.number c.loop-number.number (omega arith)))

pub returns : goal.returns
returns c = record {
  few = c.requires;
  once = subst (λ (n : ℕ). IsPermutation (map (key_of c.args.times.now) (range_with_len 0 n)) c.sort_unstable.new.self.items)
      (omega (arith, c.loop-number.auto.number-end, c.loop-number-test.false))
      (subst (λ (xs : List ℕ). IsPermutation xs c.sort_unstable.new.self.items) c.loop-number.invariant c.sort_unstable.ensures.permutation);
  rising = IsNonDecreasingBy-from_sort (λ k. k) c.sort_unstable.new.self.items c.sort_unstable.ensures.sorted;
}
