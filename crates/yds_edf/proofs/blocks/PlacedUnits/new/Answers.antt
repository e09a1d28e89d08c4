use Rattle.yds_model.proofs.Common.{ℕ, ◌+◌, ◌/◌, length, replicate, refl, sym, arith, length-replicate}
use Rattle.yds_edf.proofs.PlacedSums.{none_in_blocks, small_in_range, none_before}
use Rattle.yds_edf.proofs.blocks.PlacedUnits.new.Goals as goal

pub invariant_of-result : goal.invariant_of-result
invariant_of-result c =
    rw (
      c.in_ok-vec.ensures.items_if_clones_equal (λ y h. h),
      c.in_ok-vec-2.ensures.items_if_clones_equal (λ y h. h),
      c.in_ok-vec-3.ensures.items_if_clones_equal (λ y h. h),
    )
    (record {
      few = omega (arith, length-replicate {A = ℕ} c.args.count 0, c.requires);
      in_range = small_in_range c.args.count;
      in_blocks = none_in_blocks c.args.count;
      in_groups = none_in_blocks (c.args.count / 8 + 1);
      all = sym (none_before c.args.count (length (replicate {A = ℕ} c.args.count 0)));
      none = refl;
    })
