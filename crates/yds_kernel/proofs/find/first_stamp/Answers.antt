use Rattle.base.proofs.Common.{◌∙◌, ◌+◌, sym, ap, arith, length-drop}
use Rattle.yds_kernel.specs.Stamp.{stamp_at, first_stamp}
use Rattle.yds_kernel.specs.Views.{stamp_read}
use Rattle.yds_kernel.proofs.Places.{whole_rest, stamps_at, stamps_after, stamps_none}
use Rattle.yds_kernel.proofs.find.first_stamp.Goals as goal

pub returns-in-Some-stamp_at : goal.returns-in-Some-stamp_at
returns-in-Some-stamp_at c =
    sym c.loop-place.invariant.same
    ∙ stamps_at c.loop-place.rest.now c.in-Some.place (stamp_read c.in-Some-stamp_at.stamp) c.in-Some.ensures.0.high c.in-Some.ensures.0.before
    (ap stamp_at (sym (whole_rest c.loop-place.rest.now c.in-Some.place)) ∙ c.in-Some-stamp_at.ensures)

pub loop-place-preserved : goal.loop-place-preserved
loop-place-preserved c = record {
  same =
      ap first_stamp (whole_rest c.loop-place.rest.now (c.in-Some.place + 1))
      ∙ sym (stamps_after c.loop-place.rest.now c.in-Some.place c.in-Some.ensures.0.high c.in-Some.ensures.0.before
      (ap stamp_at (sym (whole_rest c.loop-place.rest.now c.in-Some.place)) ∙ c.in_default-stamp_at.ensures))
      ∙ c.loop-place.invariant.same;
  shorter = rw (whole_rest c.loop-place.rest.now (c.in-Some.place + 1)) (omega (arith, length-drop (c.in-Some.place + 1) c.loop-place.rest.now, c.loop-place.invariant.shorter));
}

pub returns : goal.returns
returns c = sym c.loop-place.invariant.same ∙ stamps_none c.loop-place.rest.now c.in_default.ensures
