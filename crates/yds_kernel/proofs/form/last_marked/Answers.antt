use Rattle.base.proofs.Common.{◌≡◌, ◌<◌, ◌≤◌, ◌+◌, ◌-◌, ℕ, length, drop, Some, None, ◌∙◌, sym, ap, arith, le_refl}
use Rattle.yds_kernel.specs.Form.{marked, last_marked}
use Rattle.yds_kernel.specs.Views.{marked_read}
use Rattle.yds_kernel.proofs.Places.{whole_rest, last_behind, last_here, last_from}
use Rattle.yds_kernel.proofs.form.last_marked.Goals as goal

pub loop-place-init : goal.loop-place-init
loop-place-init c = record { none = last_behind (length c.args.bytes.now) c.args.mark c.args.bytes.now; within = le_refl (length c.args.bytes.now) }

pub returns-in-Some-clause-value : goal.returns-in-Some-clause-value
returns-in-Some-clause-value c =
    let i : ℕ = c.loop-place.place - 1 in
    let next : c.loop-place.place - 1 + 1 ≡ c.loop-place.place = omega (arith, c.loop-place-test.true) in
    let here : 0 + (c.loop-place.place - 1) ≡ c.loop-place.place - 1 = omega arith in
    let below : c.loop-place.place - 1 < length c.args.bytes.now = omega (arith, c.loop-place-test.true, c.loop-place.invariant.within) in
    let up_to : c.loop-place.place - 1 ≤ length c.args.bytes.now = omega (arith, below) in
    last_from 0 c.args.mark c.args.bytes.now i (i, marked_read c.in-Some.marked) up_to
    (ap (λ (n : ℕ). last_marked n c.args.mark (drop i c.args.bytes.now)) here
    ∙ last_here i c.args.mark c.args.bytes.now i (Some (marked_read c.in-Some.marked)) below
    (ap (λ (n : ℕ). last_marked n c.args.mark (drop n c.args.bytes.now)) next ∙ c.loop-place.invariant.none)
    (ap (marked c.args.mark) (sym (whole_rest c.args.bytes.now i)) ∙ c.in-Some.ensures))

pub loop-place-preserved : goal.loop-place-preserved
loop-place-preserved c =
    let i : ℕ = c.loop-place.place - 1 in
    let next : c.loop-place.place - 1 + 1 ≡ c.loop-place.place = omega (arith, c.loop-place-test.true) in
    let below : c.loop-place.place - 1 < length c.args.bytes.now = omega (arith, c.loop-place-test.true, c.loop-place.invariant.within) in
    record {
      none = last_here i c.args.mark c.args.bytes.now i None below
          (ap (λ (n : ℕ). last_marked n c.args.mark (drop n c.args.bytes.now)) next ∙ c.loop-place.invariant.none)
          (ap (marked c.args.mark) (sym (whole_rest c.args.bytes.now i)) ∙ c.in_default.ensures);
      within = omega (arith, below);
    }
