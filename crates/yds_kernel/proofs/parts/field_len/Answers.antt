use Rattle.std.proofs.Common.{◌≡◌, sym, ap, ◌∙◌, arith, length, length-take-le}
use Rattle.base.specs.Lines.{is_blank}
use Rattle.yds_kernel.proofs.Marks.{lowest_first, first_blank}
use Rattle.yds_kernel.proofs.parts.field_len.Goals as goal

pub returns-then-marks-ne0 : goal.returns-then-marks-ne0
returns-then-marks-ne0 c =
    let chunk = c.in-Some.ensures.cases in
    let long : length c.in-Some.front.now ≡ 32 = ap length chunk.same ∙ length-take-le 32 c.args.bytes.now chunk.enough in
    let first = lowest_first is_blank c.in-Some.front.now c.blank_marks-marks.result long (omega (arith, c.if-marks-ne0.true)) (omega arith) c.blank_marks-marks.ensures in
    let found = rw (chunk.same) at first in
    record {
      value = sym (first_blank c.args.bytes.now 32 _ chunk.enough found.0 found.1);
      within = omega (arith, first.0.high, long, chunk.enough);
    }
