use Rattle.std.proofs.Common.{◌≡◌, ap, ◌∙◌, arith, length, length-take-le}
use Rattle.memchr.specs.Find.{is_byte}
use Rattle.yds_kernel.proofs.Places.{first_in_front}
use Rattle.yds_kernel.proofs.Marks.{lowest_first}
use Rattle.yds_kernel.proofs.parts.first_place.Goals as goal

pub returns-then-marks-ne0 : goal.returns-then-marks-ne0
returns-then-marks-ne0 c =
    let chunk = c.in-Some.ensures.cases in
    let long : length c.in-Some.front.now ≡ 32 = ap length chunk.same ∙ length-take-le 32 c.args.bytes.now chunk.enough in
    let first = lowest_first (is_byte c.args.byte) c.in-Some.front.now c.marks_of-marks.result long (omega (arith, c.if-marks-ne0.true)) (omega arith) c.marks_of-marks.ensures in
    let found = rw (chunk.same) at first in
    first_in_front (is_byte c.args.byte) c.args.bytes.now 32 _ chunk.enough found.0 found.1
