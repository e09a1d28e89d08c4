use Rattle.yds_kernel.proofs.Marks.{blanks_marked}
use Rattle.yds_kernel.proofs.parts.blank_marks.Goals as goal

pub returns : goal.returns
returns c = blanks_marked c.marks_of.result c.marks_of-2.result c.args.bytes.now c.marks_of.ensures c.marks_of-2.ensures
