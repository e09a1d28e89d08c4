use Rattle.base.proofs.Common.{sym, arith, length-take-le}
use Rattle.yds_kernel.proofs.read.long_line.Goals as goal

pub slice_bounds-first_stamp-end : goal.slice_bounds-first_stamp-end
slice_bounds-first_stamp-end c = sym (length-take-le 65536 c.args.bytes.now (omega (arith, c.requires)))
