use Rattle.std.proofs.Common.{◌≡◌, ◌↔◌, ◌<◌, sym, subst}
use Rattle.std.specs.Int.{bit_at}
use Rattle.memchr.specs.Find.{Passes, is_byte}
use Rattle.yds_kernel.proofs.Marks.{marked_by, marked_where}
use Rattle.yds_kernel.proofs.parts.marks_of.Goals as goal

pub returns : goal.returns
returns c k =
    subst (λ marks. (bit_at marks k ≡ 1) ↔ ((k < 32) × Passes (is_byte c.args.byte) c.args.bytes.now k)) (sym (marked_by c.args.byte c.args.bytes.now c.told-bytes))
    (marked_where c.args.byte c.args.bytes.now c.told-bytes k)
