use Rattle.base.proofs.Common.{◌≡◌, ◌-◌, length, refl, arith}
use Rattle.yds_kernel_text.proofs.Buffer.{range_len, range_rest}
use Rattle.yds_kernel_text.proofs.reader.TraceReader.skip.Goals as goal

pub returns : goal.returns
returns c =
    let len : length c.args.self.now.left ≡ c.self.inside.filled - c.self.inside.start =
    rw (← c.self.view_is) (range_len c.self.inside.buffer.items c.self.inside.start c.self.inside.filled (omega arith) (omega arith)) in
    rw (← c.self.view_is) (record {
      left = range_rest c.self.inside.buffer.items c.self.inside.start c.self.inside.filled c.args.count (omega (arith, len));
      kept = record { text = refl; ended = refl; number = refl };
      taken = refl;
    })
