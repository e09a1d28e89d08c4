use Rattle.base.proofs.Common.{ℕ, ◌≡◌, ◌+◌, ◌-◌, length, take, drop, refl, sym, ap, ◌∙◌, arith}
use Rattle.yds_kernel_text.proofs.Buffer.{range_len, range_front}
use Rattle.yds_kernel_text.proofs.reader.TraceReader.take_front.Goals as goal

pub returns : goal.returns
returns c =
    let len : length c.args.self.now.left ≡ c.self.inside.filled - c.self.inside.start =
    rw (← c.self.view_is) (range_len c.self.inside.buffer.items c.self.inside.start c.self.inside.filled (omega arith) (omega arith)) in
    let count : c.self.inside.start + 65536 + 1 - c.self.inside.start ≡ c.self.inside.start + 65537 - c.self.inside.start = omega arith in
    let none : c.self.inside.filled - c.self.inside.filled ≡ 0 = omega arith in
    rw (← c.self.view_is) (record {
      text =
          ap (λ (n : ℕ). take n (drop c.self.inside.start c.self.inside.buffer.items)) count
          ∙ sym (range_front c.self.inside.buffer.items c.self.inside.start c.self.inside.filled 65537 (omega (arith, len, c.requires)));
      left = ap (λ (n : ℕ). take n (drop c.self.inside.filled c.self.inside.buffer.items)) none;
      ended = refl;
      number = refl;
      taken = refl;
    })
