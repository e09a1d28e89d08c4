use Rattle.base.proofs.Common.{ℕ, ◌≡◌, ◌+◌, ◌-◌, ◌≤◌, length, take, drop, refl, sym, ap, ◌∙◌, arith, without_return}
use Rattle.yds_kernel_text.proofs.Buffer.{range_len, range_front}
use Rattle.yds_kernel_text.proofs.reader.TraceReader.take_rest.Goals as goal

pub returns : goal.returns
returns c =
    let value : take c.trimmed_len-text_len.result (take (c.self.inside.filled - c.self.inside.start) (drop c.self.inside.start c.self.inside.buffer.items)) ≡ without_return (take (c.self.inside.filled - c.self.inside.start) (drop c.self.inside.start c.self.inside.buffer.items)) =
    rw (← c.deref.ensures.value) c.trimmed_len-text_len.ensures.value in
    let within : c.trimmed_len-text_len.result ≤ length (take (c.self.inside.filled - c.self.inside.start) (drop c.self.inside.start c.self.inside.buffer.items)) =
    rw (← c.deref.ensures.value) c.trimmed_len-text_len.ensures.within in
    let none : c.self.inside.filled - c.self.inside.filled ≡ 0 = omega arith in
    rw (← c.self.view_is) (record {
      text =
          sym (range_front c.self.inside.buffer.items c.self.inside.start c.self.inside.filled c.trimmed_len-text_len.result
          (omega (arith, within, range_len c.self.inside.buffer.items c.self.inside.start c.self.inside.filled (omega arith) (omega arith))))
          ∙ value;
      left = ap (λ (n : ℕ). take n (drop c.self.inside.filled c.self.inside.buffer.items)) none;
      ended = refl;
      number = refl;
      taken = refl;
    })
