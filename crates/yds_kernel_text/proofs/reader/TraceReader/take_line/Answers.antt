use Rattle.base.proofs.Common.{ℕ, ◌≡◌, ◌+◌, ◌-◌, ◌≤◌, length, take, drop, refl, sym, ap, ◌∙◌, arith, without_return}
use Rattle.yds_kernel_text.proofs.Buffer.{range_len, range_front, range_rest, front_of_range}
use Rattle.yds_kernel_text.proofs.reader.TraceReader.take_line.Goals as goal

pub returns : goal.returns
returns c =
    let len : length c.args.self.now.left ≡ c.self.inside.filled - c.self.inside.start =
    rw (← c.self.view_is) (range_len c.self.inside.buffer.items c.self.inside.start c.self.inside.filled (omega arith) (omega arith)) in
    let value : take c.trimmed_len-text_len.result (take (c.self.inside.start + c.args.len - c.self.inside.start) (drop c.self.inside.start c.self.inside.buffer.items)) ≡ without_return (take (c.self.inside.start + c.args.len - c.self.inside.start) (drop c.self.inside.start c.self.inside.buffer.items)) =
    rw (← c.deref.ensures.value) c.trimmed_len-text_len.ensures.value in
    let within : c.trimmed_len-text_len.result ≤ length (take (c.self.inside.start + c.args.len - c.self.inside.start) (drop c.self.inside.start c.self.inside.buffer.items)) =
    rw (← c.deref.ensures.value) c.trimmed_len-text_len.ensures.within in
    let short : c.trimmed_len-text_len.result ≤ c.args.len =
    omega (arith, within, len, c.requires, range_len c.self.inside.buffer.items c.self.inside.start (c.self.inside.start + c.args.len) (omega arith) (omega (arith, len, c.requires))) in
    rw (← c.self.view_is) (record {
      text =
          front_of_range c.self.inside.buffer.items c.self.inside.start c.args.len c.trimmed_len-text_len.result short
          ∙ value
          ∙ ap without_return (sym (range_front c.self.inside.buffer.items c.self.inside.start c.self.inside.filled c.args.len (omega (arith, len, c.requires))));
      left = range_rest c.self.inside.buffer.items c.self.inside.start c.self.inside.filled (c.args.len + 1) (omega (arith, len, c.requires));
      ended = refl;
      number = refl;
      taken = refl;
    })
