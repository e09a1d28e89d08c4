use Rattle.yds_model.proofs.Common.{◌≡◌, ◌-◌, ◌≤◌, ◌∙◌, length, drop, arith, rules, ap, sym, length-append, length-drop, decimal, length-decimal-le}
use Rattle.document_text.proofs.tail_buffer.TailBuffer.put_number.Goals as goal

pub write_digits-self-inside-requires : goal.write_digits-self-inside-requires
write_digits-self-inside-requires g c =
    let small : length (decimal c.args.number) ≤ 20 = search (rules, length-decimal-le 20) in
    let len : length c.args.self.now ≡ length c.self.inside.bytes - c.self.inside.start = sym (ap length c.self.view_is) ∙ length-drop c.self.inside.start c.self.inside.bytes in
    (omega arith, omega arith)

pub returns-clause-short : goal.returns-clause-short
returns-clause-short g c =
    let small : length (decimal c.args.number) ≤ 20 = search (rules, length-decimal-le 20) in
    let text : length (drop c.self.inside.start c.self.inside.bytes) ≡ length c.args.self.now = ap length c.self.view_is in
    omega (arith, ap length c.write_digits-self-inside.ensures.written, length-append (decimal c.args.number) (drop c.self.inside.start c.self.inside.bytes))
