use Rattle.yds_model.proofs.Common.{ℕ, ◌++◌, [], ◌∷◌, replicate, length, ap, sym, ◌∙◌, append_assoc, arith, length-append, append-nil, length-replicate}
use Rattle.std.proofs.lemmas.Grind.{replicate_next}
use Rattle.text_line.proofs.line_buffer.LineBuffer.push_spaces.Goals as goal

pub loop-init : goal.loop-init
loop-init c = c.self.view_is ∙ sym (append-nil c.args.self.now)

pub push_str-requires : goal.push_str-requires
push_str-requires c =
    (omega arith, omega (arith, ap length c.loop.invariant, length-append c.args.self.now (replicate c.loop.counter 32), length-replicate {A = ℕ} c.loop.counter 32))

pub loop-preserved : goal.loop-preserved
loop-preserved c =
    c.push_str.ensures.bytes ∙ ap (λ l. l ++ 32 ∷ []) c.loop.invariant ∙ append_assoc c.args.self.now (replicate c.loop.counter 32) (32 ∷ [])
    ∙ ap (λ l. c.args.self.now ++ l) (sym (replicate_next c.loop.counter 32))
