use Rattle.yds_model.proofs.Common.{◌+◌, ◌-◌, ◌≤◌, ◌++◌, ◌∙◌, length, drop, arith, ap, ap₂, sym, drop-drop, drop-append-le}
use Rattle.document_text.proofs.tail_buffer.TailBuffer.put_text.Goals as goal

pub returns-clause-bytes : goal.returns-clause-bytes
returns-clause-bytes g c =
    let written = c.write_before-start in
    let bytes = c.front.inside.bytes in
    let within : c.front.inside.start ≤ length bytes = omega arith in
    sym (drop-drop c.front.inside.start written.result written.new.bytes) ∙ ap (drop c.front.inside.start) written.ensures.written
    ∙ drop-append-le c.front.inside.start bytes (drop c.self.inside.start c.self.inside.bytes) within ∙ ap₂ (λ front text. front ++ text) c.front.view_is c.self.view_is
