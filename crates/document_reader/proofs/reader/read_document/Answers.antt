use Rattle.yds_model.proofs.Common.{◌∙◌, ap, live_lines, read_after}
use Rattle.document_reader.proofs.reader.read_document.Goals as goal

pub loop-line-preserved : goal.loop-line-preserved
loop-line-preserved c =
    let old = c.loop-line.invariant in
    let told = c.in_ok-read_line.ensures.tells c.loop-line.line-iterator.start old.entries old.holds in
    record {
      can_next = tt;
      finite = tt;
      kept = c.in_ok-read_line.ensures.kept;
      entries = told.entries;
      holds = told.holds;
      rest = old.rest ∙ ap (λ ls. read_after old.entries (live_lines ls)) c.in-Some.ensures.steps.first ∙ told.same c.next.new.self.lines;
    }
