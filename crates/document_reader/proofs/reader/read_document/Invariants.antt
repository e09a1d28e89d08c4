use Rattle.yds_model.proofs.Common.{◌≡◌, List, [], lines_of, Entry, live_lines, read_after}
use Rattle.document_reader.specs.Draft.{IsDraft, Holds}
use Rattle.document_reader.proofs.reader.read_document.Given as goal

-- the draft holds what the lines so far said, and the rest of the lines decides
abbrev pub invariant-loop-line : goal.invariant-loop-line
invariant-loop-line l = record {
  can_next : (goal.iterator-loop-line).can_next l.line-iterator;
  finite : (goal.iterator-loop-line).is_finite l.line-iterator;
  kept : IsDraft l.draft;
  entries : List Entry;
  holds : Holds l.draft entries;
  rest : read_after [] (live_lines (lines_of l.bytes)) ≡ read_after entries (live_lines l.line-iterator.lines);
}
