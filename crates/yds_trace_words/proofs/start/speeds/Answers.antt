use Rattle.base.proofs.Common.{◌∙◌, List, ap, subst, map}
use Rattle.std.specs.Borrow.{Bor}
use Rattle.yds_trace_words.specs.declared.letter.Letter.{Letter}
use Rattle.yds_trace_words.specs.Start.{speeds_of}
use Rattle.yds_trace_words.specs.Views.{Reads, speeds_read}
use Rattle.yds_trace_words.proofs.start.speeds.Goals as goal

pub returns : goal.returns
returns c =
    subst (λ (pieces : List (List Letter)). Reads speeds_read c.speeds_of.result (speeds_of pieces))
    (ap (λ (pieces : List (Bor (List Letter))). map (λ (piece : Bor (List Letter)). piece.now) pieces) c.deref.ensures.value ∙ c.in_ok-pieces.ensures)
    c.speeds_of.ensures
