use Rattle.base.proofs.Common.{◌≡◌, ◌++◌, length}
use Rattle.std.specs.List.{slice_split}
use Rattle.yds_trace_words.specs.Letters.{is_at}
use Rattle.yds_trace_words.specs.declared.letter.Sign.TheVariants as signs
use Rattle.yds_trace_words.specs.Views.{pieces_read}
use Rattle.yds_trace_words.proofs.letter.pieces.Given as goal

abbrev pub invariant-loop-pieces : goal.invariant-loop-pieces
invariant-loop-pieces l = pieces_read l.pieces ++ slice_split (is_at signs.Comma) l.rest ≡ slice_split (is_at signs.Comma) l.letters

abbrev pub decreases-loop-pieces : goal.decreases-loop-pieces
decreases-loop-pieces l = length l.rest
