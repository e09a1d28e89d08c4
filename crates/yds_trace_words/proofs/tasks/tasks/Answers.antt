use Rattle.base.proofs.Common.{◌∙◌, List, ap, subst, map}
use Rattle.std.specs.Borrow.{Bor}
use Rattle.std.specs.List.{slice_split}
use Rattle.yds_trace_words.specs.declared.letter.Letter.{Letter}
use Rattle.yds_trace_words.specs.declared.letter.Sign.TheVariants as signs
use Rattle.yds_trace_words.specs.Letters.{is_at}
use Rattle.yds_trace_words.specs.Tasks.{tasks_of}
use Rattle.yds_trace_words.specs.Views.{Reads, tasks_read}
use Rattle.yds_trace_words.proofs.tasks.tasks.Goals as goal

pub returns : goal.returns
returns c =
    subst (λ (pieces : List (List Letter)). Reads tasks_read c.tasks_of.result (tasks_of c.args.unit pieces))
    (ap (λ (pieces : List (Bor (List Letter))). map (λ (piece : Bor (List Letter)). piece.now) pieces) c.deref-2.ensures.value ∙ c.in_ok-pieces.ensures
    ∙ ap (slice_split (is_at signs.Comma)) (c.deref.ensures.value ∙ c.in_ok-letters.ensures))
    c.tasks_of.ensures
