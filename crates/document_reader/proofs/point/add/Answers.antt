use Rattle.yds_model.proofs.Common.{Some, ◌∙◌, ap, sym, [], ◌∷◌, ◌++◌}
use Rattle.document_value.specs.Documents.{points_of}
use Rattle.document_reader.proofs.Held.{holds_point}
use Rattle.document_reader.proofs.point.add.Goals as goal

pub returns-in_ok-first_point-in-None-clause-takes : goal.returns-in_ok-first_point-in-None-clause-takes
returns-in_ok-first_point-in-None-clause-takes c =
    holds_point c.args.draft.now (Some c.in_ok-first_point-in-None.field-0) c.args.point (c.in_ok-first_point-in-None.ensures.one ∙ ap (λ t. points_of t ++ c.args.point ∷ []) (sym c.in-None.is))

pub returns-in_ok-next_point-in-Some-clause-takes : goal.returns-in_ok-next_point-in-Some-clause-takes
returns-in_ok-next_point-in-Some-clause-takes c =
    holds_point c.args.draft.now (Some c.next_point.new.table) c.args.point (c.in_ok-next_point-in-Some.ensures.last ∙ ap (λ t. points_of t ++ c.args.point ∷ []) (sym c.in-Some.is))
