use Rattle.yds_model.proofs.Common.{sym, ◌∙◌, ◌∷◌, read_fields}
use Rattle.yds_model.specs.declared.reason.Reason.TheVariants as reasons
use Rattle.yds_text.specs.Read.{field_read}
use Rattle.document_reader.proofs.Placed.{misplaced, too_many, told_by_kind, fails_at}
use Rattle.document_reader.proofs.draft.Draft.read_fields.Goals as goal

pub returns-then-not-may_follow-clause-reads : goal.returns-then-not-may_follow-clause-reads
returns-then-not-may_follow-clause-reads c = λ earlier holds.
    let fields = field_read c.args.first ∷ c.args.rest.fields in
    fails_at _ (read_fields earlier fields) c.args.first.column reasons.Misplaced c.at-then-not-may_follow.ensures
    (misplaced earlier fields c.in-Some.kind c.args.self.now c.in-Some.ensures c.requires.kept holds (sym c.may_follow.ensures ∙ c.if-not-may_follow.true))

pub returns-then-not-has_room-clause-reads : goal.returns-then-not-has_room-clause-reads
returns-then-not-has_room-clause-reads c = λ earlier holds.
    let fields = field_read c.args.first ∷ c.args.rest.fields in
    fails_at _ (read_fields earlier fields) c.args.first.column reasons.TooMany c.at-then-not-has_room.ensures
    (too_many earlier fields c.in-Some.kind c.args.self.now c.in-Some.ensures c.requires.kept holds (sym c.may_follow.ensures ∙ c.if-not-may_follow.false) (sym c.has_room.ensures ∙ c.if-not-has_room.true))

pub returns-clause-reads : goal.returns-clause-reads
returns-clause-reads c = λ earlier holds.
    let fields = field_read c.args.first ∷ c.args.rest.fields in
    told_by_kind earlier fields c.in-Some.kind c.args.self.now _ _ c.in-Some.ensures c.requires.kept holds (sym c.may_follow.ensures ∙ c.if-not-may_follow.false)
    (sym c.has_room.ensures ∙ c.if-not-has_room.false) (c.read_kind.ensures.reads earlier holds)
