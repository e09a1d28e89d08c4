use Rattle.yds_model.proofs.Common.{◌≡◌, ◌+◌, ◌-◌, ℕ, List, Ok, length, sym, subst, Field, fields_from, Fraction, fraction_at}
use Rattle.yds_fraction.specs.Mixed.{fraction_of}
use Rattle.yds_text.specs.Left.{FieldsLeft}
use Rattle.yds_text.specs.Plain.{ReadsText}
use Rattle.yds_text.proofs.PlainField.{reads_text}
use Rattle.yds_text.proofs.field.Fields.plain_fraction.Goals as goal

pub returns : goal.returns
returns c =
    let Says : Fraction → List ℕ → Type 0 = λ value text. fraction_at c.args.most text ≡ Ok value in
    let after : List Field = fields_from (c.self.inside.column + (length c.self.inside.rest.now - length c.in_ok-whole.rest.now)) c.in_ok-whole.rest.now in
    subst (λ (left : FieldsLeft). ReadsText (Says c.new.result) left.fields after) c.self.view_is
    (subst (λ (value : Fraction). ReadsText (Says value) (fields_from c.self.inside.column c.self.inside.rest.now) after) (sym c.new.ensures.value)
    (reads_text (Says (fraction_of c.in_ok-whole.whole c.in_ok-whole.num c.in_ok-whole.den)) c.self.inside.column c.self.inside.rest.now c.in_ok-whole.rest.now c.in_ok-whole.ensures.says))
