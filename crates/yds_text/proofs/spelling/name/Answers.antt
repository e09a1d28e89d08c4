use Rattle.yds_model.proofs.Common.{sym}
use Rattle.base.proofs.Spelling.{name_utf8}
use Rattle.yds_text.proofs.Spelled.{some_text}
use Rattle.yds_text.proofs.spelling.name.Goals as goal

pub returns-then-is_name-clause-none : goal.returns-then-is_name-clause-none
returns-then-is_name-clause-none c =
    some_text _ _ _ _ c.from_utf8.result c.ok.result c.ok.ensures.value c.from_utf8.ensures.cases (name_utf8 c.args.field.text.now (sym c.if-is_name.ensures))
