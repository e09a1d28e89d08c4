use Rattle.yds_model.proofs.Common.{length-fields_from-le}
use Rattle.yds_text.proofs.field.Fields.new.Goals as goal

pub returns-clause-count : goal.returns-clause-count
returns-clause-count c = length-fields_from-le 1 c.args.text.now
