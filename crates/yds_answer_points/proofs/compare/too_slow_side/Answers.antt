use Rattle.yds_model.proofs.Common.{codes, decimal}
use Rattle.yds_answer_points.proofs.Compared.{side_line}
use Rattle.yds_answer_points.proofs.compare.too_slow_side.Goals as goal

pub returns : goal.returns
returns c =
    rw (
      c.end.ensures.bytes,
      c.number-4.ensures.bytes,
      c.field-5.ensures.bytes,
      c.number-3.ensures.bytes,
      c.field-4.ensures.bytes,
      c.number-2.ensures.bytes,
      c.field-3.ensures.bytes,
      c.number.ensures.bytes,
      c.field-2.ensures.bytes,
      c.field.ensures.bytes,
      c.new.ensures,
      c.from.ensures,
      c.from-2.ensures,
      c.from-3.ensures,
    )
    (side_line c.args.name.now (codes "too-slow") (codes "units") (decimal c.args.units) (codes "from") (decimal c.args.from) (codes "to") (decimal c.args.to)
    (codes "top") (decimal c.args.top))
