use Rattle.yds_model.proofs.Common.{codes, decimal, name_at}
use Rattle.yds_answer_jobs.proofs.Comments.{comment_line}
use Rattle.yds_answer_jobs.proofs.admit.comment.Goals as goal

pub returns : goal.returns
returns c =
    rw (
      ← c.refusal.view_is,
      c.end.ensures.bytes,
      c.number-4.ensures.bytes,
      c.field-6.ensures.bytes,
      c.number-3.ensures.bytes,
      c.field-5.ensures.bytes,
      c.number-2.ensures.bytes,
      c.field-4.ensures.bytes,
      c.number.ensures.bytes,
      c.field-3.ensures.bytes,
      c.field-2.ensures.bytes,
      c.field.ensures.bytes,
      c.new.ensures,
      c.name.ensures.name,
      c.from.ensures,
      c.from-2.ensures,
      c.from-3.ensures,
    )
    (comment_line (codes "#") (codes "refuse") (name_at c.args.instance.now.names c.refusal.inside.job) (codes "from") (decimal c.refusal.inside.from) (codes "to") (decimal c.refusal.inside.to)
    (codes "work") (decimal c.refusal.inside.work) (codes "top") (decimal c.args.top))
