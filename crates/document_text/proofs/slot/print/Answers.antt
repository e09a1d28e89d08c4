use Rattle.yds_model.proofs.Common.{◌<◌, ◌∙◌, length, slot_line}
use Rattle.document_text.proofs.Batches.{part_put, part_failed, lines_of_both, all_of_others}
use Rattle.document_text.proofs.slot.print.Goals as goal

pub returns-in_err-write_all : goal.returns-in_err-write_all
returns-in_err-write_all g c =
    part_failed _ (lines_of_both (slot_line c.args.instance.now.names) c.loop-rest.rest.now c.min.result (c.as_bytes.ensures ∙ c.put_all.ensures) c.split_at.ensures.front c.split_at.ensures.back) _ c.from_residual.ensures.0
    c.loop-rest.invariant.0 c.in_err-write_all.ensures.puts

pub loop-rest-preserved : goal.loop-rest-preserved
loop-rest-preserved g c = (
  part_put _ (lines_of_both (slot_line c.args.instance.now.names) c.loop-rest.rest.now c.min.result (c.as_bytes.ensures ∙ c.put_all.ensures) c.split_at.ensures.front c.split_at.ensures.back) c.loop-rest.invariant.0 c.in_ok-write_all.ensures.puts,
  all_of_others (λ slot. slot.job < length c.args.instance.now.jobs) c.loop-rest.rest.now c.min.result c.split_at.ensures.back c.loop-rest.invariant.1,
)
