use Rattle.yds_model.proofs.Common.{◌∙◌, sym, ap, flat_map}
use Rattle.yds_port.proofs.Putting.{item_put, item_failed, all_put, puts_text}
use Rattle.yds_answer_jobs.specs.Admit.{comment_text}
use Rattle.yds_answer_jobs.proofs.admit.write_comments.Goals as goal

pub returns-in_err-write_all : goal.returns-in_err-write_all
returns-in_err-write_all g c =
    puts_text (ap (flat_map (comment_text c.args.admitted.now.instance.names c.args.admitted.now.top)) c.deref-refusal-items.ensures.value)
    (item_failed (comment_text c.args.admitted.now.instance.names c.args.admitted.now.top) _ _ _ c.from_residual.ensures.0 c.loop-refusal-test.true (sym c.refusal-item.is)
    (c.as_bytes.ensures ∙ c.comment-line.ensures) c.loop-refusal.invariant c.in_err-write_all.ensures.puts)

pub loop-refusal-preserved : goal.loop-refusal-preserved
loop-refusal-preserved g c =
    item_put (comment_text c.args.admitted.now.instance.names c.args.admitted.now.top) _ _ c.loop-refusal-test.true (sym c.refusal-item.is)
    (c.as_bytes.ensures ∙ c.comment-line.ensures) c.loop-refusal.invariant c.in_ok-write_all.ensures.puts

pub returns : goal.returns
returns g c =
    puts_text (ap (flat_map (comment_text c.args.admitted.now.instance.names c.args.admitted.now.top)) c.deref-refusal-items.ensures.value)
    (all_put (comment_text c.args.admitted.now.instance.names c.args.admitted.now.top) _ c.loop-refusal-test.false c.loop-refusal.invariant)
