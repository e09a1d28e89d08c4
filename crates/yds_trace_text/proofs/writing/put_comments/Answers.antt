use Rattle.base.proofs.Common.{◌≡◌, ◌++◌, List, ℕ, OnOk, append_assoc, flat_map, refl, subst}
use Rattle.yds_trace.specs.Asked.{Asked}
use Rattle.yds_trace.specs.Views.{asked_read}
use Rattle.yds_trace_document.specs.Settled.{Settled}
use Rattle.yds_trace_document.specs.Views.{settled_read}
use Rattle.yds_trace_text.specs.Text.{late_comment, shown_comments, left_out_comments, short_comment, short_stretches, wake_up_comment, all_unit_comments, other_comment, tally_comments, last_line}
use Rattle.yds_trace_text.proofs.writing.put_comments.Goals as goal

regrouped : (x old late shown left short woken units others lacks last : List ℕ) → x ≡ old ++ late ++ shown ++ left →
    x ++ short ++ woken ++ units ++ others ++ lacks ++ last ≡ old ++ (late ++ shown ++ left ++ short ++ woken ++ units ++ others ++ lacks ++ last)
regrouped x old late shown left short woken units others lacks last is = rw is (simp append_assoc refl)

pub returns : goal.returns
returns c =
    let asked : Asked = asked_read c.args.asked.now in
    let settled : Settled = settled_read c.args.settled.now in
    subst (λ (all : List ℕ). OnOk c.put_more_comments.result (c.put_more_comments.new.text.items ≡ all))
    (regrouped c.put_job_comments.new.text.items c.args.text.now.items
    (flat_map (late_comment settled.units) settled.judged) (flat_map (shown_comments settled.units) settled.judged)
    (left_out_comments asked.tasks settled.by_task settled.judged) (short_comment (short_stretches settled.units settled.judged))
    (wake_up_comment settled.judged) (all_unit_comments asked.tasks settled.by_task) (flat_map (other_comment settled.units) settled.others)
    (tally_comments asked.in_parts settled.tally) (last_line settled) c.in_ok-put_job_comments.ensures)
    c.put_more_comments.ensures
