use Rattle.base.proofs.Common.{◌≡◌, ◌∙◌, ◌++◌, ℕ, List, OnOk, ap, refl, sym, subst, codes, count_by, length, length-map, arith}
use Rattle.yds_trace.specs.Document.{is_left_out}
use Rattle.yds_trace_document.specs.declared.judged.Judged.{Judged as JudgedKept}
use Rattle.yds_trace_document.specs.Views.{judged_read, written_read, written_list}
use Rattle.yds_trace_text.specs.Text.{comment, counted, left_out_text, without_runs_text, is_without_runs}
use Rattle.yds_trace_document.proofs.Lists.{count_by_map}
use Rattle.yds_trace_text.proofs.Read.{next_same}
use Rattle.yds_trace_text.proofs.last.put_last.Goals as goal

pub returns : goal.returns
returns c =
    let number : c.len.result ≡ length (written_list c.args.settled.now.jobs.items) =
    omega (arith, c.len.ensures, c.args.settled.now.jobs.ok.0, length-map c.args.settled.now.jobs.items written_read) in
    subst (λ (line : List ℕ). OnOk c.put_comment.result (c.put_comment.new.text.items ≡ c.args.text.now.items ++ line))
    (ap comment (next_same (c.as_slice.ensures.value ∙ c.in_ok-written.ensures
    ∙ ap (λ (n : ℕ). counted n (codes "job") (codes "jobs")) number)
    (next_same c.as_slice-2.ensures
    (next_same (c.as_slice-3.ensures.value ∙ c.in_ok-missing.ensures
    ∙ ap left_out_text (c.left_out.ensures ∙ ap (λ (judged : List JudgedKept). count_by (λ one. is_left_out (judged_read one)) judged) c.deref.ensures.value
    ∙ sym (count_by_map is_left_out judged_read c.args.settled.now.judged.items)))
    (next_same (c.as_slice-4.ensures.value ∙ c.in_ok-late.ensures
    ∙ ap without_runs_text (c.without_runs.ensures ∙ ap (λ (judged : List JudgedKept). count_by (λ one. is_without_runs (judged_read one)) judged) c.deref-2.ensures.value
    ∙ sym (count_by_map is_without_runs judged_read c.args.settled.now.judged.items))) refl)))))
    c.put_comment.ensures
