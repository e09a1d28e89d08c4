use Rattle.base.proofs.Common.{◌≡◌, ◌<◌, ℕ, List, [], length, IfOk, subst, arith}
use Rattle.yds_trace.specs.Document.{written_name}
use Rattle.yds_trace_document.specs.Views.{judged_read}
use Rattle.yds_trace_text.proofs.Read.{read_at}
use Rattle.yds_trace_text.proofs.limit.name_at.Goals as goal

pub returns-in-Some : goal.returns-in-Some
returns-in-Some c =
    let within : c.args.place < length c.args.judged.now = let test = c.in-Some.ensures.lookup.0 in grind arith in
    subst (λ (made : List ℕ). IfOk c.text.result (λ name. name.items ≡ made))
    (read_at judged_read written_name c.args.judged.now c.args.place [] c.in-Some.one.now within c.in-Some.ensures.lookup.1) c.text.ensures
