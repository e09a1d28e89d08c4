use Rattle.base.proofs.Common.{◌∙◌, ℕ, Option, ap₂}
use Rattle.yds_trace.specs.declared.find.Found.{Found}
use Rattle.yds_trace.specs.Asked.{is_numbered, is_named}
use Rattle.yds_trace.specs.Views.{task_read}
use Rattle.yds_trace.proofs.Finding.{position_map}
use Rattle.yds_trace.proofs.find.find.Goals as goal

pub returns : goal.returns
returns c =
    let both : Option ℕ → Option ℕ → Found = λ (numbered : Option ℕ) (named : Option ℕ). record { numbered = numbered; named = named; pid = c.args.thread.pid } in
    ap₂ both
    (c.find_numbered.ensures ∙ position_map task_read (λ task. is_numbered c.args.thread.pid task.thread) c.args.tasks.now)
    (c.find_named.ensures ∙ position_map task_read (λ task. is_named c.args.thread.name.now task.thread) c.args.tasks.now)
