use Rattle.base.proofs.Common.{◌≡◌, ◌∙◌, true, false, sym, refl, ap, arith, list_any, List}
use Rattle.yds_trace.specs.declared.followed.Followed.{Followed}
use Rattle.yds_trace.specs.Asked.{is_number}
use Rattle.yds_trace.specs.Faults.{has_number}
use Rattle.yds_trace.proofs.Counting.{number_is}
use Rattle.yds_trace.proofs.counted.Counted.check_name.Goals as goal

pub returns-then-has_number : goal.returns-then-has_number
returns-then-has_number c = λ asked counting is.
    let so : has_number asked counting c.args.pid 0 asked.tasks ≡ true =
    sym (number_is asked counting c.args.self.now.boundary c.args.pid c.args.self.now.tasks.items (omega (arith, is.as_many, c.args.self.now.tasks.ok.0)) is.tasks)
    ∙ ap (λ (tasks : List Followed). list_any (λ followed. is_number c.args.pid followed.pid) tasks) (sym c.deref.ensures.value)
    ∙ sym c.has_number.ensures ∙ c.if-has_number.true in
    rw so refl

pub returns : goal.returns
returns c = λ asked counting is.
    let so : has_number asked counting c.args.pid 0 asked.tasks ≡ false =
    sym (number_is asked counting c.args.self.now.boundary c.args.pid c.args.self.now.tasks.items (omega (arith, is.as_many, c.args.self.now.tasks.ok.0)) is.tasks)
    ∙ ap (λ (tasks : List Followed). list_any (λ followed. is_number c.args.pid followed.pid) tasks) (sym c.deref.ensures.value)
    ∙ sym c.has_number.ensures ∙ c.if-has_number.false in
    rw so refl
