use Rattle.std.specs.Prelude.{OnOk}
use Rattle.base.proofs.Common.{◌≡◌, ◌∷◌, Result, Ok, Err, arith}
use Rattle.yds_kernel.specs.Views.{said_read}
use Rattle.yds_trace.specs.Kept.{IsStanding, IsAtBehind}
use Rattle.yds_trace.proofs.pass.Pass.take.Goals as goal

on_ok : {A E P Q R : Type 0} (result : Result A E) → (P → Q → R) → OnOk result P → OnOk result Q → OnOk result R
on_ok (Ok x) by p q = by p q
on_ok (Err e) by p q = tt

pub returns-clause-taken : goal.returns-clause-taken
returns-clause-taken c = λ asked past boundary at.
    c.take_said.ensures.taken asked past (record { same_asked = at.same_asked; lines = at.lines; counted = at.counted })

pub returns-clause-stands : goal.returns-clause-stands
returns-clause-stands c = λ asked past boundary at.
    on_ok c.take_said.result
    (λ (now : IsStanding asked (said_read c.args.said ∷ past) c.take_said.new.self) (same : c.take_said.new.self.counted.boundary ≡ c.args.self.now.counted.boundary).
    let after : IsAtBehind asked (said_read c.args.said ∷ past) boundary c.take_said.new.self =
    record { same_asked = now.same_asked; lines = now.lines; counted = now.counted; within = omega (arith, same, at.within) } in after)
    (c.take_said.ensures.stands asked past (record { same_asked = at.same_asked; lines = at.lines; counted = at.counted }))
    c.take_said.ensures.boundary

pub returns-clause-refused : goal.returns-clause-refused
returns-clause-refused c = λ asked past boundary at.
    c.take_said.ensures.refused asked past (record { same_asked = at.same_asked; lines = at.lines; counted = at.counted })
