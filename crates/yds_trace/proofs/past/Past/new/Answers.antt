use Rattle.base.proofs.Common.{◌≡◌, List, map, ap, subst, refl}
use Rattle.yds_trace.specs.declared.asked.StartSpeed.{StartSpeed as StartSpeedKept}
use Rattle.yds_trace.specs.declared.past.Told.{Told}
use Rattle.yds_trace.specs.Kept.{TellsSpeeds}
use Rattle.yds_trace.specs.Views.{start_read, speed_read}
use Rattle.yds_trace.proofs.past.Past.new.Goals as goal

-- the same of an equal list
told_as : (speeds kept : List StartSpeedKept) (told : List Told) → speeds ≡ kept → TellsSpeeds (map speed_read speeds) told → TellsSpeeds (map speed_read kept) told
told_as speeds kept told same tells = subst (λ (list : List StartSpeedKept). TellsSpeeds (map speed_read list) told) same tells

pub returns-in-Fixed-clause-stands : goal.returns-in-Fixed-clause-stands
returns-in-Fixed-clause-stands c =
    c.begun.ensures.stands (start_read c.args.start.now) (rw c.in-Fixed.is refl) (λ processor. rw (c.in-Fixed.is, c.new.ensures.items) refl)

pub returns-in-Same-clause-came : goal.returns-in-Same-clause-came
returns-in-Same-clause-came c = c.begun-in-Same.ensures.came (λ processor. rw c.new-in-Same.ensures.items refl)

pub returns-in-Same-clause-stands : goal.returns-in-Same-clause-stands
returns-in-Same-clause-stands c = c.begun-in-Same.ensures.stands (start_read c.args.start.now) (rw c.in-Same.is refl) (λ processor. rw (c.in-Same.is, c.new-in-Same.ensures.items) refl)

pub returns-in_ok-first_told-in-Listed-clause-came : goal.returns-in_ok-first_told-in-Listed-clause-came
returns-in_ok-first_told-in-Listed-clause-came c =
    c.begun-in-Listed.ensures.came (λ processor. ap (λ (told : Told). told.came) (c.in_ok-first_told-in-Listed.ensures processor))

pub returns-in_ok-first_told-in-Listed-clause-stands : goal.returns-in_ok-first_told-in-Listed-clause-stands
returns-in_ok-first_told-in-Listed-clause-stands c =
    c.begun-in-Listed.ensures.stands (start_read c.args.start.now) (rw c.in-Listed.is refl)
    (rw c.in-Listed.is (told_as _ _ c.in_ok-first_told-in-Listed.field-0.items c.deref.ensures.value c.in_ok-first_told-in-Listed.ensures))
