use Rattle.yds_model.proofs.Common.{◌≡◌, List, ◌++◌, ◌∷◌, [], ap, ap₂, ◌∙◌, arith, length, refl}
use Rattle.yds_timetable.specs.declared.pace.Pace.{Pace}
use Rattle.yds_timetable.specs.declared.timetable.KeptRow.{KeptRow}
use Rattle.yds_timetable.specs.Shares.{JobShare}
use Rattle.yds_timetable.specs.KeptRows.{rows_kept}
use Rattle.yds_timetable.proofs.Keeping.{rows_stay_beside, rows_stay_now, kept_stays_now, kept_more, rows_more, on_err}
use Rattle.yds_timetable.proofs.timetable.Timetable.push.Goals as goal
use Rattle.yds_timetable.proofs.timetable.Timetable.push.Goals.{In_ok-pace}

pub returns-in_err-end-clause-err : goal.returns-in_err-end-clause-err
returns-in_err-end-clause-err c = on_err _
    (ap (λ (shares : List JobShare). rows_kept c.self.inside.paces.items shares c.self.inside.rows.items) c.in_ok-extend_from_slice.ensures.items
    ∙ rows_stay_beside c.self.inside.paces.items c.self.inside.shares.items c.args.shares.now c.self.inside.rows.items c.self.invariant ∙ c.self.view_is)

pub returns-in_err-pace-clause-err : goal.returns-in_err-pace-clause-err
returns-in_err-pace-clause-err c = on_err _
    (ap₂ (λ (paces : List Pace) (shares : List JobShare). rows_kept paces shares c.self.inside.rows.items) c.in_err-pace.ensures.err c.in_ok-extend_from_slice.ensures.items
    ∙ rows_stay_beside c.self.inside.paces.items c.self.inside.shares.items c.args.shares.now c.self.inside.rows.items c.self.invariant ∙ c.self.view_is)

pub invariant_of-self-in_err-push : goal.invariant_of-self-in_err-push
invariant_of-self-in_err-push c = rw (c.in_ok-extend_from_slice.ensures.items, c.in_err-push.ensures.items)
    (kept_stays_now c.self.inside.paces.items c.keep_pace.new.paces.items c.args.pace c.in_ok-pace.pace c.self.inside.shares.items c.args.shares.now c.in_ok-pace.ensures.ok
    c.self.inside.rows.items c.self.invariant)

pub returns-in_err-push-clause-err : goal.returns-in_err-push-clause-err
returns-in_err-push-clause-err c = on_err _
    (ap₂ (λ (shares : List JobShare) (rows : List KeptRow). rows_kept c.keep_pace.new.paces.items shares rows) c.in_ok-extend_from_slice.ensures.items c.in_err-push.ensures.items
    ∙ rows_stay_now c.self.inside.paces.items c.keep_pace.new.paces.items c.args.pace c.in_ok-pace.pace c.self.inside.shares.items c.args.shares.now c.in_ok-pace.ensures.ok
    c.self.inside.rows.items c.self.invariant ∙ c.self.view_is)

begins : (c : In_ok-pace) → c.in_ok-first.first ≡ length c.self.inside.shares.items
begins c = omega (arith, c.in_ok-first.ensures, c.len.ensures)

ends : (c : In_ok-pace) → c.in_ok-end.end ≡ length (c.self.inside.shares.items ++ c.args.shares.now)
ends c = omega (arith, c.in_ok-end.ensures, c.len-2.ensures, ap length c.in_ok-extend_from_slice.ensures.items)

abbrev last : In_ok-pace → KeptRow
last c = record { stretch = c.args.stretch; pace = c.in_ok-pace.pace; first = c.in_ok-first.first; end = c.in_ok-end.end }

pub invariant_of-self-2 : goal.invariant_of-self-2
invariant_of-self-2 c =
    let here = (goal.at.invariant_of-self-2 c).In_ok-pace in
    rw (c.in_ok-extend_from_slice.ensures.items, c.in_ok-push.ensures.items)
    (kept_more c.self.inside.paces.items c.keep_pace.new.paces.items c.args.pace c.in_ok-pace.pace c.self.inside.shares.items c.args.shares.now c.in_ok-pace.ensures.ok
    (last here) refl (begins here) (ends here) c.self.inside.rows.items c.self.invariant c.requires)

pub returns-clause-ok : goal.returns-clause-ok
returns-clause-ok c =
    let here = (goal.at.returns-clause-ok c).In_ok-pace in
    ap₂ (λ (shares : List JobShare) (rows : List KeptRow). rows_kept c.keep_pace.new.paces.items shares rows) c.in_ok-extend_from_slice.ensures.items c.in_ok-push.ensures.items
    ∙ rows_more c.self.inside.paces.items c.keep_pace.new.paces.items c.args.pace c.in_ok-pace.pace c.self.inside.shares.items c.args.shares.now c.in_ok-pace.ensures.ok
    (last here) refl (begins here) (ends here) c.self.inside.rows.items c.self.invariant
    ∙ ap (λ rows. rows ++ record { stretch = c.args.stretch; pace = c.args.pace; shares = c.args.shares.now } ∷ []) c.self.view_is
