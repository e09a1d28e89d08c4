use Rattle.base.proofs.Common.{◌≡◌, ◌∙◌, ℕ, ◌+◌, ◌-◌, ◌≤◌, List, ◌∷◌, length, drop, get_or, Bool, Option, sym, refl, ap, ap₂, arith, drop_all, at_drop_more}
use Rattle.yds_trace.specs.declared.followed.Followed.{Followed}
use Rattle.yds_trace.specs.declared.job.Leaving.{Leaving}
use Rattle.yds_trace.specs.declared.step.Whose.{Whose}
use Rattle.yds_trace.specs.Asked.{is_number}
use Rattle.yds_trace.specs.Jobs.{earlier, missing_since}
use Rattle.yds_trace.specs.Following.{missing_among}
use Rattle.yds_trace.specs.Views.{known_read}
use Rattle.yds_trace.proofs.followed.missing_among.Goals as goal

-- one task before those that are looked at
among_more : (wakes : Bool) (first second : Whose) (leaving : Leaving) (tasks : List Followed) (n : ℕ) (d : Followed) (missing since : Option ℕ) →
    1 ≤ n → n ≤ length tasks →
    since ≡ missing_since wakes (is_number (n - 1) first.number) (is_number (n - 1) second.number) leaving (known_read (get_or tasks (n - 1) d).known) →
    missing ≡ missing_among wakes first second leaving n (drop n tasks) →
    earlier since missing ≡ missing_among wakes first second leaving (n - 1) (drop (n - 1) tasks)
among_more wakes first second leaving tasks n d missing since some within here rest =
    let behind : n - 1 + 1 ≡ n = omega (arith, some) in
    ap₂ earlier here rest
    ∙ ap (λ (m : ℕ). earlier (missing_since wakes (is_number (n - 1) first.number) (is_number (n - 1) second.number) leaving (known_read (get_or tasks (n - 1) d).known))
    (missing_among wakes first second leaving m (drop m tasks))) (sym behind)
    ∙ sym (at_drop_more (missing_among wakes first second leaving (n - 1)) tasks (n - 1) d (omega (arith, some, within)))

pub loop-number-init : goal.loop-number-init
loop-number-init c =
    ap (missing_among c.args.wakes c.args.first c.args.second c.args.leaving (length c.args.tasks.now)) (sym (drop_all (length c.args.tasks.now) c.args.tasks.now (omega arith)))

pub loop-number-preserved : goal.loop-number-preserved
loop-number-preserved c =
    c.earlier-missing.ensures
    ∙ among_more c.args.wakes c.args.first c.args.second c.args.leaving c.args.tasks.now c.loop-number.number c.index-tasks-number.result c.loop-number.missing
    c.missing_since-since.result c.loop-number-test.true c.loop-number.auto.number
    (c.missing_since-since.ensures
    ∙ ap₂ (λ (left came : Bool). missing_since c.args.wakes left came c.args.leaving
    (known_read (get_or c.args.tasks.now (c.loop-number.number - 1) c.index-tasks-number.result).known)) c.is-left.ensures c.is-came.ensures)
    c.loop-number.invariant

pub returns : goal.returns
returns c =
    let done : c.loop-number.number ≡ 0 = omega (arith, c.loop-number-test.false) in
    c.loop-number.invariant
    ∙ ap (λ (n : ℕ). missing_among c.args.wakes c.args.first c.args.second c.args.leaving n (drop n c.args.tasks.now)) done
