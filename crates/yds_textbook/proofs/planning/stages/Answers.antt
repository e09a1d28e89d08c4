use Rattle.yds_model.proofs.Common.{◌≡◌, ◌≤◌, ℕ, List, [], length, ◌∙◌, sym, subst, ap, arith, All}
use Rattle.base.specs.declared.limits.TheConstants.{MAX_JOBS}
use Rattle.yds_critical.specs.Critical.{IsCritical}
use Rattle.yds_contract.specs.Contracted.{Removes}
use Rattle.yds_textbook.specs.declared.stage.Stage.{Stage}
use Rattle.yds_textbook.specs.Waiting.{contracted_jobs, CanWait, outside}
use Rattle.yds_textbook.specs.Stages.{IsStage, AreStages}
use Rattle.yds_textbook.proofs.Chain.{LeadTo, no_stage, one_more, last_stage}
use Rattle.yds_textbook.proofs.Densest.{ends_in_time, fewer}
use Rattle.yds_textbook.proofs.Stands.{IsBetween, between_at_first, between_next}
use Rattle.yds_textbook.proofs.planning.stages.Goals as goal

pub loop-stages-init : goal.loop-stages-init
loop-stages-init c =
    let all = c.in_ok-waiting.ensures.all in
    record {
      between = between_at_first c.args.rows.now all.0 c.in_ok-waiting.waiting.items c.new-taken.result c.requires.few all.1 c.new-taken.ensures all.2
          c.in_ok-waiting.ensures.can_wait;
      lead = no_stage c.args.rows.now c.in_ok-waiting.waiting.items c.new-stages.result.items c.new-taken.result c.new-taken.ensures c.new-stages.ensures.items;
    }

pub stage_of-requires-clause-left : goal.stage_of-requires-clause-left
stage_of-requires-clause-left c =
    let between = c.loop-stages.invariant.between in
    record {
      few_jobs = c.requires.few;
      few = subst (λ (numbers : List ℕ). length numbers ≤ MAX_JOBS) (sym c.deref-in-Some-2.ensures.value) between.few;
      all_stretches = c.requires.timeline;
      apart = between.apart;
      whole = between.whole;
      can_wait = subst (All (CanWait c.args.rows.now c.loop-stages.taken)) (sym c.deref-in-Some-2.ensures.value) between.can_wait;
    }

pub stage_of-requires-clause-critical : goal.stage_of-requires-clause-critical
stage_of-requires-clause-critical c =
    let critical : IsCritical (contracted_jobs c.args.rows.now c.loop-stages.taken c.loop-stages.waiting.items) c.in-Some.interval =
    rw (c.in-Some.is, c.deref.ensures.value) at c.in_ok-interval.ensures in
    subst (λ (waiting : List ℕ). IsCritical (contracted_jobs c.args.rows.now c.loop-stages.taken waiting) c.in-Some.interval) (sym c.deref-in-Some-2.ensures.value) critical

pub remove-requires-clause-within : goal.remove-requires-clause-within
remove-requires-clause-within c =
    let critical : IsCritical (contracted_jobs c.args.rows.now c.loop-stages.taken c.loop-stages.waiting.items) c.in-Some.interval =
    rw (c.in-Some.is, c.deref.ensures.value) at c.in_ok-interval.ensures in
    let between = c.loop-stages.invariant.between in
    ends_in_time c.args.rows.now c.loop-stages.taken c.loop-stages.waiting.items c.in-Some.interval between.can_wait critical between.apart

pub loop-stages-smaller : goal.loop-stages-smaller
loop-stages-smaller c =
    let critical : IsCritical (contracted_jobs c.args.rows.now c.loop-stages.taken c.loop-stages.waiting.items) c.in-Some.interval =
    rw (c.in-Some.is, c.deref.ensures.value) at c.in_ok-interval.ensures in
    let others : c.in_ok-members.others.items ≡ outside c.args.rows.now c.loop-stages.taken c.in-Some.interval c.loop-stages.waiting.items =
    c.in_ok-members.ensures.others ∙ ap (λ (numbers : List ℕ). outside c.args.rows.now c.loop-stages.taken c.in-Some.interval numbers) c.deref-in-Some.ensures.value in
    omega (
      arith,
      ap (λ (numbers : List ℕ). length numbers) others,
      fewer c.args.rows.now c.loop-stages.taken c.loop-stages.waiting.items c.in-Some.interval c.loop-stages.invariant.between.can_wait critical,
    )

pub loop-stages-preserved : goal.loop-stages-preserved
loop-stages-preserved c =
    let rows = c.args.rows.now in
    let removed = c.loop-stages.taken in
    let waiting = c.loop-stages.waiting.items in
    let interval = c.in-Some.interval in
    let stage = c.in_ok-stage.stage in
    let kept = c.loop-stages.invariant in
    let critical : IsCritical (contracted_jobs rows removed waiting) interval = rw (c.in-Some.is, c.deref.ensures.value) at c.in_ok-interval.ensures in
    let others : c.in_ok-members.others.items ≡ outside rows removed interval waiting =
    c.in_ok-members.ensures.others ∙ ap (λ (numbers : List ℕ). outside rows removed interval numbers) c.deref-in-Some.ensures.value in
    let removes : Removes removed interval.start interval.end c.remove.new.self = c.in_ok-remove.ensures.ok in
    let is : IsStage rows removed interval waiting stage =
    subst (λ (numbers : List ℕ). IsStage rows removed interval numbers stage) c.deref-in-Some-2.ensures.value c.in_ok-stage.ensures in
    record {
      between = subst (λ (numbers : List ℕ). IsBetween rows c.remove.new.self numbers) (sym others)
          (between_next rows removed c.remove.new.self waiting interval kept.between critical removes);
      lead = subst (λ (stages : List Stage). LeadTo rows c.in_ok-waiting.waiting.items stages c.remove.new.self c.in_ok-members.others.items) (sym c.in_ok-push.ensures.items)
          (one_more rows c.in_ok-waiting.waiting.items c.loop-stages.stages.items removed c.remove.new.self waiting c.in_ok-members.others.items interval stage
          kept.lead critical is removes others);
    }

pub returns : goal.returns
returns c =
    let all = c.in_ok-waiting.ensures.all in (
      all.0,
      all.1,
      subst (λ (first : List ℕ). AreStages c.args.rows.now [] first c.loop-stages.stages.items) all.2
          (last_stage c.args.rows.now c.in_ok-waiting.waiting.items c.loop-stages.stages.items c.loop-stages.taken c.loop-stages.waiting.items c.in_ok-interval.field-0
          (rw c.deref.ensures.value at c.in_ok-interval.ensures) (λ interval is. c.in_default.not-Some interval is) c.loop-stages.invariant.lead),
    )
