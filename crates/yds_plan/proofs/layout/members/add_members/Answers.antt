use Rattle.yds_model.proofs.Common.{[], ◌∙◌, ap, get_or}
use Rattle.yds_search.specs.Views.{found_view}
use Rattle.yds_plan.proofs.DraftSteps.{number_within, member_step, member_skip}
use Rattle.yds_plan.proofs.layout.members.add_members.Goals as goal
use Rattle.yds_plan.proofs.layout.members.add_members.Goals.{in-Some+in_ok-add_member, in_default}

pub add_member-requires : goal.add_member-requires
add_member-requires c =
    let read = c.in-Some.ensures.lookup in
    number_within [] (found_view c.args.found.now) c.loop-job.job 0 _ c.in-Some.number.now c.args.numbers.now c.loop-job.levels.items
    c.requires.numbers c.loop-job.invariant read.3.0 read.1

pub loop-job-preserved : goal.loop-job-preserved
loop-job-preserved c =
    let place = ap (λ some. get_or some c.loop-job.job 0) c.deref-place-items.ensures.value in
    elim c.match-get.branch [
      | in-Some+in_ok-add_member w ↦
          let read = w.in-Some.ensures.lookup in
          ap (λ some. some.items) w.levels-is ∙ member_step [] (found_view c.args.found.now) c.loop-job.job 0 _ w.in-Some.number.now c.args.numbers.now
          c.loop-job.levels.items w.add_member.new.levels.items c.requires.numbers c.loop-job.invariant place read.3.0 read.1 w.in_ok-add_member.ensures
      | in_default w ↦
          ap (λ some. some.items) w.levels-is ∙ member_skip [] (found_view c.args.found.now) c.loop-job.job 0 _ c.args.numbers.now c.loop-job.levels.items
          c.requires.numbers c.loop-job.invariant place w.in_default.ensures.lookup.3
    ]
