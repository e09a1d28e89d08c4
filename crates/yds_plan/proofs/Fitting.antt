-- The levels of what is found are all its drafts, and within the limits of a certificate.
use Rattle.yds_model.proofs.Common.{◌≡◌, ◌≤◌, List, length, ap, arith, All, Job, IsJob, Piece, Level, all_members, all_pieces, stretches}
use Rattle.base.specs.declared.limits.TheConstants.{MAX_JOBS, MAX_LEVELS, MAX_MEMBERS, MAX_PIECES}
use Rattle.yds_search.specs.Found.{Found, IsFound}
use Rattle.yds_plan.specs.Drafts.{drafts}
use Rattle.yds_plan.specs.Laid.{levels_of}
use Rattle.yds_events.proofs.Neighbours.{few_stretches}
use Rattle.yds_plan.proofs.Drafts.{among_below}
use Rattle.yds_plan.proofs.Levels.{levels_length, few_members, few_pieces}
use Rattle.yds_plan.proofs.Bounds.{few_groups}

module _ (jobs : List Job) (found : Found) (is : IsFound jobs found) (timeline : List Piece) (timed : timeline ≡ stretches jobs) (levels : List Level)
    (drafted : levels ≡ drafts timeline found (length found.group_of_job) (length timeline)) where
  -- the drafts with all jobs and stretches are the levels
  pub all_drafted : levels ≡ levels_of jobs found
  all_drafted = grind arith

  -- there are no more levels than groups, and no more groups than jobs
  pub levels_fit : All IsJob jobs → length jobs ≤ MAX_JOBS → length levels ≤ MAX_LEVELS
  levels_fit proper few = grind (arith, all_drafted, among_below, few_groups, levels_length)

  pub pieces_fit : length jobs ≤ MAX_JOBS → length (all_pieces levels) ≤ MAX_PIECES
  pieces_fit few =
      omega (arith, ap (λ some. length (all_pieces some)) all_drafted, few_pieces jobs found, few_stretches jobs, few)

  pub members_fit : length jobs ≤ MAX_JOBS → length (all_members levels) ≤ MAX_MEMBERS
  members_fit few = omega (arith, ap (λ some. length (all_members some)) all_drafted, few_members jobs found, few)
