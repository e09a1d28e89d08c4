-- Stages together, as groups of jobs and stretches of one speed each.
use Rattle.std.specs.Prelude.{ℕ, Bool, ◌==◌, List, length, map}
use Rattle.std.specs.List.{flat_map, range_with_len, position_or_len, list_any}
use Rattle.yds_model.specs.Job.{Job}
use Rattle.yds_model.specs.Event.{stretches}
use Rattle.yds_search.specs.Found.{Found}
use Rattle.yds_search.specs.Views.{group_view}
use Rattle.yds_textbook.specs.declared.stage.Stage.{Stage}

-- the number stands among these
abbrev pub stands_among : List ℕ → ℕ → Bool
stands_among numbers number = list_any (λ other. other == number) numbers

-- the place of the first stage with the job, and of the first with the stretch; how many stages there are where none has it
abbrev pub stage_of_job : List Stage → ℕ → ℕ
stage_of_job stages job = position_or_len (λ stage. stands_among stage.members.items job) stages

abbrev pub stage_of_stretch : List Stage → ℕ → ℕ
stage_of_stretch stages stretch = position_or_len (λ stage. stands_among stage.stretches.items stretch) stages

abbrev pub found_of : List Job → List Stage → Found
found_of jobs stages = record {
  groups = map (λ stage. group_view stage.group) stages;
  group_of_job = map (stage_of_job stages) (range_with_len 0 (length jobs));
  group_of_stretch = map (stage_of_stretch stages) (range_with_len 0 (length (stretches jobs)));
  shares = flat_map (λ stage. stage.shares.items) stages;
}
