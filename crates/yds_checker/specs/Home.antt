-- Where jobs stand among members of levels.
use Rattle.std.specs.Prelude.{◌≡◌, ℕ, ◌<◌, ◌≤◌, List, length}
use Rattle.std.specs.List.{Contains, slice_index_or}
use Rattle.base.specs.declared.limits.TheConstants.{MAX_LEVELS}
use Rattle.base.specs.Numbers.{count, Each}
use Rattle.yds_model.specs.Job.{Job}
use Rattle.yds_model.specs.Level.{Level, level_at, all_members}
use Rattle.yds_model.specs.Proper.{StandsOnce}
use Rattle.yds_checker.specs.declared.home.Home.{Home}
use Rattle.yds_checker.specs.declared.home.Home.TheVariants.{Nowhere, In, Often}

-- this is where the job stands among the members, which are of levels
abbrev pub IsHome : List Level → List ℕ → ℕ → Home → Type 0
IsHome levels members job Nowhere = count job members ≡ 0
IsHome levels members job (In level) = (count job members ≡ 1) × (level < length levels) × Contains (level_at levels level).members job
IsHome levels members job Often = 2 ≤ count job members

-- a job stands nowhere, where no place for it is given
abbrev pub home_at : List Home → ℕ → Home
home_at homes job = slice_index_or homes job Nowhere

abbrev pub AreHomes : List Level → List ℕ → List Home → Type 0
AreHomes levels members homes = Each (length homes) (λ job. IsHome levels members job (home_at homes job))

-- each job stands once among the members of the levels, at the place that is noted
pub record AreSettled (jobs : List Job) (levels : List Level) (homes : List Home) : Type 0 where
  pub few : length levels ≤ MAX_LEVELS
  pub noted : AreHomes levels (all_members levels) homes
  pub once : Each (length jobs) (StandsOnce jobs levels)
