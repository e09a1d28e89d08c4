-- A document: jobs with their names, operating points, slots, levels, a grid and an energy.
use Rattle.std.specs.Prelude.{ℕ, List, [], Option, None}
use Rattle.std.specs.List.{slice_index_or}
use Rattle.yds_model.specs.Job.{Job}
use Rattle.yds_model.specs.Scale.{Fraction}
use Rattle.yds_model.specs.Slot.{WrittenSlot}
use Rattle.yds_model.specs.Level.{Level}
use Rattle.yds_model.specs.Table.{Point}

-- the grid of a policy run, and at how many event points the run rounded
pub record Grid : Type 0 where
  pub grid : ℕ
  pub rounded : ℕ

-- the name at a place is that of the job there
pub record Document : Type 0 where
  pub names : List (List ℕ)
  pub jobs : List Job
  pub points : List Point
  pub slots : List WrittenSlot
  pub levels : List Level
  pub grid : Option Grid
  pub energy : Option Fraction

abbrev pub name_at : List (List ℕ) → ℕ → List ℕ
name_at names job = slice_index_or names job []

abbrev pub no_document : Document
no_document = record { names = []; jobs = []; points = []; slots = []; levels = []; grid = None; energy = None }

-- the same jobs and points, with these slots and levels, and a grid or an energy
abbrev pub with_answer : Document → List WrittenSlot → List Level → Option Grid → Option Fraction → Document
with_answer document slots levels grid energy = record {
  names = document.names;
  jobs = document.jobs;
  points = document.points;
  slots = slots;
  levels = levels;
  grid = grid;
  energy = energy;
}
