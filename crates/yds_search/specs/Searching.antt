-- The search as the program keeps it.
use Rattle.std.specs.Prelude.{◌+◌, ◌*◌, ◌<◌, List, [], ◌∷◌, length, replicate}
use Rattle.yds_model.specs.Job.{Job}
use Rattle.yds_model.specs.Event.{stretches}
use Rattle.yds_events.specs.declared.window.Window.{Window}
use Rattle.yds_search.specs.declared.found.TheConstants.{NO_GROUP}
use Rattle.yds_search.specs.declared.stack.Size.{Size}
use Rattle.yds_search.specs.declared.stack.Stack.{Stack}
use Rattle.yds_search.specs.declared.search.Search.{Search}
use Rattle.yds_search.specs.Found.{Found}
use Rattle.yds_search.specs.Views.{found_view}
use Rattle.yds_search.specs.Instance.{IsInstance}
use Rattle.yds_search.specs.Own.{Part}
use Rattle.yds_search.specs.Search.{IsSearch}
use Rattle.yds_search.specs.Stack.{AreLaid, AreLast}

-- some groups are finished, the others wait
pub record IsSearching (jobs : List Job) (search : Search) : Type 0 where
  pub windows : List Window
  pub parts : List Part
  pub instance : IsInstance jobs windows
  pub groups : IsSearch jobs windows (found_view search.found) parts
  pub laid : AreLaid parts search.stack

abbrev pub nothing_found : List Job → Found
nothing_found jobs = record { groups = []; group_of_job = replicate (length jobs) NO_GROUP; group_of_stretch = replicate (length (stretches jobs)) NO_GROUP; shares = [] }

-- all groups wait
pub record IsBegun (jobs : List Job) (stack : Stack) : Type 0 where
  pub windows : List Window
  pub parts : List Part
  pub instance : IsInstance jobs windows
  pub groups : IsSearch jobs windows (nothing_found jobs) parts
  pub laid : AreLaid parts stack

-- the fastest group, of this size, is taken off
pub record IsChosen (jobs : List Job) (size : Size) (search : Search) : Type 0 where
  pub windows : List Window
  pub parts : List Part
  pub part : Part
  pub instance : IsInstance jobs windows
  pub groups : IsSearch jobs windows (found_view search.found) (part ∷ parts)
  pub last : AreLast parts part size search.stack

-- there are fewer stretches that wait, or more groups of them
abbrev pub IsNearer : Search → Search → Type 0
IsNearer old new = 2 * length new.stack.stretches.items + length old.stack.sizes.items + 1 < 2 * length old.stack.stretches.items + length new.stack.sizes.items
