-- What the search's own structs stand for.
use Rattle.std.specs.Prelude.{map}
use Rattle.yds_search.specs.declared.found.Group as groups
use Rattle.yds_search.specs.declared.found.Found as founds
use Rattle.yds_search.specs.Found.{Group, Found}

abbrev pub group_view : groups.Group → Group
group_view group = record { work = group.work; length = group.length }

abbrev pub found_view : founds.Found → Found
found_view found = record {
  groups = map group_view found.groups.items;
  group_of_job = found.group_of_job.items;
  group_of_stretch = found.group_of_stretch.items;
  shares = found.shares.items;
}
