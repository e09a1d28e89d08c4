-- What contracts see of what the code keeps.
use Rattle.std.specs.Prelude.{ℕ, List, [], map, Vec, Option, Some, None}
use Rattle.std.specs.Borrow.{Bor}
use Rattle.std.specs.declared.alloc.Global.{Global}
use Rattle.yds_trace_document.specs.declared.name.Name.{Name as NameKept}
use Rattle.yds_trace_document.specs.Views.{name_read}
use Rattle.yds_trace_text.specs.declared.left_out.Group.{Group as GroupKept}
use Rattle.yds_trace_text.specs.Text.{Group}

abbrev pub piece : Bor (List ℕ) → List ℕ
piece text = text.now

abbrev pub pieces : List (Bor (List ℕ)) → List (List ℕ)
pieces texts = map piece texts

abbrev pub name_items : Vec ℕ Global → List ℕ
name_items name = name.items

abbrev pub names_read : List (Vec ℕ Global) → List (List ℕ)
names_read names = map name_items names

abbrev pub name_or_none : Option NameKept → List ℕ
name_or_none None = []
name_or_none (Some name) = name_read name

abbrev pub group_read : GroupKept → Group
group_read group = record {
  label = group.label.now;
  reason = group.reason;
  count = group.count;
  first = name_or_none group.first;
  last = name_or_none group.last;
}

abbrev pub groups_read : List GroupKept → List Group
groups_read groups = map group_read groups
