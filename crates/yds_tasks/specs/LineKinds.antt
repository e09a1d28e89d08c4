-- The kinds of line, by the word that each begins with.
use Rattle.std.specs.Prelude.{ℕ, List, codes, Option, Some, None, if◌then◌else◌}
use Rattle.std.specs.Str.{bytes_eq}
use Rattle.yds_tasks.specs.declared.line_kind.LineKind.{LineKind}
use Rattle.yds_tasks.specs.declared.line_kind.LineKind.TheVariants.{Horizon, Task}

abbrev pub line_kind_of : List ℕ → Option LineKind
line_kind_of word = if bytes_eq word (codes "horizon") then Some Horizon else (if bytes_eq word (codes "task") then Some Task else None)
