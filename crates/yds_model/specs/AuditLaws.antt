-- The laws of the auditor's verdict. Each is the contract of a public function of `yds_laws`.
use Rattle.std.specs.Prelude.{◌≡◌, ◌↔◌, List, length, Option, Some, None}
use Rattle.std.specs.List.{All}
use Rattle.yds_model.specs.Job.{Job}
use Rattle.yds_model.specs.Slot.{WrittenSlot}
use Rattle.yds_model.specs.Feasible.{IsFeasible}
use Rattle.yds_model.specs.Audit.{Verdict, Feasible, IsVerdict, IsOnTable, AreSlots}
use Rattle.yds_model.specs.Table.{Point}

-- Audit: the verdict is 'feasible' exactly where the schedule is feasible.
abbrev pub VerdictIsExact : Type 0
VerdictIsExact = (jobs : List Job) (slots : List WrittenSlot) → AreSlots (length jobs) slots →
    (IsVerdict jobs None slots Feasible ↔ IsFeasible jobs slots)

-- Audit: with a table, exactly where besides each slot has a point's speed.
abbrev pub TableVerdictIsExact : Type 0
TableVerdictIsExact = (jobs : List Job) (points : List Point) (slots : List WrittenSlot) → AreSlots (length jobs) slots →
    (IsVerdict jobs (Some points) slots Feasible ↔ (IsFeasible jobs slots × All (IsOnTable (Some points)) slots))

-- Audit: two verdicts of the same jobs, table and slots are one.
abbrev pub VerdictIsUnique : Type 0
VerdictIsUnique = (jobs : List Job) (table : Option (List Point)) (slots : List WrittenSlot) (verdict other : Verdict) →
    IsVerdict jobs table slots verdict → IsVerdict jobs table slots other → verdict ≡ other
