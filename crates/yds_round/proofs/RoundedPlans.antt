-- A plan's slots at the paces of their levels, with what the plan spends, are a rounding of the plan.
use Rattle.yds_model.proofs.Common.{◌≡◌, ℕ, List, length, sym, subst, Option, All, AllZip, Job, IsJob, WrittenSlot, IsSolid, Level, Point, IsTable, IsPlan, IsTooFast, IsRounding, Spent, IsSpent}
use Rattle.yds_energy.proofs.Compared.{rounded_energy, spent_lowest}
use Rattle.yds_timetable.specs.Timetable.{Row, IsRow}
use Rattle.yds_plan.specs.Timetabled.{IsTimetabled}
use Rattle.yds_round.specs.declared.split.Split.{Split}
use Rattle.yds_round.specs.LevelPace.{RunsAs}
use Rattle.yds_round.specs.Rounded.{written_to}
use Rattle.yds_round.proofs.AllStretches.{rounds_plan, few_written}

pub is_rounding : (jobs : List Job) (points : List Point) (planned : List WrittenSlot) (levels : List Level) (paces : List (Option Split)) (rows : List Row)
    (numbers : List (Option ℕ)) (written : List WrittenSlot) (spent : Spent) → All IsJob jobs → IsPlan jobs planned levels → IsTable points →
    All (λ level. IsTooFast points level → ⊥) levels → AllZip (RunsAs points) levels paces → IsTimetabled jobs rows numbers planned levels → All IsRow rows →
    written ≡ written_to paces rows numbers (length rows) → All IsSolid written → IsSpent jobs points planned spent →
    IsRounding jobs points planned levels written spent.energy
is_rounding jobs points planned levels paces rows numbers written spent fit plan table slow are on all_rows is solid spends =
    let rounds = rounds_plan jobs points planned levels paces rows numbers plan are on all_rows in
    let made = written_to paces rows numbers (length rows) in
    subst (λ (slots : List WrittenSlot). IsRounding jobs points planned levels slots spent.energy) (sym is) (record {
      fast_enough = slow;
      rounds = rounds;
      few_slots = few_written jobs points planned levels paces rows numbers plan are on all_rows;
      energy_of = rounded_energy jobs points planned levels made spent fit table plan slow rounds (subst (λ (slots : List WrittenSlot). All IsSolid slots) is solid) spends;
      lowest = spent_lowest jobs points planned spent table plan.proper.feasible.solid spends;
    })
