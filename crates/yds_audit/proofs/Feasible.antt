-- What the program's verdict 'feasible' says.
use Rattle.yds_model.proofs.Common.{◌≡◌, List, length, subst, Option, Some, None, refl, ◌↔◌, MatchOption, All, Job, WrittenSlot, Point, IsFeasible, Feasible, IsVerdict, IsOnTable, AreSlots}
use Rattle.model_lemmas.proofs.Verdicts.{verdict_is_exact, table_verdict_is_exact}
use Rattle.model_lemmas.proofs.OneVerdict.{verdict_is_unique}
use Rattle.yds_audit.specs.declared.verdict.Verdict.{Verdict}
use Rattle.yds_audit.specs.declared.verdict.Verdict.TheVariants as verdicts
use Rattle.yds_audit.specs.Verdict.{verdict_view}

-- only one verdict is the model's 'feasible'
only_feasible : (verdict : Verdict) → verdict_view verdict ≡ Feasible → verdict ≡ verdicts.Feasible
only_feasible verdicts.Feasible is = refl
only_feasible (verdicts.Backward slot) is = cc
only_feasible (verdicts.Overlap slot) is = cc
only_feasible (verdicts.Early slot) is = cc
only_feasible (verdicts.Late slot) is = cc
only_feasible (verdicts.OffPoint slot) is = cc
only_feasible (verdicts.Work job given wanted) is = cc

-- without a table, the schedule is feasible; with one, its slots also run at the speeds of the points
pub feasible_told : (jobs : List Job) (table : Option (List Point)) (slots : List WrittenSlot) (verdict : Verdict) → AreSlots (length jobs) slots →
    IsVerdict jobs table slots (verdict_view verdict) →
    MatchOption table
    (verdict ≡ verdicts.Feasible ↔ IsFeasible jobs slots)
    (λ points. verdict ≡ verdicts.Feasible ↔ (IsFeasible jobs slots × All (IsOnTable (Some points)) slots))
feasible_told jobs None slots verdict are is =
    let exact = verdict_is_exact jobs slots are in (
      λ same. exact.0 (subst (λ (v : Verdict). IsVerdict jobs None slots (verdict_view v)) same is),
      λ feasible. only_feasible verdict (verdict_is_unique jobs None slots (verdict_view verdict) Feasible is (exact.1 feasible)),
    )
feasible_told jobs (Some points) slots verdict are is =
    let exact = table_verdict_is_exact jobs points slots are in (
      λ same. exact.0 (subst (λ (v : Verdict). IsVerdict jobs (Some points) slots (verdict_view v)) same is),
      λ feasible. only_feasible verdict (verdict_is_unique jobs (Some points) slots (verdict_view verdict) Feasible is (exact.1 feasible)),
    )
