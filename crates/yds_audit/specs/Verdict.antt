-- The program's verdict as the model's.
use Rattle.yds_model.specs.Audit.{Verdict as ModelVerdict, Feasible, Backward, Overlap, Early, Late, OffPoint, WrongWork}
use Rattle.yds_audit.specs.declared.verdict.Verdict.{Verdict}
use Rattle.yds_audit.specs.declared.verdict.Verdict.TheVariants as verdicts

abbrev pub verdict_view : Verdict → ModelVerdict
verdict_view verdicts.Feasible = Feasible
verdict_view (verdicts.Backward slot) = Backward slot
verdict_view (verdicts.Overlap slot) = Overlap slot
verdict_view (verdicts.Early slot) = Early slot
verdict_view (verdicts.Late slot) = Late slot
verdict_view (verdicts.OffPoint slot) = OffPoint slot
verdict_view (verdicts.Work job given wanted) = WrongWork job given wanted
