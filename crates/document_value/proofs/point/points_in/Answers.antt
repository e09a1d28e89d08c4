use Rattle.yds_model.proofs.Common.{sym, subst, ArePoints}
use Rattle.document_value.specs.Documents.{points_of}
use Rattle.document_value.proofs.Limits.{no_points_fit}
use Rattle.document_value.proofs.point.points_in.Goals as goal

pub returns-in-None-clause-kept : goal.returns-in-None-clause-kept
returns-in-None-clause-kept c = subst (λ table. ArePoints (points_of table)) (sym c.in-None.is) no_points_fit

pub returns-in-Some-clause-kept : goal.returns-in-Some-clause-kept
returns-in-Some-clause-kept c = subst (λ table. ArePoints (points_of table)) (sym c.in-Some.is) c.points.ensures.kept.within
