use Rattle.yds_model.proofs.Common.{Option, Some, sym, ◌∙◌, subst, IfSome, false≢true}
use Rattle.yds_critical.specs.declared.interval.Interval.{Interval}
use Rattle.yds_critical.specs.Choice.{TakesTime}
use Rattle.yds_critical.proofs.Searching.{prefers_other}
use Rattle.yds_critical.proofs.search.preferred.Goals as goal

pub returns-else-leads : goal.returns-else-leads
returns-else-leads c =
    let forward : IfSome (Some c.in-Some.first) TakesTime = subst (λ (o : Option Interval). IfSome o TakesTime) c.in-Some.is c.requires.forward in
    rw c.in-Some.is (prefers_other c.in-Some.first c.args.other forward c.requires.other_forward (λ leads. false≢true (sym c.if-leads.false ∙ c.leads.ensures.1 leads)))
