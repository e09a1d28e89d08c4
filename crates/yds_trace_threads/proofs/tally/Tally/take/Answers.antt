use Rattle.base.proofs.Common.{◌∷◌, sym, subst}
use Rattle.yds_kernel.specs.declared.event.Said.{Said}
use Rattle.yds_kernel.specs.Views.{said_read}
use Rattle.yds_trace_threads.specs.declared.tally.Tally.{Tally}
use Rattle.yds_trace_threads.specs.Kept.{IsTally}
use Rattle.yds_trace_threads.proofs.tally.Tally.take.Goals as goal

pub returns-in-Lost-clause-taken : goal.returns-in-Lost-clause-taken
returns-in-Lost-clause-taken c = λ past at.
    let tally : Tally = record { threads = c.args.self.now.threads; processors = c.lose.new.self } in
    subst (λ (said : Said). IsTally (said_read said ∷ past) tally) (sym c.in-Lost.is)
    (record { threads = at.threads; processors = c.lose.ensures past c.in-Lost.since at.processors })
