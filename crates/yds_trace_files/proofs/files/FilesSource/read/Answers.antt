use Rattle.base.proofs.Common.{◌≡◌, refl, subst}
use Rattle.std.proofs.Common.{rules}
use Rattle.yds_port.specs.declared.source.Taken.{Taken}
use Rattle.yds_port.specs.declared.source.Taken.TheVariants as taken
use Rattle.yds_trace_files.proofs.Reading.{Goes, goes_on}
use Rattle.yds_trace_files.proofs.files.FilesSource.read.Goals as goal

pub loop-taken-preserved : goal.loop-taken-preserved
loop-taken-preserved g c =
    let ended : c.loop-taken.taken ≡ taken.End = search rules in
    goes_on g.O.Opens.holds g.S.Source.left c.read_opened-taken-in-Opened.result c.loop-taken.into c.read_opened-taken-in-Opened.new.into c.args.self.now c.loop-taken.self
    c.open_next.new.self c.read_opened-taken-in-Opened.new.self
    (subst (λ (r : Taken). Goes g.O.Opens.holds g.S.Source.left r c.loop-taken.into c.args.self.now c.loop-taken.self) ended c.loop-taken.invariant)
    c.in-Opened.ensures.steps (c.in-Opened.ensures.whole refl).0 c.read_opened-taken-in-Opened.ensures.reads c.read_opened-taken-in-Opened.ensures.ends
