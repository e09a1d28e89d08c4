use Rattle.yds_model.proofs.Common.{◌≡◌, subst, ◌∙◌, of_parts, IsSameQuotient}
use Rattle.yds_fraction.proofs.OverDivisor.{speed_reduced}
use Rattle.yds_report.proofs.numbers.speed_of.Goals as goal

pub returns : goal.returns
returns c =
    let level = c.args.level.now in
    let speed = c.reduced-speed.result in
    let same = subst (λ of_level. IsSameQuotient of_level speed) c.speed.ensures c.reduced-speed.ensures.same in
    let value : c.of_parts.result ≡ of_parts speed.num speed.den = cc in
    value ∙ speed_reduced level.work level.length speed c.requires.has_length same c.reduced-speed.ensures.kept.has_parts c.reduced-speed.ensures.lowest
