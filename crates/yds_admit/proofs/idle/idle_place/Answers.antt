use Rattle.yds_model.proofs.Common.{◌≡◌, ℕ, ◌+◌, arith}
use Rattle.yds_admit.specs.Idle.{idle_before}
use Rattle.yds_admit.proofs.Idleness.{next_idle, nothing_between}
use Rattle.yds_admit.proofs.idle.idle_place.Goals as goal

pub loop-wanted-preserved : goal.loop-wanted-preserved
loop-wanted-preserved c =
    let idle = c.args.idle.now in
    let held = c.loop-wanted.invariant in
    let place : ℕ = c.loop-wanted.place in
    let gap : ℕ = c.last_idle-place.result in
    let none : idle_before idle place ≡ idle_before idle (gap + 1) =
    nothing_between idle (gap + 1) place (omega (arith, c.last_idle-place.ensures.before)) (c.last_idle-place.ensures.empty idle held.links) in
    record {
      order = omega (arith, held.order, c.last_idle-place.ensures.before);
      enough = omega (arith, held.enough, none, next_idle idle gap, c.min-wanted.ensures);
      all = λ more. omega (arith, held.all, none, next_idle idle gap, c.min-wanted.ensures);
      links = c.last_idle-place.ensures.kept idle held.links;
    }
