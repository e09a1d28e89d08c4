use Rattle.base.proofs.Common.{◌≡◌, ◌-◌, take, drop, length, true, ◌∙◌, arith, rules, common_steps}
use Rattle.std.specs.Str.{bytes_eq}
use Rattle.yds_kernel.proofs.Halves.{halves_same}
use Rattle.yds_kernel.proofs.parts.are_same_eight.Goals as goal

pub returns-then-eq : goal.returns-then-eq
returns-then-eq c =
    let front : bytes_eq (take 4 c.args.one.now) (take 4 c.args.other.now) ≡ true = first_of (search rules, grind (arith, common_steps)) in
    let end : c.eq-then-eq.result ≡ bytes_eq (drop (length c.args.one.now - 4) c.args.one.now) (drop (length c.args.other.now - 4) c.args.other.now) = first_of (search rules, grind (arith, common_steps)) in
    end ∙ halves_same c.args.one.now c.args.other.now 4 (omega arith) (omega arith) (omega arith) front
