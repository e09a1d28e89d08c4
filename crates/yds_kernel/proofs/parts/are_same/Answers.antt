use Rattle.base.proofs.Common.{◌≡◌, ◌-◌, take, drop, length, true, ◌∙◌, arith, rules, common_steps}
use Rattle.std.specs.Str.{bytes_eq}
use Rattle.yds_kernel.proofs.Halves.{halves_same}
use Rattle.yds_kernel.proofs.parts.are_same.Goals as goal

pub returns-then-are_same_eight : goal.returns-then-are_same_eight
returns-then-are_same_eight g c =
    let front : bytes_eq (take 8 c.args.one.now) (take 8 c.args.other.now) ≡ true = first_of (search rules, grind (arith, common_steps)) in
    let end : c.are_same_eight-then-are_same_eight.result ≡ bytes_eq (drop (length c.args.one.now - 8) c.args.one.now) (drop (length c.args.other.now - 8) c.args.other.now) = first_of (search rules, grind (arith, common_steps)) in
    end ∙ halves_same c.args.one.now c.args.other.now 8 (omega arith) c.in-Some-Some-Some-Some.ensures.cases.enough (omega (arith, c.if-this-le16.true)) front
