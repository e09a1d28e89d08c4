use Rattle.yds_model.proofs.Common.{◌≡◌, ◌*◌, ◌-◌, ◌^◌, max, min, sym, arith, trailing_zeros, w64, dvd_refl}
use Rattle.yds_fraction.proofs.Halves.{turned, lesser_odd}
use Rattle.yds_fraction.proofs.divisors.odd_gcd.Goals as goal

pub loop-x-preserved : goal.loop-x-preserved
loop-x-preserved c =
    let now = c.loop-x.invariant in
    let parts : 2 ^ trailing_zeros w64 c.abs_diff-difference.result * c.odd_part-y.result ≡ max c.loop-x.x c.loop-x.y - min c.loop-x.x c.loop-x.y =
    omega (arith, c.odd_part-y.ensures.parts, c.abs_diff-difference.ensures) in (
      rw c.min-x.ensures (lesser_odd _ _ now.0 now.1),
      c.odd_part-y.ensures.odd,
      λ g is. now.2 g (turned (trailing_zeros w64 c.abs_diff-difference.result) _ _ c.odd_part-y.result g now.0 now.1 parts (rw c.min-x.ensures at is)),
    )

pub returns : goal.returns
returns c =
    let same : c.loop-x.x ≡ c.loop-x.y = omega arith in
    c.loop-x.invariant.2 c.loop-x.x (dvd_refl c.loop-x.x, rw (sym same) (dvd_refl c.loop-x.x), λ d first second. first)
