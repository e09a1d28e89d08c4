-- The intensity of an interval as a speed in lowest terms.
use Rattle.yds_model.proofs.Common.{◌≡◌, ℕ, ◌-◌, ◌*◌, ◌≤◌, List, arith, ap, subst, mul-le-mul_right, le_of_mul-le-mul_left, Job, Quotient}
use Rattle.yds_critical.specs.declared.interval.Interval.{Interval}
use Rattle.yds_textbook.specs.Served.{IsFastEnough}
use Rattle.yds_textbook.specs.Stages.{IsDensest}

times : (confined length work long num den : ℕ) → 1 ≤ length → confined * length ≤ work * long → work * den ≡ num * length → confined * den ≤ num * long
times confined length work long num den some within same =
    let both : length * (confined * den) ≤ length * (num * long) = omega (arith, mul-le-mul_right den within, ap (λ n. n * long) same) in
    le_of_mul-le-mul_left both some

module _ (jobs : List Job) (interval : Interval) (long : ℕ) (speed : Quotient) (densest : IsDensest jobs interval) (is : long ≡ interval.end - interval.start)
    (same : interval.work * speed.den ≡ speed.num * long) where
  pub fast_enough : IsFastEnough jobs speed
  fast_enough from to forward =
      times _ (interval.end - interval.start) interval.work (to - from) speed.num speed.den (omega (arith, densest.forward)) (densest.densest from to forward)
      (subst (λ (n : ℕ). interval.work * speed.den ≡ speed.num * n) is same)
