use Rattle.base.proofs.Common.{ℕ, ◌≡◌, ◌<◌, ◌^◌, refl, sym, ◌∙◌, arith, subst, true}
use Rattle.yds_kernel.specs.Views.{said_read}
use Rattle.yds_kernel_order.specs.Ring.{Places}
use Rattle.yds_kernel_order.specs.Ordering.{Ordering}
use Rattle.yds_kernel_order.specs.Taking.{needs_more}
use Rattle.yds_kernel_order.proofs.Steps.{puts_said, unless_failed}
use Rattle.yds_kernel_order.proofs.reader.OrderedReader.put.Goals as goal

pub returns-else-is_err : goal.returns-else-is_err
returns-else-is_err c =
    let ordered = c.self.inside in
    let more = subst (λ (o : Ordering). needs_more o ≡ true) (sym c.self.view_is) c.requires in
    let fits : ordered.reader.number < 2 ^ 64 = omega (arith, c.number-number.ensures, c.number-number.type_inv) in
    let places = unless_failed c.place.result (sym c.is_err.ensures.value ∙ c.if-is_err.false) c.place.ensures in
    rw (← c.self.view_is)
    (puts_said _ _ (said_read c.in-Ok.said) more refl fits refl c.number-number.ensures c.in-Ok.ensures
    (subst (λ (n : ℕ). Places n (said_read c.in-Ok.said) ordered.ring c.place.new.self) c.number-number.ensures places))
