use Rattle.yds_model.proofs.Common.{◌≡◌, ℕ, ◌-◌, ◌<◌, length, get_or, set, ◌∙◌, arith, inl, inr, ap, get_or-set_same, get_or-set_other, cases_eq, cases_lt}
use Rattle.yds_admit.proofs.Idleness.{set_late}
use Rattle.yds_admit.proofs.idle.take_before.Goals as goal

pub loop-left-preserved : goal.loop-left-preserved
loop-left-preserved c =
    let held = c.loop-left.invariant in
    let old = c.loop-left.idle in
    let place : ℕ = c.loop-left.place in
    let gap : ℕ = c.last_idle-place.result in
    let v : ℕ = get_or old gap 0 - c.take_part-left.result in
    let before = c.last_idle-place.ensures.before in
    let below : gap < length old = omega (arith, before, held.to_end, c.requires.within, c.loop-left.auto.idle) in
    let at = get_or-set_same old gap v 0 below in
    let jumped = c.last_idle-place.ensures.empty old held.links in
    let behind : (q : ℕ) → gap < q → q < c.args.end → get_or (set old gap v) q 0 ≡ 0 = λ q later soon.
    get_or-set_other old gap q v 0 (λ e. omega (arith, e, later)) ∙ elim (cases_lt q place) [
      | inl ahead ↦ jumped q (omega (arith, later)) ahead
      | inr past ↦ held.empty c.loop-left-test.true q past soon
    ] in
    rw c.take_part-left.ensures.idle
    (record {
      to_end = omega (arith, held.to_end, before);
      less = λ q. elim (cases_eq q gap) [
        | inl same ↦ omega (arith, held.less q, at, ap (λ n. get_or (set old gap v) n 0) same, ap (λ n. get_or old n 0) same)
        | inr other ↦ omega (arith, held.less q, get_or-set_other old gap q v 0 other)
      ];
      early = λ q less. omega (arith, get_or-set_other old gap q v 0 (λ e. omega (arith, e, less)), held.early q (omega (arith, less, before)));
      none = behind;
      empty = λ more q from soon. elim (cases_eq q gap) [
        | inl same ↦ omega (arith, at, ap (λ n. get_or (set old gap v) n 0) same, c.take_part-left.ensures.taken, more)
        | inr other ↦ behind q (omega (arith, from, other)) soon
      ];
      late = λ q later. omega (arith, get_or-set_other old gap q v 0 (λ e. omega (arith, e, later, before, held.to_end)), held.late q later);
      sum = omega (arith, held.sum, set_late old gap v c.args.end below (omega (arith, before, held.to_end)), c.take_part-left.ensures.taken);
      links = rw c.take_part-left.ensures.idle at c.take_part-left.ensures.links;
    })
