use Rattle.yds_model.proofs.Common.{◌≡◌, ℕ, suc, ◌+◌, ◌-◌, ◌<◌, ◌∙◌, length, get_or, set, refl, subst, arith, inl, inr, get_or-set_same, get_or-set_other, length-set, cases_lt}
use Rattle.yds_admit.specs.Chain.{Takes, AreLinks}
use Rattle.yds_admit.proofs.GoingOn.{none_taken, some_taken, all_taken}
use Rattle.yds_admit.proofs.Links.{less_left, linked, slides}
use Rattle.yds_admit.proofs.chain.take.Goals as goal
use Rattle.yds_admit.proofs.chain.take.Goals.{then-left-gt0, else-left-gt0}

pub loop-left-init : goal.loop-left-init
loop-left-init c =
    let gaps = c.args.gaps.now in
    let units : ℕ = c.args.units in
    let to : ℕ = c.last_open-place.result in
    let kept = c.last_open-place.ensures.kept gaps c.requires.links in
    let more : c.args.place ≡ to + (c.args.place - to) = omega (arith, c.last_open-place.ensures.within) in
    record {
      takes = slides gaps gaps c.args.place units to units (c.args.place - to)
          (subst (λ (at : ℕ). Takes gaps c.args.place units gaps at units) more (none_taken gaps c.args.place units))
          (omega (arith, more, c.requires.within))
          (λ q from below. kept.1 q from (omega (arith, below, more)));
      links = kept.0;
      kept = λ q low. refl;
      within = omega (arith, c.last_open-place.ensures.within, c.requires.within);
    }

pub loop-left-preserved : goal.loop-left-preserved
loop-left-preserved c =
    let old = c.args.gaps.now in
    let before = c.loop-left.gaps in
    let units : ℕ = c.args.units in
    let at : ℕ = c.loop-left.place - 1 in
    let taken : ℕ = c.min-taken.result in
    let gaps = set before at (get_or before at 0 - taken) in
    let left : ℕ = c.loop-left.left - taken in
    let link : ℕ = c.if-left-gt0.links in
    let to : ℕ = c.last_open-place-in-loop-left.result in
    let next : c.loop-left.place ≡ suc at = omega (arith, c.if-place-lowest.true) in
    let as_long : length before ≡ length old = c.loop-left.invariant.takes.as_long in
    let below : at < length old = omega (arith, c.if-place-lowest.true, c.loop-left.invariant.within) in
    let here : at < length before = omega (arith, below, as_long) in
    let step : Takes old c.args.place units gaps at left = some_taken old before c.args.place units at c.loop-left.left taken
    (subst (λ (at : ℕ). Takes old c.args.place units before at c.loop-left.left) next c.loop-left.invariant.takes) below c.min-taken.ensures in
    let less : AreLinks gaps c.loop-left.links = less_left before c.loop-left.links at taken c.loop-left.invariant.links here in
    let within : at < length gaps = omega (arith, here, length-set before at (get_or before at 0 - taken)) in
    let led : AreLinks gaps (set c.loop-left.links (at + 1) link) = elim c.if-left-gt0.branch [
      | then-left-gt0 w ↦ linked gaps c.loop-left.links at link less within (omega (arith, w.links-is)) (omega (arith, w.links-is))
          (λ same. get_or-set_same before at (get_or before at 0 - taken) 0 here ∙ (let e : get_or before at 0 - taken ≡ 0 = omega (arith, c.min-taken.ensures, w.if-left-gt0.true) in e))
      | else-left-gt0 w ↦ linked gaps c.loop-left.links at link less within (omega (arith, w.links-is)) (omega (arith, w.links-is))
          (λ same. absurd (omega (arith, same, w.links-is)))
    ] in
    let kept = c.last_open-place-in-loop-left.ensures.kept gaps led in
    let more : at ≡ to + (at - to) = omega (arith, c.last_open-place-in-loop-left.ensures.within) in
    record {
      takes = slides old gaps c.args.place units to left (at - to) (subst (λ (at : ℕ). Takes old c.args.place units gaps at left) more step)
          (omega (arith, more, below))
          (λ q from to. kept.1 q from (omega (arith, to, more)));
      links = kept.0;
      kept = λ q low. get_or-set_other before at q (get_or before at 0 - taken) 0 (λ e. omega (arith, e, low, c.if-place-lowest.true)) ∙ c.loop-left.invariant.kept q low;
      within = omega (arith, c.last_open-place-in-loop-left.ensures.within, below);
    }

pub returns-after-loop-left-clause-takes : goal.returns-after-loop-left-clause-takes
returns-after-loop-left-clause-takes c over =
    all_taken c.args.gaps.now c.loop-left.gaps c.args.place c.args.units c.loop-left.place c.loop-left.left c.loop-left.invariant.takes (elim over [
      | inl none ↦ inl none
      | inr first ↦ elim (cases_lt 0 c.loop-left.left) [
        | inl some ↦ inr (omega (arith, first, c.loop-left-test.false, some))
        | inr none ↦ inl (omega (arith, none))
      ]
    ])
