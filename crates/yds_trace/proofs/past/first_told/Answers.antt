use Rattle.base.proofs.Common.{◌≡◌, ◌∙◌, ℕ, ◌+◌, ◌-◌, ◌≤◌, List, ◌∷◌, length, map, drop, get_or, sym, ap, subst, arith}
use Rattle.std.proofs.lemmas.List.{at_drop_more}
use Rattle.yds_trace.specs.declared.asked.StartSpeed.{StartSpeed as StartSpeedKept}
use Rattle.yds_trace.specs.declared.past.Told.{Told}
use Rattle.yds_trace.specs.Asked.{StartSpeed}
use Rattle.yds_trace.specs.Kept.{TellsSpeeds}
use Rattle.yds_trace.specs.Views.{speed_read}
use Rattle.yds_trace.proofs.past.first_told.Goals as goal

-- one place before the speeds that are told
told_more : (speeds : List StartSpeedKept) (place : ℕ) (d : StartSpeedKept) (told : List Told) → 1 ≤ place → place ≤ length speeds
    → TellsSpeeds (speed_read (get_or speeds (place - 1) d) ∷ map speed_read (drop place speeds)) told → TellsSpeeds (map speed_read (drop (place - 1) speeds)) told
told_more speeds place d told some within is =
    let behind : place - 1 + 1 ≡ place = omega (arith, some) in
    subst (λ (list : List StartSpeed). TellsSpeeds list told)
    (sym (at_drop_more (map speed_read) speeds (place - 1) d (omega (arith, some, within))
    ∙ ap (λ (n : ℕ). speed_read (get_or speeds (place - 1) d) ∷ map speed_read (drop n speeds)) behind))
    is

pub loop-place-preserved : goal.loop-place-preserved
loop-place-preserved c =
    told_more c.args.speeds.now c.loop-place.place _ c.put_speed.new.told.items c.loop-place-test.true c.loop-place.auto.place
    (c.in_ok-put_speed.ensures (map speed_read (drop c.loop-place.place c.args.speeds.now)) c.loop-place.invariant)
