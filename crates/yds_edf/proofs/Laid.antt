-- The slots of shares that take at most a stretch's capacity.
use Rattle.yds_model.proofs.Common.{◌≡◌, ℕ, ◌+◌, ◌*◌, ◌≤◌, List, subst, ap, ◌∙◌, arith, All, eq_of_mul-eq-mul_left, at_scale, of_whole, slots_at, Piece, FillsAtSpeed}
use Rattle.yds_slots.proofs.WorkParts.{of_parts_over}
use Rattle.yds_events.specs.Stretch.{length_of}
use Rattle.yds_timetable.specs.Shares.{JobShare, total_units}
use Rattle.yds_timetable.specs.Pace.{lowest_pace, time_after, slots_from, IsPaceOf}
use Rattle.yds_timetable.proofs.Filling.{time_begins}
use Rattle.yds_timetable.proofs.Paces.{runs, time_ends, each_slot, slots_fill}
use Rattle.yds_edf.specs.Laid.{IsLaidIn, FillStretch}

module _ (stretch : Piece) (capacity grain : ℕ) (is : IsPaceOf (lowest_pace capacity stretch grain) stretch capacity) (shares : List JobShare)
    (some : All (λ share. 1 ≤ share.units) shares) where
  -- each runs at the speed of the capacity
  pub laid_runs : total_units shares ≤ capacity → All (IsLaidIn stretch capacity grain) (slots_from (lowest_pace capacity stretch grain) stretch.from 0 shares)
  laid_runs enough =
      let pace = lowest_pace capacity stretch grain in
      each_slot pace stretch capacity is (IsLaidIn stretch capacity grain) (λ done share one within. record {
        runs = λ scale positive divided.
            let here = runs pace stretch capacity is done share one within scale positive divided in
            record {
              lies_in = here.lies_in;
              forward = here.forward;
              speed = eq_of_mul-eq-mul_left scale positive _ _ (omega (arith, here.speed));
            };
        from_den = of_parts_over (stretch.from * pace.units + done * pace.time) pace.units;
        to_den = of_parts_over (stretch.from * pace.units + (done + share.units) * pace.time) pace.units;
        work_den = of_parts_over share.units grain;
      }) 0 shares some (omega (arith, enough))

  -- where they take all of it, they fill the stretch
  pub laid_full : total_units shares ≡ capacity → FillStretch stretch capacity grain (slots_from (lowest_pace capacity stretch grain) stretch.from 0 shares)
  laid_full full scale at =
      let pace = lowest_pace capacity stretch grain in
      let slots = slots_from pace stretch.from 0 shares in
      let first : at_scale scale (of_whole stretch.from) ≡ stretch.from * scale = omega arith in
      let last : at_scale scale (of_whole stretch.to) ≡ stretch.to * scale = omega arith in
      let all : 0 + total_units shares ≡ capacity = omega (arith, full) in
      subst (λ (from : ℕ). FillsAtSpeed (scale * capacity) (grain * length_of stretch * scale) from (stretch.to * scale) (slots_at scale slots))
      (ap (at_scale scale) (time_begins pace stretch.from is.some_units) ∙ first)
      (subst (λ (to : ℕ). FillsAtSpeed (scale * capacity) (grain * length_of stretch * scale) (at_scale scale (time_after pace stretch.from 0)) to (slots_at scale slots))
      (ap (at_scale scale) (ap (time_after pace stretch.from) all ∙ time_ends pace stretch capacity is) ∙ last)
      (slots_fill pace stretch capacity is scale at.positive 0 shares some (omega (arith, full)) at.divided))
