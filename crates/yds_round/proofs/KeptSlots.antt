-- Slots of the plan that stay as they are.
use Rattle.yds_model.proofs.Common.{◌≡◌, ℕ, ◌+◌, ◌<◌, List, [], ◌∷◌, ◌++◌, length, get_or, take, sym, ap, subst, arith, append_assoc, take_more, length-append, length-take, All-take, WrittenSlot}
use Rattle.base.specs.declared.limits.TheConstants.{MAX_SLOTS}
use Rattle.yds_slots.specs.Schedule.{FitsGrain}
use Rattle.yds_round.specs.Cut.{CanKeep}
use Rattle.yds_round.specs.Written.{FitsJob}
use Rattle.yds_timetable.proofs.Grains.{fits_own}
use Rattle.yds_round.proofs.Cuts.{WorksOver, fits_more}

-- the slot that is read, after those before it
module _ (jobs : ℕ) (before planned : List WrittenSlot) (fits : CanKeep jobs before planned) (k : ℕ) (slot : WrittenSlot)
    (within : k < length planned) (is : slot ≡ get_or planned k slot) where
  pub kept_known : slot.job < jobs
  kept_known = omega (arith, fits.known k slot within, ap (λ (s : WrittenSlot). s.job) is)

  pub kept_fits : FitsGrain (before ++ take k planned) slot
  kept_fits =
      let job : FitsJob fits.grain before slot.job = subst (λ (s : WrittenSlot). FitsJob fits.grain before s.job) (sym is) (fits.grains k slot within) in
      let work : WorksOver fits.grain slot = subst (λ (s : WrittenSlot). WorksOver fits.grain s) (sym is) (fits.works k slot within) in
      fits_own fits.grain (before ++ take k planned) slot
      (fits_more fits.grain before (take k planned) slot.job job (All-take (WorksOver fits.grain) k planned fits.works)) work

  pub kept_room : length (before ++ take k planned) < MAX_SLOTS
  kept_room = omega (arith, fits.room, within, length-append before (take k planned), length-take k planned)

  pub kept_more : (before ++ take k planned) ++ slot ∷ [] ≡ before ++ take (k + 1) planned
  kept_more = grind (arith, append_assoc, take_more)
