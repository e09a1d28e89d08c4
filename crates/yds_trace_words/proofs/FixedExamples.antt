-- The speed that each processor has throughout, by the word `--fixed`, and near misses.
use Rattle.base.proofs.Common.{◌≡◌, codes, Some, None, Ok, refl}
use Rattle.yds_trace.specs.Asked.{Fixed, Same}
use Rattle.yds_trace_words.specs.declared.fault.Reason.TheVariants as reasons
use Rattle.yds_trace_words.specs.Words.{refuse}
use Rattle.yds_trace_words.specs.Request.{speeds_asked}

throughout : speeds_asked None (Some (codes "600000")) ≡ Ok (Fixed 600000)
throughout = refl

-- Near misses: before the first change alone; and both.
at_first : speeds_asked (Some (codes "600000")) None ≡ Ok (Same 600000)
at_first = refl

both : speeds_asked (Some (codes "600000")) (Some (codes "600000")) ≡ refuse (codes "--fixed") reasons.WithStart
both = refl

-- no speed, and no list of them
no_speed : speeds_asked None (Some (codes "0")) ≡ refuse (codes "--fixed") reasons.Speed
no_speed = refl

no_list : speeds_asked None (Some (codes "0:600000")) ≡ refuse (codes "--fixed") reasons.Speed
no_list = refl

-- What is no speed is told first, of `--start` and then of `--fixed`.
start_first : speeds_asked (Some (codes "0")) (Some (codes "0")) ≡ refuse (codes "--start") reasons.Speed
start_first = refl

then_fixed : speeds_asked (Some (codes "600000")) (Some (codes "0")) ≡ refuse (codes "--fixed") reasons.Speed
then_fixed = refl
