-- Speeds before the first change, by the word `--start`, and near misses.
use Rattle.base.proofs.Common.{◌≡◌, [], ◌∷◌, codes, Some, None, Ok, refl}
use Rattle.yds_trace.specs.Asked.{Same, Listed}
use Rattle.yds_trace_words.specs.declared.fault.Reason.TheVariants as reasons
use Rattle.yds_trace_words.specs.Words.{refuse}
use Rattle.yds_trace_words.specs.Start.{start_asked, refuse_speed}

-- one for all processors
for_all : start_asked (Some (codes "600000")) ≡ Ok (Same 600000)
for_all = refl

-- two clusters; of all other processors none is known
for_two : start_asked (Some (codes "0:600000,4:900000")) ≡ Ok (Listed (record { processor = 0; khz = 600000 } ∷ record { processor = 4; khz = 900000 } ∷ []))
for_two = refl

-- no word: none is known
for_none : start_asked None ≡ Ok (Listed [])
for_none = refl

-- Near misses: a speed of 0, for all processors and for one.
no_speed : start_asked (Some (codes "0")) ≡ refuse (codes "--start") reasons.Speed
no_speed = refl

no_second_speed : start_asked (Some (codes "0:600000,4:0")) ≡ refuse_speed 2 reasons.Speed
no_second_speed = refl

-- A processor that stands there again is refused where it stands first.
given_twice : start_asked (Some (codes "4:900000,0:600000,0:600000")) ≡ refuse_speed 2 reasons.ProcessorTwice
given_twice = refl

-- The greatest number of a processor, and one above it.
greatest : start_asked (Some (codes "8191:1")) ≡ Ok (Listed (record { processor = 8191; khz = 1 } ∷ []))
greatest = refl

too_great : start_asked (Some (codes "0:1,8192:1")) ≡ refuse_speed 2 reasons.SpeedProcessor
too_great = refl

-- A list has a processor before each of its speeds.
no_processor : start_asked (Some (codes "0:600000,900000")) ≡ refuse_speed 2 reasons.SpeedForm
no_processor = refl

-- An empty word is no speed.
empty : start_asked (Some []) ≡ refuse (codes "--start") reasons.Speed
empty = refl
