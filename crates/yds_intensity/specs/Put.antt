-- A sum that is put after others.
use Rattle.std.specs.Prelude.{◌≡◌, ◌<◌, ◌-◌, ◌⊎◌, ◌≢◌, List, [], ◌∷◌, ◌++◌, length}
use Rattle.yds_intensity.specs.declared.sweeping.Sum.{Sum}
use Rattle.yds_intensity.specs.Sums.{sum_at}

-- after all of them where none is there or the last has another end, else in the place of the last
abbrev pub IsPut : List Sum → Sum → List Sum → Type 0
IsPut sums sum put = (kept : List Sum) × (put ≡ kept ++ sum ∷ [])
    × (((sums ≡ kept) × (0 < length sums → (sum_at sums (length sums - 1)).end ≢ sum.end))
    ⊎ ((last : Sum) × (last.end ≡ sum.end) × (sums ≡ kept ++ last ∷ [])))
