-- Shares: in a stretch, which is known by its number, a job gets so many units.
use Rattle.std.specs.Prelude.{ℕ, ◌==◌, if◌then◌else◌, nat_lt, List, sum_by, filter}
use Rattle.std.specs.List.{slice_index_or}

pub record JobShare : Type 0 where
  pub stretch : ℕ
  pub job : ℕ
  pub units : ℕ

-- the share at a place
abbrev pub no_share : JobShare
no_share = record { stretch = 0; job = 0; units = 0 }

abbrev pub share_at : List JobShare → ℕ → JobShare
share_at shares i = slice_index_or shares i no_share

-- the units that the shares give a job, together
abbrev pub units_given : List JobShare → ℕ → ℕ
units_given shares job = sum_by (λ share. if job == share.job then share.units else 0) shares

-- the units of all the shares
abbrev pub total_units : List JobShare → ℕ
total_units shares = sum_by (λ share. share.units) shares

-- the shares in a stretch, and those in the stretches before it
abbrev pub shares_in : List JobShare → ℕ → List JobShare
shares_in shares stretch = filter (λ share. stretch == share.stretch) shares

abbrev pub shares_before : List JobShare → ℕ → List JobShare
shares_before shares stretch = filter (λ share. nat_lt share.stretch stretch) shares
