-- Times by the words `--from` and `--to`, and near misses.
use Rattle.base.proofs.Common.{◌≡◌, ℕ, List, [], ◌∷◌, codes, Some, None, Ok, refl}
use Rattle.yds_trace.specs.declared.limits.TheConstants.{MAX_TIME}
use Rattle.yds_trace_bounds.specs.declared.bounds.Moment.TheVariants.{Clock, AfterFirst}
use Rattle.yds_trace_words.specs.declared.fault.Reason.TheVariants as reasons
use Rattle.yds_trace_words.specs.Words.{Setting, refuse}
use Rattle.yds_trace_words.specs.Decimal.{decimal_at}
use Rattle.yds_trace_words.specs.Request.{moment_of, time_of, bounds_by}

-- two seconds after the first event
after_first : moment_of (codes "+2") ≡ Some (AfterFirst 2000000000)
unfolding decimal_at
after_first = refl

-- from the first event on
at_first : moment_of (codes "+0") ≡ Some (AfterFirst 0)
unfolding decimal_at
at_first = refl

-- Near misses: without a plus sign it is a time of the clock, and with a plus sign alone it is none.
by_clock : moment_of (codes "2") ≡ Some (Clock 2000000000)
unfolding decimal_at
by_clock = refl

no_seconds : moment_of (codes "+") ≡ None
unfolding decimal_at
no_seconds = refl

two_signs : moment_of (codes "++2") ≡ None
unfolding decimal_at
two_signs = refl

before_first : moment_of (codes "+-2") ≡ None
unfolding decimal_at
before_first = refl

with_unit : moment_of (codes "+2s") ≡ None
unfolding decimal_at
with_unit = refl

-- the last nanosecond, and one behind it
greatest : moment_of (codes "+9223372036.854775807") ≡ Some (AfterFirst MAX_TIME)
unfolding decimal_at
greatest = refl

too_great : time_of (codes "--to") (Some (codes "+9223372036.854775808")) ≡ refuse (codes "--to") reasons.Time
unfolding decimal_at
too_great = refl

-- # Both words

-- `--from` and `--to` with these values
abbrev between : List ℕ → List ℕ → List Setting
between from to = record { name = codes "--from"; value = from } ∷ record { name = codes "--to"; value = to } ∷ []

in_order : bounds_by (between (codes "+2") (codes "+3")) ≡ Ok (record { from = Some (AfterFirst 2000000000); to = Some (AfterFirst 3000000000) })
unfolding decimal_at
in_order = refl

-- Near misses: two of one kind have to be in order, whichever kind that is.
both_after_first : bounds_by (between (codes "+2") (codes "+2")) ≡ refuse (codes "--from") reasons.FromNotBefore
unfolding decimal_at
both_after_first = refl

both_by_clock : bounds_by (between (codes "3") (codes "2")) ≡ refuse (codes "--from") reasons.FromNotBefore
unfolding decimal_at
both_by_clock = refl

-- One of each kind isn't compared.
after_first_and_clock : bounds_by (between (codes "+2") (codes "2")) ≡ Ok (record { from = Some (AfterFirst 2000000000); to = Some (Clock 2000000000) })
unfolding decimal_at
after_first_and_clock = refl

clock_and_after_first : bounds_by (between (codes "3") (codes "+2")) ≡ Ok (record { from = Some (Clock 3000000000); to = Some (AfterFirst 2000000000) })
unfolding decimal_at
clock_and_after_first = refl
