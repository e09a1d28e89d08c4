-- Lines out of order, and where they are put: things that meet the definition, and near misses.
use Rattle.base.proofs.Common.{◌≡◌, ℕ, zero, suc, List, [], ◌∷◌, ◌++◌, true, false, None, if◌then◌else◌, refl}
use Rattle.yds_kernel.specs.declared.loss.Since.TheVariants as since
use Rattle.yds_kernel.specs.Event.{Said, Stamped, Lost, Nothing, Other}
use Rattle.yds_kernel.specs.Text.{Trace}
use Rattle.yds_kernel_order.specs.Order.{Placed, placed_of, is_before_by, number_at}

-- an event of this processor at this time
abbrev at : ℕ → ℕ → Said
at processor time = Stamped (record { processor = processor; time = time; happening = Other })

-- the trace that says so
abbrev saying : List Said → Trace
saying said = record { said = said; fault = None }

-- the line of this number in its place
abbrev placed : ℕ → Said → Placed
placed number said = record { number = number; said = said; stays = false }

-- the line of this number, before which no line is put
abbrev stays : ℕ → Said → Placed
stays number said = record { number = number; said = said; stays = true }

-- # Lines that are put before others

-- Two lines of two processors changed places. The last one stands first.
two_exchanged : placed_of (saying (at 0 1001 ∷ at 1 1000 ∷ [])) ≡ placed 1 (at 0 1001) ∷ placed 2 (at 1 1000) ∷ []
two_exchanged = refl

-- Those of one time stay in the order of lines.
same_time_stays : placed_of (saying (at 0 1000 ∷ at 1 1000 ∷ [])) ≡ placed 2 (at 1 1000) ∷ placed 1 (at 0 1000) ∷ []
same_time_stays = refl

-- One stands behind two others, of which it passes one.
passes_one : placed_of (saying (at 0 1000 ∷ at 0 1002 ∷ at 1 1001 ∷ [])) ≡ placed 2 (at 0 1002) ∷ placed 3 (at 1 1001) ∷ placed 1 (at 0 1000) ∷ []
passes_one = refl

-- Numbers in the text: the first one in order of time is the second line.
first_is_second : number_at 2 (placed_of (saying (at 0 1001 ∷ at 1 1000 ∷ []))) 1 ≡ 2
first_is_second = refl

-- A line that says nothing has no place, and counts among the lines of the text.
nothing_has_no_place : placed_of (saying (at 0 1001 ∷ Nothing ∷ at 1 1000 ∷ [])) ≡ placed 1 (at 0 1001) ∷ placed 3 (at 1 1000) ∷ []
nothing_has_no_place = refl

-- A millisecond back is put in its place.
a_millisecond : placed_of (saying (at 0 5000000 ∷ at 1 4000000 ∷ [])) ≡ placed 1 (at 0 5000000) ∷ placed 2 (at 1 4000000) ∷ []
a_millisecond = refl

-- # Lines that stay

-- A nanosecond more than a millisecond: it stays, and its time goes back.
too_far_back : placed_of (saying (at 0 5000000 ∷ at 1 3999999 ∷ [])) ≡ stays 2 (at 1 3999999) ∷ placed 1 (at 0 5000000) ∷ []
too_far_back = refl

goes_back : is_before_by 0 (at 1 3999999) (at 0 5000000) ≡ true
goes_back = refl

-- Nothing is put before a line that stays: one of its own time, and one before that, stand behind it.
not_before_a_stay : placed_of (saying (at 0 5000000 ∷ at 1 3999999 ∷ at 1 3999998 ∷ []))
    ≡ placed 3 (at 1 3999998) ∷ stays 2 (at 1 3999999) ∷ placed 1 (at 0 5000000) ∷ []
not_before_a_stay = refl

-- Nothing is put before a line that tells of lost events: what is earlier stays behind it.
not_before_a_loss : placed_of (saying (at 0 1001 ∷ Lost 0 since.ItsLastLine ∷ at 1 1000 ∷ [])) ≡ placed 3 (at 1 1000) ∷ stays 2 (Lost 0 since.ItsLastLine) ∷ placed 1 (at 0 1001) ∷ []
not_before_a_loss = refl

-- so many events of this time
abbrev many : ℕ → ℕ → List Said
many zero time = []
many (suc count) time = at 0 time ∷ many count time

-- the lines that stay, by their numbers
abbrev staying : List Placed → List ℕ
staying [] = []
staying (line ∷ more) = if line.stays then line.number ∷ staying more else staying more

-- 64 later ones are passed.
passes_64 : number_at 65 (placed_of (saying (many 64 1001 ++ at 1 1000 ∷ []))) 1 ≡ 65
passes_64 = refl

-- 65 aren't: the line stays behind them.
stays_behind_65 : staying (placed_of (saying (many 65 1001 ++ at 1 1000 ∷ []))) ≡ 66 ∷ []
stays_behind_65 = refl
