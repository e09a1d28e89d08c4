-- Which processors have documents where each has its own, and what is said there of a job that ran elsewhere.
use Rattle.base.proofs.Common.{◌≡◌, ℕ, List, [], ◌∷◌, map, reverse, true, Option, Some, None, refl}
use Rattle.yds_kernel.specs.Event.{Speed, Said}
use Rattle.yds_trace.specs.declared.reason.Reason.{Reason}
use Rattle.yds_trace.specs.declared.reason.Reason.TheVariants as reasons
use Rattle.yds_trace.specs.Asked.{Asked, on}
use Rattle.yds_trace.specs.Document.{all_judged}
use Rattle.yds_trace.specs.Parts.{processors_of}
use Rattle.yds_trace_examples.proofs.Lines.{line, woken, comes, sleeps, marker, lost, asked}

abbrev everywhere : Asked
everywhere = record asked { everywhere = true }

abbrev processors : Asked → List Said → List ℕ
processors asked lines = processors_of asked (reverse lines)

-- # Which ones

-- All up to the greatest of which a line tells, also those between on which nothing is seen: `t` is woken on 3.
up_to_the_greatest : processors everywhere (woken 1000 ∷ comes 1 1020 ∷ sleeps 1 1040 ∷ []) ≡ 0 ∷ 1 ∷ 2 ∷ 3 ∷ []
up_to_the_greatest = refl

-- A line that only says that a processor's events were lost tells of it too.
where_events_were_lost : processors everywhere (marker 0 1000 ∷ lost 2 ∷ []) ≡ 0 ∷ 1 ∷ 2 ∷ []
where_events_were_lost = refl

-- Processor 0 has documents in any case.
without_a_line : processors everywhere [] ≡ 0 ∷ []
without_a_line = refl

-- Near miss: a line of processor 1 that says at which speed 2 runs is a line of 1.
at_a_speed : processors everywhere (line 1 1000 (Speed 2 5) ∷ []) ≡ 0 ∷ 1 ∷ []
at_a_speed = refl

-- Near miss: with one processor there is just that one, whatever the lines tell of.
one_processor : processors (on 2 asked) (woken 1000 ∷ comes 1 1020 ∷ sleeps 1 1040 ∷ []) ≡ 2 ∷ []
one_processor = refl

-- # What is said there

-- why each job isn't written as it stands, on this processor
abbrev reasons_on : ℕ → List Said → List (Option Reason)
reasons_on processor lines = map (λ judged. judged.reason) (all_judged (on processor everywhere) (reverse lines))

-- On two processors of which no line tells, the same is said of a job that ran on 1: it ran elsewhere.
alike_where_none_tells : all_judged (on 4 everywhere) (reverse (woken 1000 ∷ comes 1 1020 ∷ sleeps 1 1040 ∷ []))
    ≡ all_judged (on 5 everywhere) (reverse (woken 1000 ∷ comes 1 1020 ∷ sleeps 1 1040 ∷ []))
alike_where_none_tells = refl

moved_away : reasons_on 4 (woken 1000 ∷ comes 1 1020 ∷ sleeps 1 1040 ∷ []) ≡ Some reasons.Moved ∷ []
moved_away = refl

-- Near miss: on 1 it stands as it is.
stands_where_it_ran : reasons_on 1 (woken 1000 ∷ comes 1 1020 ∷ sleeps 1 1040 ∷ []) ≡ None ∷ []
stands_where_it_ran = refl
