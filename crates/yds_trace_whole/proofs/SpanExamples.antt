-- Who else had the processor, in two parts of a small trace. Each job is due 100 nanoseconds after its begin.
use Rattle.yds_model.proofs.Common.{◌≡◌, ℕ, List, [], ◌∷◌, map, codes, reverse, true, Some, None, refl, ap, arith}
use Rattle.yds_kernel.specs.declared.state.State.TheVariants as states
use Rattle.yds_kernel.specs.Event.{Thread, Switch, WakeUp, Marker, Said}
use Rattle.yds_trace.specs.declared.cut.Cut.{Cut}
use Rattle.yds_trace.specs.Asked.{Asked}
use Rattle.yds_trace.specs.Others.{Span, others_of}
use Rattle.yds_trace.specs.Parts.{no_cut, part_until, with_part}
use Rattle.yds_trace_whole.specs.Parts.{Part, made}
use Rattle.yds_trace_whole.specs.Whole.{HasItsSpans}
use Rattle.yds_trace_whole.proofs.Traces.{thread, t, idle, line_of, task_due, asked_of}

-- a thread that isn't listed
abbrev x : Thread
x = thread (codes "x") 9

-- It is told of processor 0.
abbrev asked : Asked
asked = record (asked_of (task_due 100 (codes "t") ∷ [])) { others = Some 0 }

-- `x` runs. `t` is woken at 1000 and comes at 1020; it sleeps at 1040, and `x` goes on; at 2000 it is woken, and comes at 2030.
abbrev lines : List Said
lines = reverse
    (line_of 0 990 (Switch idle states.GoesOn x) ∷ line_of 0 1000 (WakeUp t true) ∷ line_of 0 1020 (Switch x states.GoesOn t) ∷ line_of 0 1040 (Switch t states.Sleeps x)
    ∷ line_of 0 2000 (WakeUp t true) ∷ line_of 0 2030 (Switch x states.GoesOn t) ∷ line_of 0 2050 (Switch t states.Sleeps idle) ∷ line_of 0 2300 Marker ∷ [])

abbrev span : ℕ → ℕ → Span
span from to = record { name = codes "x"; pid = 9; from = from; to = to }

-- While `t` sleeps nobody is in the way.
in_the_whole : others_of asked lines ≡ span 1000 1020 ∷ span 2000 2030 ∷ []
in_the_whole = refl

-- the trace in two parts, of which the first ends at this time
abbrev cut_by : ℕ → Cut
cut_by time = with_part lines time (part_until asked lines no_cut (Some time)) no_cut

abbrev first : ℕ → Part
first time = made asked lines no_cut (Some time)

abbrev second : ℕ → Part
second time = made asked lines (cut_by time) None

-- Each part has the one of its time.
one_each : map (λ part. part.settled.others) (first 2000 ∷ second 2000 ∷ []) ≡ (span 1000 1020 ∷ []) ∷ (span 2000 2030 ∷ []) ∷ []
one_each = refl

first_has_its : HasItsSpans asked lines (first 2000)
first_has_its = record { are = refl }

second_has_its : HasItsSpans asked lines (second 2000)
second_has_its = record { are = refl }

-- One over a cut is told in both parts, up to the cut and from it on.
over_a_cut : map (λ part. part.settled.others) (first 2010 ∷ second 2010 ∷ []) ≡ (span 1000 1020 ∷ span 2000 2010 ∷ []) ∷ (span 2010 2030 ∷ []) ∷ []
over_a_cut = refl

-- Near miss: with both whole, the first part would tell of a time behind it.
not_both_whole : HasItsSpans asked lines (record (first 2010) { settled = record (first 2010).settled { others = others_of asked lines } }) → ⊥
not_both_whole has = let end : 2030 ≡ 2010 = ap last_end has.are in omega (arith, end)
  where
    last_end : List Span → ℕ
    last_end [] = 0
    last_end (span ∷ []) = span.to
    last_end (span ∷ next ∷ spans) = last_end (next ∷ spans)
