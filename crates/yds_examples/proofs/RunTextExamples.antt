-- What the texts of `avr` and `oa` are worth, tried on runs that never round, and on one that does and says that it doesn't.
use Rattle.yds_model.proofs.Common.{◌≡◌, ℕ, zero, suc, ◌-◌, ◌*◌, ◌≤◌, List, [], ◌∷◌, length, Ok, refl, sym, subst, arith, inl, inr, codes, MatchOption, Any, digits, Job, WrittenSlot, slots_at, IsFeasible, canonical_text, Piece, Document, no_document, reading, IsAverageRateRun, due_units, IsOptimalAvailableRun}
use Rattle.base.specs.declared.limits.TheConstants.{MAX_INPUT}
use Rattle.yds_laws.specs.RunLaws.{IsExactAverageRate, IsExactOptimalAvailable}
use Rattle.yds_laws.proofs.ExactRuns.{optimal_available_is_exact}
use Rattle.yds_texts.specs.RunText.{with_run, ReadRun, HoldsAverageRate, HoldsOptimalAvailable}
use Rattle.yds_examples.proofs.TestedSchedules.{feasible_by_test}
use Rattle.yds_examples.proofs.Policies.{rate_jobs, rate_slots, rate_thirds, rate_accepted, rate_refused, capped, whole_slots, whole_accepted, whole_terms, available_jobs, available_slots, available_whole, available_refused, fine_slots, fine_accepted}

-- what a text holds of a run
held : {IsRun : List Job → ℕ → ℕ → List WrittenSlot → Type 0} {IsExact : List Job → ℕ → List WrittenSlot → Type 0} {grid : ℕ} {input text : List ℕ} (document : Document)
    (slots : List WrittenSlot) (rounded : ℕ) → reading input ≡ Ok document → text ≡ canonical_text (with_run document slots grid rounded) → length text ≤ MAX_INPUT →
    reading text ≡ Ok (with_run document slots grid rounded) → IsRun document.jobs grid rounded slots → IsFeasible document.jobs slots →
    (rounded ≡ 0 → IsExact document.jobs grid slots) → ReadRun IsRun IsExact grid input text
held document slots rounded read written short again run feasible exact =
    record { document = document; slots = slots; rounded = rounded; read = read; written = written; short = short; read_again = again; run = run; feasible = feasible; exact = exact }

-- # Average Rate

-- a from 0 to 3 with work 2, and b from 1 to 3 with work 2
abbrev rate_input : List ℕ
rate_input = codes "job a 0 3 2\njob b 1 3 2\n"

abbrev rate_document : Document
rate_document = record no_document { names = codes "a" ∷ codes "b" ∷ []; jobs = rate_jobs }

-- their run on the grid 3 rounds nowhere
abbrev whole_text : List ℕ
whole_text = codes "job a 0 3 2\njob b 1 3 2\nslot a 0 1 0+2/3\nslot a 1 1+4/5 1+1/3\nslot b 1+4/5 3 2\ngrid 3 0\n"

-- so its text holds the run, and that it is Average Rate's own.
whole_holds : HoldsAverageRate 3 rate_input whole_text
unfolding digits
whole_holds = held rate_document whole_slots 0 refl refl (omega arith) refl whole_accepted (feasible_by_test rate_jobs whole_slots 15 refl refl) (λ none. whole_terms)

-- On the grid 1 it rounds at both event points. The text says so,
abbrev rate_text : List ℕ
rate_text = codes "job a 0 3 2\njob b 1 3 2\nslot a 0 1 1\nslot a 1 1+2/3 1\nslot b 1+2/3 3 2\ngrid 1 2\n"

-- and so it isn't said that it is exact,
rate_holds : HoldsAverageRate 1 rate_input rate_text
unfolding digits
rate_holds = held rate_document rate_slots 2 refl refl (omega arith) refl rate_accepted (feasible_by_test rate_jobs rate_slots 3 refl refl) (λ none. absurd (omega (arith, none)))

-- which it isn't.
rate_not_exact : IsExactAverageRate rate_jobs 1 rate_slots → ⊥
rate_not_exact exact = capped (exact.holds 3 rate_thirds 1 (record { from = 0; to = 0 }) (omega arith))

-- The same with the count 0
abbrev uncounted_text : List ℕ
uncounted_text = codes "job a 0 3 2\njob b 1 3 2\nslot a 0 1 1\nslot a 1 1+2/3 1\nslot b 1+2/3 3 2\ngrid 1 0\n"

uncounted_read : reading uncounted_text ≡ Ok (with_run rate_document rate_slots 1 0)
uncounted_read = refl

-- what a document's grid says of its slots
abbrev TellsItsRun : Document → Type 0
TellsItsRun document = MatchOption document.grid (Unit {0}) (λ grid. IsAverageRateRun document.jobs grid.grid grid.rounded document.slots)

-- is refused.
uncounted_refused : HoldsAverageRate 1 rate_input uncounted_text → ⊥
uncounted_refused holds = grind (arith, rate_refused, rate_slots, uncounted_read)

-- # Optimal Available

-- a from 0 to 3 with work 2, and b from 1 to 2 with work 1
abbrev available_input : List ℕ
available_input = codes "job a 0 3 2\njob b 1 2 1\n"

abbrev available_document : Document
available_document = record no_document { names = codes "a" ∷ codes "b" ∷ []; jobs = available_jobs }

-- their run on the grid 6 rounds nowhere
abbrev fine_text : List ℕ
fine_text = codes "job a 0 3 2\njob b 1 2 1\nslot a 0 1 0+4/6\nslot b 1 1+6/7 1\nslot a 1+6/7 2 0+1/6\nslot a 2 3 1+1/6\ngrid 6 0\n"

-- so each stretch has the greatest speed that a deadline asks,
fine_exact : IsExactOptimalAvailable available_jobs 6 fine_slots
fine_exact = optimal_available_is_exact available_jobs 6 fine_slots (omega arith) fine_accepted

-- and its text holds the run, and that it is Optimal Available's own.
fine_holds : HoldsOptimalAvailable 6 available_input fine_text
unfolding digits
fine_holds = held available_document fine_slots 0 refl refl (omega arith) refl fine_accepted (feasible_by_test available_jobs fine_slots 42 refl refl) (λ none. fine_exact)

-- On the grid 1 it rounds at 0, where 2 units are due by 3, so two thirds of one until 1. It serves 1,
abbrev first_stretch : Piece
first_stretch = record { from = 0; to = 1 }

-- which no deadline asks,
abbrev AsksTheUnit : ℕ → Type 0
AsksTheUnit deadline = due_units available_jobs 1 1 (slots_at 1 available_slots) first_stretch deadline * 1 ≡ 1 * (1 * (deadline - 0))

nothing_asks : Any AsksTheUnit (3 ∷ []) → ⊥
nothing_asks (zero, deadline, within, is, asks) =
    let thirds : 2 ≡ 3 = subst AsksTheUnit (sym is) asks in absurd (omega (arith, thirds))
nothing_asks (suc i, deadline, within, is, asks) = absurd (omega (arith, within))

-- so it isn't exact.
available_not_exact : IsExactOptimalAvailable available_jobs 1 available_slots → ⊥
available_not_exact exact = elim (exact.holds 1 available_whole 0 (record { from = 0; to = 0 }) (omega arith)).attained [
  | inl none ↦ absurd (omega (arith, none))
  | inr some ↦ nothing_asks some
]

-- Its text with the count 0
abbrev unrounded_text : List ℕ
unrounded_text = codes "job a 0 3 2\njob b 1 2 1\nslot a 0 1 1\nslot b 1 2 1\nslot a 2 3 1\ngrid 1 0\n"

unrounded_read : reading unrounded_text ≡ Ok (with_run available_document available_slots 1 0)
unrounded_read = refl

-- what a document's grid says of its slots
abbrev TellsItsAvailable : Document → Type 0
TellsItsAvailable document = MatchOption document.grid (Unit {0}) (λ grid. IsOptimalAvailableRun document.jobs grid.grid grid.rounded document.slots)

-- is refused.
unrounded_refused : HoldsOptimalAvailable 1 available_input unrounded_text → ⊥
unrounded_refused holds = grind (arith, available_refused, available_slots, unrounded_read)
