-- The laws of rounding at the two nested jobs: what they say of the rounded plan and of the answer of `round`, and what they rule out.
use Rattle.yds_model.proofs.Common.{◌≡◌, ℕ, List, [], ◌∷◌, Ok, refl, ap, subst, ◌∙◌, arith, inl, inr, codes, MatchOption, digits, Job, of_whole, WholeSlot, IsPlan, Point, IsTable, top_of, IsEnergyOf, CanServe, Document, no_document, canonical_text, reading, IsDocument, Answers}
use Rattle.base.specs.declared.status.Status.TheVariants.{Done, No}
use Rattle.yds_energy.specs.RoundingLaws.{IsFeasibleOnPoints, IsLeastEnergy}
use Rattle.yds_texts.specs.RoundText.{with_energy, HoldsLeastEnergy, too_slow_line, HoldsTooSlow}
use Rattle.yds_laws.proofs.Plans.{plans_have_the_same_levels}
use Rattle.yds_energy.proofs.OneEnergy.{energy_is_one}
use Rattle.yds_texts.proofs.Within.{read_is_within_limits}
use Rattle.yds_examples.proofs.Tests.{proved, refuted, test_numbers}
use Rattle.yds_examples.proofs.TestedPlans.{served_by_test, plan_by_test}
use Rattle.yds_examples.proofs.TestedRounding.{slow_enough, can_serve}
use Rattle.yds_energy.proofs.RoundedOnPoints.{rounded_is_feasible}
use Rattle.yds_energy.proofs.RoundedCheapest.{rounded_is_cheapest}
use Rattle.yds_energy.proofs.TooSlow.{too_slow_is_exact}
use Rattle.yds_texts.proofs.RoundText.{rounded_holds_least_energy, rounded_is_audited, refused_is_too_slow}
use Rattle.yds_examples.proofs.RoundNestedExamples.{jobs, point, points, planned, levels, level_a, level_b, written, planned_proper, written_feasible, rising, energy, rounding}

-- # The rounded plan

-- the levels and slots are a plan
plan : IsPlan jobs planned levels
plan = plan_by_test jobs planned levels planned_proper (served_by_test jobs planned 1 refl refl) refl

-- and the points a table
table : IsTable points
table = record { some = omega arith; idle = refl; rising = rising }

-- So the rounded slots are feasible, each at a point's speed,
on_points : IsFeasibleOnPoints jobs points written
on_points = rounded_is_feasible jobs points planned levels written (of_whole 25) plan table rounding

-- and no feasible schedule on the points spends less than 25.
least : IsLeastEnergy jobs points (of_whole 25)
least = rounded_is_cheapest jobs points planned levels written (of_whole 25) plan table rounding

-- 26 isn't the least energy: these slots spend less.
not_least : IsLeastEnergy jobs points (of_whole 26) → ⊥
not_least is = absurd (omega (arith, is.of_written written (of_whole 25) written_feasible energy))

-- # Too slow

-- the points up to the speed 2, and those with the point 3 in place of 4
abbrev slow : List Point
slow = point 0 0 ∷ point 1 1 ∷ point 2 3 ∷ []

-- b's level has just the top speed
abbrev enough : List Point
enough = point 0 0 ∷ point 1 1 ∷ point 3 6 ∷ []

-- At or below 2 no feasible schedule stays, since the first level is faster,
unserved : CanServe 2 jobs → ⊥
unserved = (too_slow_is_exact.first jobs slow planned level_b (level_a ∷ []) plan).0 (omega arith)

-- and at or below 3 one does.
served : CanServe 3 jobs
served = (too_slow_is_exact.none jobs enough planned levels plan).0 (proved (slow_enough enough levels) refl)

-- # The answer of `round`

-- the two jobs and the points
abbrev input : List ℕ
input = codes "job a 0 10 10\njob b 4 6 6\npoint 0 0\npoint 1 1\npoint 2 3\npoint 4 10\n"

-- the document without slots
abbrev document : Document
document = record no_document { names = codes "a" ∷ codes "b" ∷ []; jobs = jobs; points = points }

-- the same with the rounded slots
abbrev text : List ℕ
text = codes "job a 0 10 10\njob b 4 6 6\npoint 0 0\npoint 1 1\npoint 2 3\npoint 4 10\nslot a 0 1 2\nslot a 1 4 3\nslot b 4 5 4\nslot b 5 6 2\nslot a 6 7 2\nslot a 7 10 3\nenergy 25\n"

-- it is a possible document
possible : IsDocument (with_energy document written (of_whole 25))
possible = read_is_within_limits text (with_energy document written (of_whole 25)) refl

-- and its canonical text
its_text : text ≡ canonical_text (with_energy document written (of_whole 25))
unfolding digits
its_text = refl

-- So `round` may answer it,
answer : Answers (codes "round" ∷ []) input text Done
answer = inr record {
  planned = planned;
  levels = levels;
  plan = plan;
  slots = written;
  energy = of_whole 25;
  rounded = rounding;
  said = record { possible = possible; written = its_text };
  ended = refl;
}

-- it holds the least energy,
holds : HoldsLeastEnergy input text
holds = rounded_holds_least_energy input text answer

-- and `audit --points` answers it with 'feasible'.
audited : Answers (codes "audit" ∷ codes "--points" ∷ []) text (codes "feasible\n") Done
audited = rounded_is_audited.on_points input text answer

-- The same slots with the energy 24 are no answer: they spend 25.
abbrev cheaper : List ℕ
cheaper = codes "job a 0 10 10\njob b 4 6 6\npoint 0 0\npoint 1 1\npoint 2 3\npoint 4 10\nslot a 0 1 2\nslot a 1 4 3\nslot b 4 5 4\nslot b 5 6 2\nslot a 6 7 2\nslot a 7 10 3\nenergy 24\n"

-- it is read as a document with that energy
cheaper_read : reading cheaper ≡ Ok (with_energy document written (of_whole 24))
cheaper_read = refl

-- what a document's slots spend is its energy
abbrev SpendsItsEnergy : Document → Type 0
SpendsItsEnergy document = MatchOption document.energy (Unit {0}) (IsEnergyOf document.jobs document.points document.slots)

-- and that would be 25 and 24
not_cheaper : Answers (codes "round" ∷ []) input cheaper Done → ⊥
not_cheaper answers =
    let holds = rounded_holds_least_energy input cheaper answers in
    let same : with_energy holds.0 holds.1 holds.2 ≡ with_energy document written (of_whole 24) = cc (cheaper_read, holds.3.read_again) in
    let spent : IsEnergyOf jobs points written (of_whole 24) = subst SpendsItsEnergy same holds.3.spent in
    absurd (omega (arith, energy_is_one jobs points written (of_whole 25) (of_whole 24) rising written_feasible energy spent))

-- # Where `round` says no

-- the two jobs and the points up to the speed 2
abbrev slow_input : List ℕ
slow_input = codes "job a 0 10 10\njob b 4 6 6\npoint 0 0\npoint 1 1\npoint 2 3\n"

abbrev slow_document : Document
slow_document = record no_document { names = codes "a" ∷ codes "b" ∷ []; jobs = jobs; points = slow }

slow_read : reading slow_input ≡ Ok slow_document
slow_read = refl

-- `round` may tell b's level, which is a plan's first,
slow_answer : Answers (codes "round" ∷ []) slow_input (codes "too-slow work 6 length 2 top 2\n") No
unfolding digits
slow_answer = inl record { slots = planned; level = level_b; others = level_a ∷ []; plan = plan; too_fast = omega arith; said = refl; ended = refl }

-- so that is what the text is worth.
too_slow : HoldsTooSlow slow_input (codes "too-slow work 6 length 2 top 2\n")
too_slow = refused_is_too_slow slow_input (codes "too-slow work 6 length 2 top 2\n") slow_answer

-- each text that is worth so much has the work and length of that level, since all plans have them
its_level : (line : List ℕ) → HoldsTooSlow slow_input line → line ≡ too_slow_line level_b 2
its_level line (whole, slots, others, is) =
    let same : whole ≡ slow_document = cc (slow_read, is.read) in
    let told : IsPlan jobs slots others = subst (λ (one : Document). IsPlan one.jobs slots others) same is.plan in
    let first = (plans_have_the_same_levels jobs planned slots levels others plan told).1 0 (omega arith) in
    let top : top_of whole.points ≡ 2 = ap (λ (one : Document). top_of one.points) same in
    is.written ∙ cc (first.0, first.1, top)

-- Of work 1 and length 0 there is no level, fast as it would be.
no_such_level : HoldsTooSlow slow_input (codes "too-slow work 1 length 0 top 2\n") → ⊥
unfolding digits
no_such_level holds =
    let same = its_level (codes "too-slow work 1 length 0 top 2\n") holds in
    refuted (test_numbers (codes "too-slow work 1 length 0 top 2\n") (codes "too-slow work 6 length 2 top 2\n")) refl same

-- Other jobs: a from 0 to 3 of work 2, and b from 1 to 2 of work 1
abbrev light_jobs : List Job
light_jobs = record { release = 0; deadline = 3; work = 2 } ∷ record { release = 1; deadline = 2; work = 1 } ∷ []

abbrev light_slots : List WholeSlot
light_slots = record { job = 0; from = 0; to = 1; work = 1 } ∷ record { job = 1; from = 1; to = 2; work = 1 } ∷ record { job = 0; from = 2; to = 3; work = 1 } ∷ []

-- a processor that is nowhere faster than 2 serves them,
light_served : CanServe 2 light_jobs
light_served = can_serve 2 light_jobs light_slots refl refl

-- with the same points
abbrev light_input : List ℕ
light_input = codes "job a 0 3 2\njob b 1 2 1\npoint 0 0\npoint 1 1\npoint 2 3\n"

abbrev light_document : Document
light_document = record no_document { names = codes "a" ∷ codes "b" ∷ []; jobs = light_jobs; points = slow }

light_read : reading light_input ≡ Ok light_document
light_read = refl

-- so of these no text is worth that the points are too slow.
never_too_slow : (line : List ℕ) → HoldsTooSlow light_input line → ⊥
never_too_slow line (whole, slots, others, is) =
    let same : light_document ≡ whole = cc (light_read, is.read) in
    is.unserved (subst (λ (one : Document). CanServe (top_of one.points) one.jobs) same light_served)
