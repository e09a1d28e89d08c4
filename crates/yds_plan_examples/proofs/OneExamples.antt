-- That jobs have at most one plan, tried on two jobs of one window: what isn't the plan, and what `plan` doesn't answer.
use Rattle.yds_model.proofs.Common.{IsOptimalAvailableRun, All-append, IsSolid, ◌≡◌, ℕ, List, [], ◌∷◌, ◌++◌, length, refl, ap, arith, codes, digits, of_whole, WrittenSlot, slot_at, Level, IsPlan, Document, no_document, canonical_text, with_plan, Answers}
use Rattle.base.specs.declared.status.Status.TheVariants.{Done}
use Rattle.model_lemmas.proofs.Scale.{scale_exists}
use Rattle.yds_texts.proofs.Within.{read_is_within_limits}
use Rattle.yds_plan_laws.proofs.OneCertificate.{levels_are_one}
use Rattle.yds_plan_laws.proofs.OnePlan.{slots_are_one}
use Rattle.yds_plan_laws.proofs.Once.{plans_answer_once}
use Rattle.yds_plan_laws.proofs.OneRun.{runs_are_one}
use Rattle.yds_plan_laws.proofs.OnceAdmitted.{runs_answer_once}
use Rattle.yds_examples.proofs.Policies.{available_jobs, fine_slots, fine_accepted}
use Rattle.yds_examples.proofs.ComparisonExamples.{answer as compare_answer}
use Rattle.yds_examples.proofs.Tests.{proved, refuted, test_numbers}
use Rattle.yds_examples.proofs.TestedSchedules.{is_scale}
use Rattle.yds_plan_examples.proofs.LeastExamples.{jobs, planned, levels, halves, plan}

-- The plan's level is the only one: levels for each of the jobs are no plan's,
no_halves : (slots : List WrittenSlot) → IsPlan jobs slots halves → ⊥
no_halves slots other = absurd (let two = levels_are_one jobs planned slots levels halves plan other in omega (arith, ap length two))

-- and neither are slots that begin with the second job, whatever the levels are.
abbrev second_first : List WrittenSlot
second_first = record { job = 1; from = of_whole 0; to = of_whole 2; work = of_whole 2 } ∷ record { job = 0; from = of_whole 2; to = of_whole 4; work = of_whole 2 } ∷ []

no_exchange : (more : List Level) → IsPlan jobs second_first more → ⊥
no_exchange more other =
    let same = slots_are_one jobs planned second_first levels more 1 plan other (proved (is_scale 1 (planned ++ second_first)) refl) in
    absurd (omega (arith, ap (λ slots. (slot_at slots 0).job) same))

-- # The answer

abbrev input : List ℕ
input = codes "job a 0 4 2\njob b 0 4 2\n"

abbrev text : List ℕ
text = codes "job a 0 4 2\njob b 0 4 2\nslot a 0 2 2\nslot b 2 4 2\nlevel 4 4\npiece 0 4\nmember a\nmember b\n"

abbrev document : Document
document = record no_document { names = codes "a" ∷ codes "b" ∷ []; jobs = jobs }

written : text ≡ canonical_text (with_plan document planned levels)
unfolding digits
written = refl

answer : Answers (codes "plan" ∷ []) input text Done
answer = record { slots = planned; levels = levels; plan = plan; said = record { possible = read_is_within_limits text (with_plan document planned levels) refl; written = written }; ended = refl }

-- A schedule that is as good is another text, so `plan` doesn't answer it.
abbrev exchanged_text : List ℕ
exchanged_text = codes "job a 0 4 2\njob b 0 4 2\nslot b 0 2 2\nslot a 2 4 2\nlevel 4 4\npiece 0 4\nmember a\nmember b\n"

not_exchanged : Answers (codes "plan" ∷ []) input exchanged_text Done → ⊥
not_exchanged other = refuted (test_numbers text exchanged_text) refl (plans_answer_once.plan input text exchanged_text Done Done answer other).0

-- # Runs

-- The run of Optimal Available for two jobs on the grid 6 rounded nowhere, so no run of theirs there rounded once,
not_rounded : (slots : List WrittenSlot) → IsOptimalAvailableRun available_jobs 6 1 slots → ⊥
not_rounded slots other =
    let scale = scale_exists (fine_slots ++ slots) (All-append IsSolid fine_slots slots fine_accepted.run.solid other.run.solid) in
    absurd (let same = (runs_are_one.optimal_available available_jobs 6 0 1 scale.0 fine_slots slots fine_accepted other scale.1).0 in omega (arith, same))

-- and `compare` tells nothing else of it, such as less energy for Average Rate.
abbrev compare_input : List ℕ
compare_input = codes "job a 0 3 2\njob b 1 2 1\npoint 0 0\npoint 1 1\npoint 2 3\n"

abbrev told : List ℕ
told = codes "plan energy 3\nplan time 0 0\nplan time 1 3\nplan time 2 0\navr energy 3+2/3\navr time 0 0+2/3\navr time 1 1+2/3\navr time 2 0+2/3\navr rounded 0\noa energy 3+1/3\noa time 0 0+1/3\noa time 1 2+1/3\noa time 2 0+1/3\noa rounded 0\n"

abbrev less : List ℕ
less = codes "plan energy 3\nplan time 0 0\nplan time 1 3\nplan time 2 0\navr energy 3+1/3\navr time 0 0+2/3\navr time 1 1+2/3\navr time 2 0+2/3\navr rounded 0\noa energy 3+1/3\noa time 0 0+1/3\noa time 1 2+1/3\noa time 2 0+1/3\noa rounded 0\n"

not_less : Answers (codes "compare" ∷ codes "--grid" ∷ codes "6" ∷ []) compare_input less Done → ⊥
not_less other =
    refuted (test_numbers told less) refl
    (runs_answer_once.compare (codes "compare" ∷ codes "--grid" ∷ codes "6" ∷ []) 6 refl compare_input told less Done Done compare_answer other).0
