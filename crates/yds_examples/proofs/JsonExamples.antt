-- The report as JSON, tried on the plan of three nested jobs.
use Rattle.yds_model.proofs.Common.{◌≡◌, [], ◌∷◌, refl, ap, arith, codes, slice_index_or, digits, level_json, report_json, Answers}
use Rattle.base.specs.declared.status.Status.TheVariants.{Done}
use Rattle.yds_examples.proofs.PlanRowExamples.{possible}
use Rattle.yds_examples.proofs.ThreeJobs.{jobs, slots, levels, level_b, plan}

-- The speed of a level is a string, in lowest terms.
second_level : level_json level_b ≡ codes "{\"length\":6,\"speed\":\"1+1/3\",\"work\":8}"
unfolding digits
second_level = refl

-- This is the answer of `report --json` to the three jobs.
answer : Answers (codes "report" ∷ codes "--json" ∷ []) (codes "job a 0 12 4\njob b 2 10 8\njob c 4 6 6\n")
    (codes "{\"from\":0,\"idle\":0,\"jobs\":3,\"levels\":[{\"length\":2,\"speed\":\"3\",\"work\":6},{\"length\":6,\"speed\":\"1+1/3\",\"work\":8},{\"length\":4,\"speed\":\"1\",\"work\":4}],\"to\":12,\"work\":18}\n") Done
unfolding digits
answer = record { slots = slots; levels = levels; plan = plan; fit = possible.levels.fit; said = refl; ended = refl }

-- Of one level alone: the rest of the horizon is idle.
idle : report_json jobs (level_b ∷ []) ≡ codes "{\"from\":0,\"idle\":6,\"jobs\":3,\"levels\":[{\"length\":6,\"speed\":\"1+1/3\",\"work\":8}],\"to\":12,\"work\":18}\n"
unfolding digits
idle = refl

-- Without jobs there are no levels.
nothing : report_json [] [] ≡ codes "{\"from\":0,\"idle\":0,\"jobs\":0,\"levels\":[],\"to\":0,\"work\":0}\n"
unfolding digits
nothing = refl

-- The same level with its keys in another order is another text,
other_order : level_json level_b ≡ codes "{\"work\":8,\"length\":6,\"speed\":\"1+1/3\"}" → ⊥
unfolding digits
other_order same = absurd (omega (arith, ap (λ text. slice_index_or text 2 0) same))

-- and so is one with a space.
with_space : level_json level_b ≡ codes "{\"length\": 6,\"speed\":\"1+1/3\",\"work\":8}" → ⊥
unfolding digits
with_space same = absurd (omega (arith, ap (λ text. slice_index_or text 10 0) same))
