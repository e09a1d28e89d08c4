-- 34 jobs that are all due at 283,193, by which both policies spend more than 3 times what a feasible schedule does, where power is the
-- speed's square. Most jobs have some 1.35 to 1.6 times less time left than the one released before them.
use Rattle.yds_model.proofs.Common.{ℕ, ◌*◌, List, [], ◌∷◌, refl, arith, Job, of_whole, of_parts, IsSameQuotient, WrittenSlot, IsScale, slots_at, IsFeasible, IsRunAt, average_rate, IsAverageRateRun, optimal_available, IsOptimalAvailableRun}
use Rattle.yds_energy.proofs.Finer.{each_scale_of}
use Rattle.yds_energy.proofs.RunScale.{average_rate_run_free, optimal_available_run_free, optimal_available_rounds_free}
use Rattle.yds_ratios.specs.SpendingByPower.{spending, SpendsAtMost}
use Rattle.yds_ratios.proofs.OptimalAvailableSpends.{optimal_available_spends}
use Rattle.yds_examples.proofs.Tests.{proved}
use Rattle.yds_examples.proofs.TestedSchedules.{is_scale, run_at, feasible_by_test}
use Rattle.yds_ratio_examples.proofs.Spendings.{job, slot, more_by_test}

-- the jobs
abbrev pub jobs : List Job
jobs =
    job 0 283193 566386 ∷ job 155513 283193 383040 ∷ job 210806 283193 289548 ∷ job 237768 283193 181700 ∷ job 250642 283193 195306
    ∷ job 260839 283193 156478 ∷ job 267104 283193 144801 ∷ job 271650 283193 126973 ∷ job 274827 283193 108758 ∷ job 277043 283193 98400
    ∷ job 278694 283193 85481 ∷ job 279885 283193 76084 ∷ job 280762 283193 65637 ∷ job 281394 283193 57568 ∷ job 281860 283193 50654
    ∷ job 282206 283193 43428 ∷ job 282458 283193 38220 ∷ job 282647 283193 33852 ∷ job 282790 283193 29016 ∷ job 282895 283193 25330
    ∷ job 282974 283193 22119 ∷ job 283033 283193 18240 ∷ job 283075 283193 15576 ∷ job 283106 283193 13224 ∷ job 283129 283193 11264
    ∷ job 283146 283193 9823 ∷ job 283159 283193 7786 ∷ job 283168 283193 5875 ∷ job 283174 283193 5472 ∷ job 283179 283193 4900
    ∷ job 283183 283193 4150 ∷ job 283186 283193 3115 ∷ job 283188 283193 3260 ∷ job 283190 283193 5997 ∷ []

-- both policies' run, at whole speeds from 2 to 6,026
abbrev pub run : List WrittenSlot
run =
    slot 0 (of_whole 0) (of_whole 155513) (of_whole 311026) ∷ slot 0 (of_whole 155513) (of_whole 206585) (of_whole 255360)
    ∷ slot 1 (of_whole 206585) (of_whole 210806) (of_whole 21105) ∷ slot 1 (of_whole 210806) (of_whole 237768) (of_whole 242658)
    ∷ slot 1 (of_whole 237768) (of_parts 3210261 13) (of_whole 119277) ∷ slot 2 (of_parts 3210261 13) (of_whole 250642) (of_whole 48085)
    ∷ slot 2 (of_whole 250642) (of_whole 260839) (of_whole 193743) ∷ slot 2 (of_whole 260839) (of_parts 3414767 13) (of_whole 47720)
    ∷ slot 3 (of_parts 3414767 13) (of_whole 267104) (of_whole 115170) ∷ slot 3 (of_whole 267104) (of_parts 1883034 7) (of_whole 66530)
    ∷ slot 4 (of_parts 1883034 7) (of_whole 271650) (of_whole 92580) ∷ slot 4 (of_whole 271650) (of_parts 6299313 23) (of_whole 102726)
    ∷ slot 5 (of_parts 6299313 23) (of_whole 274827) (of_whole 43416) ∷ slot 5 (of_whole 274827) (of_parts 16327855 59) (of_whole 113062)
    ∷ slot 6 (of_parts 16327855 59) (of_whole 277043) (of_whole 17682) ∷ slot 6 (of_whole 277043) (of_whole 278694) (of_whole 123825)
    ∷ slot 6 (of_whole 278694) (of_parts 13100265 47) (of_whole 3294) ∷ slot 7 (of_parts 13100265 47) (of_whole 279885) (of_whole 108660)
    ∷ slot 7 (of_whole 279885) (of_parts 32764858 117) (of_whole 18313) ∷ slot 8 (of_parts 32764858 117) (of_whole 280762) (of_whole 84296)
    ∷ slot 8 (of_whole 280762) (of_parts 2247455 8) (of_whole 24462) ∷ slot 9 (of_parts 2247455 8) (of_whole 281394) (of_whole 66546)
    ∷ slot 9 (of_whole 281394) (of_parts 24778599 88) (of_whole 31854) ∷ slot 10 (of_parts 24778599 88) (of_whole 281860) (of_whole 50162)
    ∷ slot 10 (of_whole 281860) (of_parts 60353359 214) (of_whole 35319) ∷ slot 11 (of_parts 60353359 214) (of_whole 282206) (of_whole 38725)
    ∷ slot 11 (of_whole 282206) (of_parts 24282169 86) (of_whole 37359) ∷ slot 12 (of_parts 24282169 86) (of_whole 282458) (of_whole 27657)
    ∷ slot 12 (of_whole 282458) (of_parts 8759996 31) (of_whole 37980) ∷ slot 13 (of_parts 8759996 31) (of_whole 282647) (of_whole 20610)
    ∷ slot 13 (of_whole 282647) (of_parts 52590821 186) (of_whole 36958) ∷ slot 14 (of_parts 52590821 186) (of_whole 282790) (of_whole 16238)
    ∷ slot 14 (of_whole 282790) (of_parts 10466098 37) (of_whole 34416) ∷ slot 15 (of_parts 10466098 37) (of_whole 282895) (of_whole 12204)
    ∷ slot 15 (of_whole 282895) (of_parts 149682679 529) (of_whole 31224) ∷ slot 16 (of_parts 149682679 529) (of_whole 282974) (of_whole 10567)
    ∷ slot 16 (of_whole 282974) (of_parts 178301273 630) (of_whole 27653) ∷ slot 17 (of_parts 178301273 630) (of_whole 283033) (of_whole 9517)
    ∷ slot 17 (of_whole 283033) (of_parts 6793577 24) (of_whole 24335) ∷ slot 18 (of_parts 6793577 24) (of_whole 283075) (of_whole 6913)
    ∷ slot 18 (of_whole 283075) (of_parts 247995803 876) (of_whole 22103) ∷ slot 19 (of_parts 247995803 876) (of_whole 283106) (of_whole 5053)
    ∷ slot 19 (of_whole 283106) (of_parts 291053245 1028) (of_whole 20277) ∷ slot 20 (of_parts 291053245 1028) (of_whole 283129) (of_whole 3367)
    ∷ slot 20 (of_whole 283129) (of_parts 85226517 301) (of_whole 18752) ∷ slot 21 (of_parts 85226517 301) (of_whole 283146) (of_whole 1716)
    ∷ slot 21 (of_whole 283146) (of_parts 44455758 157) (of_whole 16524) ∷ slot 22 (of_parts 44455758 157) (of_whole 283159) (of_whole 1845)
    ∷ slot 22 (of_whole 283159) (of_parts 464960809 1642) (of_whole 13731) ∷ slot 23 (of_parts 464960809 1642) (of_whole 283168) (of_whole 1047)
    ∷ slot 23 (of_whole 283168) (of_whole 283174) (of_whole 11262) ∷ slot 23 (of_whole 283174) (of_parts 122614525 433) (of_whole 915)
    ∷ slot 24 (of_parts 122614525 433) (of_whole 283179) (of_whole 9910) ∷ slot 24 (of_whole 283179) (of_parts 712196539 2515) (of_whole 1354)
    ∷ slot 25 (of_parts 712196539 2515) (of_whole 283183) (of_whole 8706) ∷ slot 25 (of_whole 283183) (of_parts 829727307 2930) (of_whole 1117)
    ∷ slot 26 (of_parts 829727307 2930) (of_whole 283186) (of_whole 7673) ∷ slot 26 (of_whole 283186) (of_parts 955752863 3375) (of_whole 113)
    ∷ slot 27 (of_parts 955752863 3375) (of_parts 318586246 1125) (of_whole 5875)
    ∷ slot 28 (of_parts 318586246 1125) (of_whole 283188) (of_whole 762) ∷ slot 28 (of_whole 283188) (of_parts 1140402786 4027) (of_whole 4710)
    ∷ slot 29 (of_parts 1140402786 4027) (of_whole 283190) (of_whole 3344) ∷ slot 29 (of_whole 283190) (of_parts 853252248 3013) (of_whole 1556)
    ∷ slot 30 (of_parts 853252248 3013) (of_parts 853254323 3013) (of_whole 4150)
    ∷ slot 31 (of_parts 853254323 3013) (of_parts 1706511761 6026) (of_whole 3115)
    ∷ slot 32 (of_parts 1706511761 6026) (of_parts 1706515021 6026) (of_whole 3260)
    ∷ slot 33 (of_parts 1706515021 6026) (of_whole 283193) (of_whole 5997) ∷ []

-- a common multiple of their denominators
abbrev pub scale : ℕ
scale = 17033121896223366067059980993178932410719000

-- is a scale of them
run_scale : IsScale scale run
run_scale = proved (is_scale scale run) refl

-- at that scale they are a run of Average Rate
rate_at_scale : IsRunAt jobs 1 scale (average_rate jobs 1 scale (slots_at scale run)) (slots_at scale run)
rate_at_scale = proved (run_at jobs 1 scale (average_rate jobs 1 scale (slots_at scale run)) (slots_at scale run)) refl

-- so they are at each, and it never rounded
pub rate_run : IsAverageRateRun jobs 1 0 run
rate_run = record { run = each_scale_of _ (average_rate_run_free jobs 1) run scale run_scale rate_at_scale; rounds = refl }

-- They are one of Optimal Available, too,
available_at_scale : IsRunAt jobs 1 scale (optimal_available jobs 1 scale (slots_at scale run)) (slots_at scale run)
available_at_scale = proved (run_at jobs 1 scale (optimal_available jobs 1 scale (slots_at scale run)) (slots_at scale run)) refl

-- at each scale, and it never rounded.
pub available_run : IsOptimalAvailableRun jobs 1 0 run
available_run = record {
  run = each_scale_of _ (optimal_available_run_free jobs 1) run scale run_scale available_at_scale;
  rounds = each_scale_of _ (optimal_available_rounds_free jobs 1 0) run scale run_scale refl;
}

-- each job in a time of its own, up to the next release
abbrev pub others : List WrittenSlot
others =
    slot 0 (of_whole 0) (of_whole 155513) (of_whole 566386) ∷ slot 1 (of_whole 155513) (of_whole 210806) (of_whole 383040)
    ∷ slot 2 (of_whole 210806) (of_whole 237768) (of_whole 289548) ∷ slot 3 (of_whole 237768) (of_whole 250642) (of_whole 181700)
    ∷ slot 4 (of_whole 250642) (of_whole 260839) (of_whole 195306) ∷ slot 5 (of_whole 260839) (of_whole 267104) (of_whole 156478)
    ∷ slot 6 (of_whole 267104) (of_whole 271650) (of_whole 144801) ∷ slot 7 (of_whole 271650) (of_whole 274827) (of_whole 126973)
    ∷ slot 8 (of_whole 274827) (of_whole 277043) (of_whole 108758) ∷ slot 9 (of_whole 277043) (of_whole 278694) (of_whole 98400)
    ∷ slot 10 (of_whole 278694) (of_whole 279885) (of_whole 85481) ∷ slot 11 (of_whole 279885) (of_whole 280762) (of_whole 76084)
    ∷ slot 12 (of_whole 280762) (of_whole 281394) (of_whole 65637) ∷ slot 13 (of_whole 281394) (of_whole 281860) (of_whole 57568)
    ∷ slot 14 (of_whole 281860) (of_whole 282206) (of_whole 50654) ∷ slot 15 (of_whole 282206) (of_whole 282458) (of_whole 43428)
    ∷ slot 16 (of_whole 282458) (of_whole 282647) (of_whole 38220) ∷ slot 17 (of_whole 282647) (of_whole 282790) (of_whole 33852)
    ∷ slot 18 (of_whole 282790) (of_whole 282895) (of_whole 29016) ∷ slot 19 (of_whole 282895) (of_whole 282974) (of_whole 25330)
    ∷ slot 20 (of_whole 282974) (of_whole 283033) (of_whole 22119) ∷ slot 21 (of_whole 283033) (of_whole 283075) (of_whole 18240)
    ∷ slot 22 (of_whole 283075) (of_whole 283106) (of_whole 15576) ∷ slot 23 (of_whole 283106) (of_whole 283129) (of_whole 13224)
    ∷ slot 24 (of_whole 283129) (of_whole 283146) (of_whole 11264) ∷ slot 25 (of_whole 283146) (of_whole 283159) (of_whole 9823)
    ∷ slot 26 (of_whole 283159) (of_whole 283168) (of_whole 7786) ∷ slot 27 (of_whole 283168) (of_whole 283174) (of_whole 5875)
    ∷ slot 28 (of_whole 283174) (of_whole 283179) (of_whole 5472) ∷ slot 29 (of_whole 283179) (of_whole 283183) (of_whole 4900)
    ∷ slot 30 (of_whole 283183) (of_whole 283186) (of_whole 4150) ∷ slot 31 (of_whole 283186) (of_whole 283188) (of_whole 3115)
    ∷ slot 32 (of_whole 283188) (of_whole 283190) (of_whole 3260) ∷ slot 33 (of_whole 283190) (of_whole 283193) (of_whole 5997) ∷ []

-- it is feasible
pub others_feasible : IsFeasible jobs others
others_feasible = feasible_by_test jobs others 1 refl refl

-- # What they spend

-- the run, in the scale's parts
run_spent : IsSameQuotient (spending 2 (slots_at scale run)) (record { num = 636427267 * scale; den = 1 })
run_spent = refl

-- the other schedule
others_spent : IsSameQuotient (spending 2 (slots_at 1 others)) (record { num = 3733201222920159935974064939338646760248404051734348700597; den = 17669621621012569316824552360134399112904192023320 })
others_spent = refl

-- By the law of Optimal Available the run spends at most 4 times as much,
at_most_4 : SpendsAtMost 2 4 run others
at_most_4 = optimal_available_spends 2 jobs 1 run others (omega arith) (omega arith) available_run others_feasible

-- but more than 3 times: no less whole number would do in that law.
more_than_3 : SpendsAtMost 2 3 run others → ⊥
more_than_3 = more_by_test 2 _ scale run others refl refl

-- The cube: at most 27 times, and more than 11.
cubes : SpendsAtMost 3 27 run others × (SpendsAtMost 3 11 run others → ⊥)
cubes = (optimal_available_spends 3 jobs 1 run others (omega arith) (omega arith) available_run others_feasible, more_by_test 3 _ scale run others refl refl)
