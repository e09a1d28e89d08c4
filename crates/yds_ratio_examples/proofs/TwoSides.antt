-- 52 jobs around a middle, by which Average Rate spends more than 4 times what a feasible schedule does, where power is the speed's square.
-- That is more than a run of Optimal Available ever does. Most windows reach 5 to 6 times as far on one side of the middle as on the other.
use Rattle.yds_model.proofs.Common.{ℕ, ◌*◌, List, [], ◌∷◌, refl, arith, Job, of_whole, of_parts, IsSameQuotient, WrittenSlot, IsScale, slots_at, IsFeasible, IsRunAt, average_rate, IsAverageRateRun, IsOptimalAvailableRun}
use Rattle.yds_energy.proofs.Finer.{each_scale_of}
use Rattle.yds_energy.proofs.RunScale.{average_rate_run_free}
use Rattle.yds_ratios.specs.SpendingByPower.{spending, SpendsAtMost}
use Rattle.yds_ratios.proofs.OptimalAvailableSpends.{optimal_available_spends}
use Rattle.yds_ratios.proofs.AverageRateSpends.{average_rate_spends}
use Rattle.yds_examples.proofs.Tests.{proved}
use Rattle.yds_examples.proofs.TestedSchedules.{is_scale, run_at, feasible_by_test}
use Rattle.yds_ratio_examples.proofs.Spendings.{job, slot, more_by_test}

-- the jobs, by their releases
abbrev pub jobs : List Job
jobs =
    job 0 141823 425469 ∷ job 75919 137872 309765 ∷ job 102749 135353 195624 ∷ job 113692 133806 160912 ∷ job 119959 132822 141493
    ∷ job 119959 261782 425469 ∷ job 123910 132168 123870 ∷ job 123910 185863 309765 ∷ job 126429 131748 101061 ∷ job 126429 159033 195624
    ∷ job 127976 131461 83640 ∷ job 127976 148090 160912 ∷ job 128960 131274 71734 ∷ job 128960 141823 141493 ∷ job 129614 131150 58368
    ∷ job 129614 137872 123870 ∷ job 130034 131064 50470 ∷ job 130034 135353 101061 ∷ job 130321 131006 41100 ∷ job 130321 133806 83640
    ∷ job 130508 130968 33580 ∷ job 130508 132822 71734 ∷ job 130632 130942 28520 ∷ job 130632 132168 58368 ∷ job 130718 130925 23391
    ∷ job 130718 131748 50470 ∷ job 130776 130914 18630 ∷ job 130776 131461 41100 ∷ job 130814 130906 15364 ∷ job 130814 131274 33580
    ∷ job 130840 130901 12017 ∷ job 130840 131150 28520 ∷ job 130857 130897 9240 ∷ job 130857 131064 23391 ∷ job 130868 130895 7884
    ∷ job 130868 131006 18630 ∷ job 130876 130894 5832 ∷ job 130876 130968 15364 ∷ job 130881 130893 5388 ∷ job 130881 130942 12017
    ∷ job 130885 130891 2910 ∷ job 130885 130925 9240 ∷ job 130887 130891 1672 ∷ job 130887 130914 7884 ∷ job 130888 130891 1833
    ∷ job 130888 130906 5832 ∷ job 130889 130891 4078 ∷ job 130889 130901 5388 ∷ job 130891 130893 4078 ∷ job 130891 130894 1833
    ∷ job 130891 130895 1672 ∷ job 130891 130897 2910 ∷ []

-- the run of Average Rate
abbrev pub run : List WrittenSlot
run =
    slot 0 (of_whole 0) (of_whole 75919) (of_whole 227757) ∷ slot 1 (of_whole 75919) (of_whole 102749) (of_whole 214640)
    ∷ slot 2 (of_whole 102749) (of_whole 113692) (of_whole 153202) ∷ slot 3 (of_whole 113692) (of_whole 119959) (of_whole 137874)
    ∷ slot 4 (of_whole 119959) (of_parts 4460017 36) (of_whole 141493) ∷ slot 3 (of_parts 4460017 36) (of_whole 123910) (of_whole 743)
    ∷ slot 6 (of_whole 123910) (of_parts 3531415 28) (of_whole 123870) ∷ slot 3 (of_parts 3531415 28) (of_whole 126429) (of_whole 17194)
    ∷ slot 8 (of_whole 126429) (of_parts 383030 3) (of_whole 101061) ∷ slot 3 (of_parts 383030 3) (of_parts 10346911 81) (of_whole 5101)
    ∷ slot 2 (of_parts 10346911 81) (of_whole 127976) (of_whole 19145) ∷ slot 10 (of_whole 127976) (of_parts 14544928 113) (of_whole 83640)
    ∷ slot 2 (of_parts 14544928 113) (of_parts 14568205 113) (of_whole 23277) ∷ slot 1 (of_parts 14568205 113) (of_whole 128960) (of_whole 4275)
    ∷ slot 12 (of_whole 128960) (of_parts 647114 5) (of_whole 71734) ∷ slot 1 (of_parts 647114 5) (of_whole 129614) (of_whole 29636)
    ∷ slot 14 (of_whole 129614) (of_parts 1688630 13) (of_whole 58368) ∷ slot 1 (of_parts 1688630 13) (of_whole 130034) (of_whole 28992)
    ∷ slot 16 (of_whole 130034) (of_parts 17969927 138) (of_whole 50470) ∷ slot 17 (of_parts 17969927 138) (of_whole 130321) (of_whole 28742)
    ∷ slot 18 (of_whole 130321) (of_parts 782611 6) (of_whole 41100) ∷ slot 19 (of_parts 782611 6) (of_whole 130508) (of_whole 26220)
    ∷ slot 20 (of_whole 130508) (of_parts 15147323 116) (of_whole 33580) ∷ slot 21 (of_parts 15147323 116) (of_whole 130632) (of_whole 23956)
    ∷ slot 22 (of_whole 130632) (of_parts 38811964 297) (of_whole 28520) ∷ slot 23 (of_parts 38811964 297) (of_whole 130718) (of_whole 22564)
    ∷ slot 24 (of_whole 130718) (of_parts 10982911 84) (of_whole 23391) ∷ slot 25 (of_parts 10982911 84) (of_whole 130776) (of_whole 20457)
    ∷ slot 26 (of_whole 130776) (of_parts 41462202 317) (of_whole 18630) ∷ slot 27 (of_parts 41462202 317) (of_whole 130814) (of_whole 17508)
    ∷ slot 28 (of_whole 130814) (of_parts 155814838 1191) (of_whole 15364) ∷ slot 29 (of_parts 155814838 1191) (of_whole 130840) (of_whole 15602)
    ∷ slot 30 (of_whole 130840) (of_parts 193655217 1480) (of_whole 12017) ∷ slot 31 (of_parts 193655217 1480) (of_whole 130857) (of_whole 13143)
    ∷ slot 32 (of_whole 130857) (of_parts 9945517 76) (of_whole 9240) ∷ slot 33 (of_parts 9945517 76) (of_whole 130868) (of_whole 10824)
    ∷ slot 34 (of_whole 130868) (of_parts 294591752 2251) (of_whole 7884) ∷ slot 35 (of_parts 294591752 2251) (of_whole 130876) (of_whole 10124)
    ∷ slot 36 (of_whole 130876) (of_parts 59811304 457) (of_whole 5832) ∷ slot 37 (of_parts 59811304 457) (of_whole 130881) (of_whole 7878)
    ∷ slot 38 (of_whole 130881) (of_parts 110857554 847) (of_whole 5388) ∷ slot 39 (of_parts 110857554 847) (of_whole 130885) (of_whole 8164)
    ∷ slot 40 (of_whole 130885) (of_parts 89525825 684) (of_whole 2910) ∷ slot 41 (of_parts 89525825 684) (of_whole 130887) (of_whole 5298)
    ∷ slot 42 (of_whole 130887) (of_parts 315045845 2407) (of_whole 1672) ∷ slot 43 (of_parts 315045845 2407) (of_whole 130888) (of_whole 3142)
    ∷ slot 44 (of_whole 130888) (of_parts 752476945 5749) (of_whole 1833) ∷ slot 45 (of_parts 752476945 5749) (of_whole 130889) (of_whole 3916)
    ∷ slot 46 (of_whole 130889) (of_parts 1078136771 8237) (of_whole 4078)
    ∷ slot 47 (of_parts 1078136771 8237) (of_parts 1078142159 8237) (of_whole 5388)
    ∷ slot 45 (of_parts 1078142159 8237) (of_parts 1078144075 8237) (of_whole 1916)
    ∷ slot 43 (of_parts 1078144075 8237) (of_parts 1078148817 8237) (of_whole 4742)
    ∷ slot 41 (of_parts 1078148817 8237) (of_whole 130891) (of_whole 350) ∷ slot 48 (of_whole 130891) (of_parts 1078153245 8237) (of_whole 4078)
    ∷ slot 49 (of_parts 1078153245 8237) (of_parts 1078155078 8237) (of_whole 1833)
    ∷ slot 50 (of_parts 1078155078 8237) (of_parts 1078156750 8237) (of_whole 1672)
    ∷ slot 51 (of_parts 1078156750 8237) (of_parts 1078159660 8237) (of_whole 2910)
    ∷ slot 41 (of_parts 1078159660 8237) (of_parts 1078163252 8237) (of_whole 3592)
    ∷ slot 39 (of_parts 1078163252 8237) (of_whole 130893) (of_whole 2389) ∷ slot 39 (of_whole 130893) (of_parts 752505321 5749) (of_whole 1464)
    ∷ slot 37 (of_parts 752505321 5749) (of_whole 130894) (of_whole 4285) ∷ slot 37 (of_whole 130894) (of_parts 630126917 4814) (of_whole 3201)
    ∷ slot 35 (of_parts 630126917 4814) (of_whole 130895) (of_whole 1613) ∷ slot 35 (of_whole 130895) (of_parts 537199973 4104) (of_whole 6893)
    ∷ slot 33 (of_parts 537199973 4104) (of_whole 130897) (of_whole 1315) ∷ slot 33 (of_whole 130897) (of_parts 110872572 847) (of_whole 11252)
    ∷ slot 31 (of_parts 110872572 847) (of_whole 130901) (of_whole 2300) ∷ slot 31 (of_whole 130901) (of_parts 119647873 914) (of_whole 13077)
    ∷ slot 29 (of_parts 119647873 914) (of_whole 130906) (of_whole 633) ∷ slot 29 (of_whole 130906) (of_parts 294686751 2251) (of_whole 17345)
    ∷ slot 27 (of_parts 294686751 2251) (of_whole 130914) (of_whole 663) ∷ slot 27 (of_whole 130914) (of_whole 130925) (of_whole 20064)
    ∷ slot 27 (of_whole 130925) (of_parts 38754373 296) (of_whole 2865) ∷ slot 25 (of_parts 38754373 296) (of_whole 130942) (of_whole 22295)
    ∷ slot 25 (of_whole 130942) (of_parts 155959640 1191) (of_whole 7718) ∷ slot 23 (of_parts 155959640 1191) (of_whole 130968) (of_whole 23248)
    ∷ slot 23 (of_whole 130968) (of_parts 124563124 951) (of_whole 12556) ∷ slot 21 (of_parts 124563124 951) (of_whole 131006) (of_whole 23582)
    ∷ slot 21 (of_whole 131006) (of_parts 24766183 189) (of_whole 24196) ∷ slot 19 (of_parts 24766183 189) (of_whole 131064) (of_whole 19652)
    ∷ slot 19 (of_whole 131064) (of_parts 38944892 297) (of_whole 37768) ∷ slot 17 (of_parts 38944892 297) (of_whole 131150) (of_whole 13316)
    ∷ slot 17 (of_whole 131150) (of_whole 131274) (of_whole 57536) ∷ slot 17 (of_whole 131274) (of_parts 5251123 40) (of_whole 1467)
    ∷ slot 1 (of_parts 5251123 40) (of_parts 47292329 360) (of_whole 32222) ∷ slot 15 (of_parts 47292329 360) (of_whole 131461) (of_whole 33631)
    ∷ slot 15 (of_whole 131461) (of_whole 131748) (of_whole 79212) ∷ slot 15 (of_whole 131748) (of_parts 27414611 208) (of_whole 11027)
    ∷ slot 0 (of_parts 27414611 208) (of_whole 132168) (of_whole 76333) ∷ slot 0 (of_whole 132168) (of_whole 132822) (of_whole 101370)
    ∷ slot 0 (of_whole 132822) (of_parts 15028895 113) (of_whole 20009) ∷ slot 13 (of_parts 15028895 113) (of_whole 133806) (of_whole 91183)
    ∷ slot 13 (of_whole 133806) (of_parts 1209844 9) (of_whole 50310) ∷ slot 11 (of_parts 1209844 9) (of_whole 135353) (of_whole 74997)
    ∷ slot 11 (of_whole 135353) (of_parts 7665683 56) (of_whole 85915) ∷ slot 9 (of_parts 7665683 56) (of_whole 137872) (of_whole 55149)
    ∷ slot 9 (of_whole 137872) (of_parts 1701289 12) (of_whole 140475) ∷ slot 7 (of_parts 1701289 12) (of_whole 141823) (of_whole 1761)
    ∷ slot 7 (of_whole 141823) (of_whole 148090) (of_whole 137874) ∷ slot 7 (of_whole 148090) (of_whole 159033) (of_whole 153202)
    ∷ slot 7 (of_whole 159033) (of_whole 161149) (of_whole 16928) ∷ slot 5 (of_whole 161149) (of_whole 185863) (of_whole 197712)
    ∷ slot 5 (of_whole 185863) (of_whole 261782) (of_whole 227757) ∷ []

-- a common multiple of their denominators
abbrev pub scale : ℕ
scale = 1923721957062903131818497721503676080

-- is a scale of them
run_scale : IsScale scale run
run_scale = proved (is_scale scale run) refl

-- at that scale they are a run of Average Rate
rate_at_scale : IsRunAt jobs 1 scale (average_rate jobs 1 scale (slots_at scale run)) (slots_at scale run)
rate_at_scale = proved (run_at jobs 1 scale (average_rate jobs 1 scale (slots_at scale run)) (slots_at scale run)) refl

-- so they are at each, and it never rounded
pub rate_run : IsAverageRateRun jobs 1 0 run
rate_run = record { run = each_scale_of _ (average_rate_run_free jobs 1) run scale run_scale rate_at_scale; rounds = refl }

-- each job in a time of its own, at the end of its longer side
abbrev pub others : List WrittenSlot
others =
    slot 0 (of_whole 0) (of_whole 75919) (of_whole 425469) ∷ slot 1 (of_whole 75919) (of_whole 102749) (of_whole 309765)
    ∷ slot 2 (of_whole 102749) (of_whole 113692) (of_whole 195624) ∷ slot 3 (of_whole 113692) (of_whole 119959) (of_whole 160912)
    ∷ slot 4 (of_whole 119959) (of_whole 123910) (of_whole 141493) ∷ slot 6 (of_whole 123910) (of_whole 126429) (of_whole 123870)
    ∷ slot 8 (of_whole 126429) (of_whole 127976) (of_whole 101061) ∷ slot 10 (of_whole 127976) (of_whole 128960) (of_whole 83640)
    ∷ slot 12 (of_whole 128960) (of_whole 129614) (of_whole 71734) ∷ slot 14 (of_whole 129614) (of_whole 130034) (of_whole 58368)
    ∷ slot 16 (of_whole 130034) (of_whole 130321) (of_whole 50470) ∷ slot 18 (of_whole 130321) (of_whole 130508) (of_whole 41100)
    ∷ slot 20 (of_whole 130508) (of_whole 130632) (of_whole 33580) ∷ slot 22 (of_whole 130632) (of_whole 130718) (of_whole 28520)
    ∷ slot 24 (of_whole 130718) (of_whole 130776) (of_whole 23391) ∷ slot 26 (of_whole 130776) (of_whole 130814) (of_whole 18630)
    ∷ slot 28 (of_whole 130814) (of_whole 130840) (of_whole 15364) ∷ slot 30 (of_whole 130840) (of_whole 130857) (of_whole 12017)
    ∷ slot 32 (of_whole 130857) (of_whole 130868) (of_whole 9240) ∷ slot 34 (of_whole 130868) (of_whole 130876) (of_whole 7884)
    ∷ slot 36 (of_whole 130876) (of_whole 130881) (of_whole 5832) ∷ slot 38 (of_whole 130881) (of_whole 130885) (of_whole 5388)
    ∷ slot 40 (of_whole 130885) (of_whole 130887) (of_whole 2910) ∷ slot 42 (of_whole 130887) (of_whole 130888) (of_whole 1672)
    ∷ slot 44 (of_whole 130888) (of_whole 130889) (of_whole 1833) ∷ slot 46 (of_whole 130889) (of_whole 130891) (of_whole 4078)
    ∷ slot 48 (of_whole 130891) (of_whole 130893) (of_whole 4078) ∷ slot 49 (of_whole 130893) (of_whole 130894) (of_whole 1833)
    ∷ slot 50 (of_whole 130894) (of_whole 130895) (of_whole 1672) ∷ slot 51 (of_whole 130895) (of_whole 130897) (of_whole 2910)
    ∷ slot 47 (of_whole 130897) (of_whole 130901) (of_whole 5388) ∷ slot 45 (of_whole 130901) (of_whole 130906) (of_whole 5832)
    ∷ slot 43 (of_whole 130906) (of_whole 130914) (of_whole 7884) ∷ slot 41 (of_whole 130914) (of_whole 130925) (of_whole 9240)
    ∷ slot 39 (of_whole 130925) (of_whole 130942) (of_whole 12017) ∷ slot 37 (of_whole 130942) (of_whole 130968) (of_whole 15364)
    ∷ slot 35 (of_whole 130968) (of_whole 131006) (of_whole 18630) ∷ slot 33 (of_whole 131006) (of_whole 131064) (of_whole 23391)
    ∷ slot 31 (of_whole 131064) (of_whole 131150) (of_whole 28520) ∷ slot 29 (of_whole 131150) (of_whole 131274) (of_whole 33580)
    ∷ slot 27 (of_whole 131274) (of_whole 131461) (of_whole 41100) ∷ slot 25 (of_whole 131461) (of_whole 131748) (of_whole 50470)
    ∷ slot 23 (of_whole 131748) (of_whole 132168) (of_whole 58368) ∷ slot 21 (of_whole 132168) (of_whole 132822) (of_whole 71734)
    ∷ slot 19 (of_whole 132822) (of_whole 133806) (of_whole 83640) ∷ slot 17 (of_whole 133806) (of_whole 135353) (of_whole 101061)
    ∷ slot 15 (of_whole 135353) (of_whole 137872) (of_whole 123870) ∷ slot 13 (of_whole 137872) (of_whole 141823) (of_whole 141493)
    ∷ slot 11 (of_whole 141823) (of_whole 148090) (of_whole 160912) ∷ slot 9 (of_whole 148090) (of_whole 159033) (of_whole 195624)
    ∷ slot 7 (of_whole 159033) (of_whole 185863) (of_whole 309765) ∷ slot 5 (of_whole 185863) (of_whole 261782) (of_whole 425469) ∷ []

-- it is feasible
pub others_feasible : IsFeasible jobs others
others_feasible = feasible_by_test jobs others 1 refl refl

-- # What they spend

-- the run, in the scale's parts
run_spent : IsSameQuotient (spending 2 (slots_at scale run)) (record { num = 1416431142 * scale; den = 1 })
run_spent = refl

-- the other schedule
others_spent : IsSameQuotient (spending 2 (slots_at 1 others)) (record { num = 85869807820579002864682332258234288341122; den = 244872613798714956501568589947479 })
others_spent = refl

-- By the law of Average Rate the run spends at most 8 times as much,
at_most_8 : SpendsAtMost 2 8 run others
at_most_8 = average_rate_spends 2 jobs 1 run others (omega arith) (omega arith) rate_run others_feasible

-- but more than 4 times: what Optimal Available never does.
more_than_4 : SpendsAtMost 2 4 run others → ⊥
more_than_4 = more_by_test 2 _ scale run others refl refl

-- So it is no run of that policy.
not_available : IsOptimalAvailableRun jobs 1 0 run → ⊥
not_available available = more_than_4 (optimal_available_spends 2 jobs 1 run others (omega arith) (omega arith) available others_feasible)

-- The cube: at most 108 times, and more than 22.
cubes : SpendsAtMost 3 108 run others × (SpendsAtMost 3 22 run others → ⊥)
cubes = (average_rate_spends 3 jobs 1 run others (omega arith) (omega arith) rate_run others_feasible, more_by_test 3 _ scale run others refl refl)
