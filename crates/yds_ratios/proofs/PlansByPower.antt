-- Plans spend least by each whole exponent, since they do the least above each speed.
use Rattle.yds_model.proofs.Common.{ℕ, zero, suc, ◌*◌, List, arith, mul-pos, Job, WrittenSlot, WholeSlot, IsSolid, slots_at, All-append, IsFeasible, IsLeast}
use Rattle.model_lemmas.proofs.Runs.{run_forward}
use Rattle.yds_laws.proofs.Bound.{scale_left, scale_right, least_among_written}
use Rattle.yds_laws.proofs.Plans.{plans_are_least}
use Rattle.yds_ratios.specs.SpendingByPower.{SpendsAtMost}
use Rattle.yds_ratios.specs.RatioLaws.{PlansSpendLeast}
use Rattle.yds_ratios.proofs.WholeSpeeds.{lengths, lengths_some, first_speeds, other_speeds, at_most_times, least_spends_least}

-- what is least spends least
pub least_spends : (n : ℕ) (jobs : List Job) (slots others : List WrittenSlot) → IsLeast jobs slots → IsFeasible jobs others → SpendsAtMost (suc n) 1 slots others
least_spends n jobs slots others least feasible = record {
  solid = All-append IsSolid slots others least.solid feasible.solid;
  at_most = λ scale is.
      let mine : List WholeSlot = slots_at scale slots in
      let theirs : List WholeSlot = slots_at scale others in
      let forward = run_forward 0 mine (least.holds scale (scale_left scale slots others is)).feasible.one_at_a_time in
      let ahead = run_forward 0 theirs (feasible.holds scale (scale_right scale slots others is)).one_at_a_time in
      let some = mul-pos (lengths_some mine forward) (lengths_some theirs ahead) in
      let have = first_speeds mine theirs forward in
      let also = other_speeds mine theirs ahead in
      at_most_times n (lengths mine * lengths theirs) 1 mine theirs some have also
      (least_spends_least n (lengths mine * lengths theirs) mine theirs have also
      (λ y. least_among_written jobs slots others scale y (lengths mine * lengths theirs) least feasible is some));
}

-- the law
pub plans_spend_least : PlansSpendLeast
plans_spend_least zero jobs slots others levels some plan feasible = absurd (omega arith)
plans_spend_least (suc n) jobs slots others levels some plan feasible = least_spends n jobs slots others (plans_are_least jobs slots levels plan).0 feasible
