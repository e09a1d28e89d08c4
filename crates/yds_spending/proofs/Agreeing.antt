-- What loads spend is what slots spend at a scale, where they take as long at each point.
use Rattle.yds_model.proofs.Common.{◌≡◌, ℕ, ◌*◌, ◌≤◌, List, map, get_or, sym, ap, ◌∙◌, mul_left_comm, fun_ext, Job, WholeSlot, Point, Spent, IsSpentAt, all_time_at, all_energy, sum_by-mul, sum_by_same}
use Rattle.yds_energy.proofs.SpentScale.{parts_same}
use Rattle.yds_spending.specs.declared.load.Load.{Load}
use Rattle.yds_spending.specs.Spent.{time_of_loads, energy_of_loads, IsSpentOn}

-- loads of which `unit` parts make a unit take as long at each point as the slots at the scale
abbrev pub TakeAsLong : List Job → List Point → ℕ → List Load → ℕ → List WholeSlot → Type 0
TakeAsLong jobs points unit loads scale slots = (speed : ℕ) → unit * all_time_at jobs points scale slots speed ≡ scale * time_of_loads points loads speed

pub spent_at : (jobs : List Job) (points : List Point) (unit : ℕ) (loads : List Load) (scale : ℕ) (slots : List WholeSlot) (spent : Spent) → 1 ≤ scale → 1 ≤ unit →
    TakeAsLong jobs points unit loads scale slots → IsSpentOn points unit loads spent → IsSpentAt jobs points spent scale slots
spent_at jobs points unit loads scale slots spent some some_unit long is =
    let wide = is.some in
    let here : Point → ℕ = λ point. point.power * all_time_at jobs points scale slots point.speed in
    let there : Point → ℕ = λ point. point.power * time_of_loads points loads point.speed in
    let energy : unit * all_energy jobs points scale slots ≡ scale * energy_of_loads points loads =
    sym (sum_by-mul unit here points)
    ∙ sum_by_same (λ point. unit * here point) (λ point. scale * there point) points (λ i d within.
    let point = get_or points i d in
    mul_left_comm unit point.power (all_time_at jobs points scale slots point.speed) ∙ ap (λ n. point.power * n) (long point.speed)
    ∙ mul_left_comm point.power scale (time_of_loads points loads point.speed))
    ∙ sum_by-mul scale there points in
    record {
      energy = is.energy ∙ sym (parts_same points scale unit (all_energy jobs points scale slots) (energy_of_loads points loads) some some_unit wide energy);
      times = is.times ∙ ap (λ f. map f points) (fun_ext (λ point.
          sym (parts_same points scale unit (all_time_at jobs points scale slots point.speed) (time_of_loads points loads point.speed) some some_unit wide (long point.speed))));
    }
