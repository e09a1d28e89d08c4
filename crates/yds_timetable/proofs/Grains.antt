-- Works over one denominator for each job fit the grain of their job.
use Rattle.yds_model.proofs.Common.{arith, ◌≡◌, ℕ, ◌⊎◌, List, ◌∙◌, get_or, sym, subst, inl, inr, All, WrittenSlot}
use Rattle.model_lemmas.proofs.Grain.{grain_reached}
use Rattle.yds_model.specs.Plan.{IsOver}
use Rattle.yds_slots.specs.Schedule.{FitsGrain}

fits : (a b den : ℕ) → (a ≡ 1) ⊎ (a ≡ den) → (b ≡ 1) ⊎ (b ≡ den) → (a ≡ 1) ⊎ ((b ≡ 1) ⊎ (a ≡ b))
fits a b den (inl one) other = inl one
fits a b den (inr is) (inl one) = inr (inl one)
fits a b den (inr is) (inr same) = inr (inr (is ∙ sym same))

-- a slot whose work is over the denominator that the others of its job are over
pub fits_own : (den : ℕ) (slots : List WrittenSlot) (slot : WrittenSlot) → All (λ one. one.job ≡ slot.job → IsOver den one.work) slots → IsOver den slot.work →
    FitsGrain slots slot
fits_own den slots slot all over = grind (arith, grain_reached)

-- where each job has its denominator
pub fits_over : (grain : ℕ → ℕ) (slots : List WrittenSlot) (slot : WrittenSlot) → All (λ one. IsOver (grain one.job) one.work) slots →
    IsOver (grain slot.job) slot.work → FitsGrain slots slot
fits_over grain slots slot all over = fits_own (grain slot.job) slots slot
    (λ k d within same. subst (λ (job : ℕ). IsOver (grain job) (get_or slots k d).work) same (all k d within)) over
