-- A job that stands at most once among all members is a member of one level at most.
use Rattle.yds_model.proofs.Common.{◌≡◌, ℕ, ◌<◌, ◌≤◌, List, length, arith, inl, inr, Bool, subst, ◌⊎◌, ◌↔◌, IsTrue, Contains, count, Level, level_at, all_members}
use Rattle.model_lemmas.proofs.Counted.{member_counted}
use Rattle.yds_checker.specs.declared.home.Home.{Home}
use Rattle.yds_checker.specs.declared.home.Home.TheVariants.{Nowhere, In, Often}
use Rattle.yds_checker.specs.Home.{IsHome}
use Rattle.model_lemmas.proofs.Counted.{one_level}

-- So a fact about each level of which a job is a member is one about the level in which it stands,
pub fact_in : (levels : List Level) (number level : ℕ) (P : ℕ → Type 0) (told : Bool) (home : Home) → home ≡ In level →
    IsHome levels (all_members levels) number home → (IsTrue told ↔ P level) →
    (IsTrue told ↔ ((i : ℕ) → i < length levels → Contains (level_at levels i).members number → P i))
fact_in levels number level P told home is stands tells =
    let at_home = rw is at stands in (
      λ so i within member.
          let same : level ≡ i = one_level levels level i number (omega (arith, at_home.0)) at_home.1 within at_home.2 member in
          subst P same (tells.0 so),
      λ each. tells.1 (each level at_home.1 at_home.2),
    )

-- a job that is counted once at most, and stands in no level, isn't counted
uncounted : (levels : List Level) (members : List ℕ) (number : ℕ) (home : Home) → (home ≡ Nowhere) ⊎ (home ≡ Often) → IsHome levels members number home →
    count number members ≤ 1 → count number members ≡ 0
uncounted levels members number home (inl nowhere) stands once = rw nowhere at stands
uncounted levels members number home (inr often) stands once = absurd (omega (arith, rw often at stands, once))

-- and is one that holds where it stands in none.
pub fact_elsewhere : (levels : List Level) (number : ℕ) (P : ℕ → Type 0) (told : Bool) (home : Home) → (home ≡ Nowhere) ⊎ (home ≡ Often) →
    IsHome levels (all_members levels) number home → count number (all_members levels) ≤ 1 → IsTrue told →
    (IsTrue told ↔ ((i : ℕ) → i < length levels → Contains (level_at levels i).members number → P i))
fact_elsewhere levels number P told home is stands once so =
    let none = uncounted levels (all_members levels) number home is stands once in (
      λ same i within member. absurd (omega (arith, member_counted levels i number within member, none)),
      λ each. so,
    )
