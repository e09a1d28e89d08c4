-- A job's work together, and the work that it wants.
use Rattle.yds_model.proofs.Common.{◌≡◌, ℕ, ◌*◌, ◌/◌, ◌%◌, ◌≤◌, ◌==◌, Bool, true, false, arith, ap, refl, eqb-true, ◌↔◌, if◌then◌else◌, eq_of_mul-eq-mul_left, of_whole, of_parts, IsSame}

-- parts that make a whole number, or leave some over
parts_told : (b : Bool) (parts grain work : ℕ) → 1 ≤ grain → (parts % grain == 0) ≡ b →
    (IsSame (if b then of_whole (parts / grain) else record { whole = parts / grain; num = parts % grain; den = grain }) (of_whole work)
    ↔ (parts ≡ work * grain))
parts_told true parts grain work some is =
    let none : parts % grain ≡ 0 = eqb-true (parts % grain) 0 is in (
      λ same. let whole : parts / grain ≡ work = omega (arith, same) in omega (arith, ap (λ n. grain * n) whole),
      λ gets. let whole : parts / grain ≡ work = eq_of_mul-eq-mul_left grain some (parts / grain) work (omega (arith, gets)) in omega (arith, whole),
    )
parts_told false parts grain work some is = (λ same. omega (arith, same), λ gets. omega (arith, gets))

-- the parts are those of the work exactly where the values are equal
pub parts_are_work : (parts grain work : ℕ) → 1 ≤ grain → (IsSame (of_parts parts grain) (of_whole work) ↔ (parts ≡ work * grain))
parts_are_work parts grain work some = parts_told (parts % grain == 0) parts grain work some refl
