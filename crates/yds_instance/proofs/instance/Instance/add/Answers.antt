use Rattle.yds_model.proofs.Common.{◌≡◌, ℕ, Err, sym, ap, IsErrOf}
use Rattle.yds_instance.specs.declared.fault.AddFault.{AddFault}
use Rattle.yds_instance.proofs.instance.Instance.add.Goals as goal

in_err : {P : Type 0} {result fault : AddFault} → (result ≡ fault → P) × (P → result ≡ fault) → (IsErrOf {T = ℕ} (Err result) fault → P) × (P → IsErrOf {T = ℕ} (Err result) fault)
in_err told = (λ same. told.0 (cc), λ so. ap Err (told.1 so))

pub returns-then-len-ge-MAX_JOBS-clause-duplicate : goal.returns-then-len-ge-MAX_JOBS-clause-duplicate
returns-then-len-ge-MAX_JOBS-clause-duplicate c = λ earlier. in_err (c.refusal.ensures.duplicate earlier)

pub returns-in-Err-clause-duplicate : goal.returns-in-Err-clause-duplicate
returns-in-Err-clause-duplicate c = λ earlier. rw (sym c.in-Err.ensures.unchanged) (in_err (c.refusal-in-Err.ensures.duplicate earlier))

pub returns-in-Err-clause-full : goal.returns-in-Err-clause-full
returns-in-Err-clause-full c = rw (sym c.in-Err.ensures.unchanged) (in_err c.refusal-in-Err.ensures.full)
