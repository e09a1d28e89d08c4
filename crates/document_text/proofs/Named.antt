-- Jobs with their names.
use Rattle.yds_model.proofs.Common.{◌≡◌, ℕ, ◌<◌, ◌≤◌, arith, List, [], get_or, length, ap, zip, get_or-zip, length-zip, Job, name_at}

-- the name and the row of a job, as they are read from the rows
pub named_at : (names : List (List ℕ)) (jobs rows : List Job) (i : ℕ) (name : List ℕ) (job : Job) → length names ≡ length jobs → rows ≡ jobs → i < length rows
    → name ≡ name_at names i → job ≡ get_or rows i job → get_or (zip names jobs) i ([], job) ≡ (name, job)
named_at names jobs rows i name job same are within is_name is_job = grind (arith, get_or-zip)

pub named_within : (names : List (List ℕ)) (jobs rows : List Job) (i : ℕ) → length names ≡ length jobs → rows ≡ jobs → i < length rows → i < length (zip names jobs)
named_within names jobs rows i same are within = omega (arith, length-zip names jobs, ap length are)

pub named_count : (names : List (List ℕ)) (jobs rows : List Job) (i : ℕ) → length names ≡ length jobs → rows ≡ jobs → length rows ≤ i → length (zip names jobs) ≤ i
named_count names jobs rows i same are all = omega (arith, length-zip names jobs, ap length are)
