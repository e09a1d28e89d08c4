-- Jobs in three lists: how many they are, each of them, and one more among them.
use Rattle.yds_model.proofs.Common.{◌≡◌, ℕ, zero, suc, ◌<◌, ◌≤◌, List, [], ◌∷◌, ◌++◌, length, get_or, insert, ◌∙◌, refl, sym, arith, ap, Job, job_at}
use Rattle.yds_admit.specs.Rows.{listed_jobs, AreRows}

-- as many as releases
pub rows_len : (releases deadlines works : List ℕ) → AreRows releases deadlines works → length (listed_jobs releases deadlines works) ≡ length releases
rows_len [] deadlines works are = refl
rows_len (r ∷ releases) [] works are = absurd (omega (arith, are.due))
rows_len (r ∷ releases) (d ∷ deadlines) [] are = absurd (omega (arith, are.wanted))
rows_len (r ∷ releases) (d ∷ deadlines) (w ∷ works) are =
    ap suc (rows_len releases deadlines works (record { due = omega (arith, are.due); wanted = omega (arith, are.wanted) }))

-- each of them
pub row_at : (releases deadlines works : List ℕ) → AreRows releases deadlines works → (k : ℕ) → k < length releases →
    job_at (listed_jobs releases deadlines works) k ≡ record { release = get_or releases k 0; deadline = get_or deadlines k 0; work = get_or works k 0 }
row_at [] deadlines works are k below = absurd (omega (arith, below))
row_at (r ∷ releases) [] works are k below = absurd (omega (arith, are.due))
row_at (r ∷ releases) (d ∷ deadlines) [] are k below = absurd (omega (arith, are.wanted))
row_at (r ∷ releases) (d ∷ deadlines) (w ∷ works) are zero below = refl
row_at (r ∷ releases) (d ∷ deadlines) (w ∷ works) are (suc k) below =
    row_at releases deadlines works (record { due = omega (arith, are.due); wanted = omega (arith, are.wanted) }) k (omega (arith, below))

-- one more behind them
pub rows_push : (releases deadlines works : List ℕ) → AreRows releases deadlines works → (release deadline work : ℕ) →
    listed_jobs (releases ++ release ∷ []) (deadlines ++ deadline ∷ []) (works ++ work ∷ [])
    ≡ listed_jobs releases deadlines works ++ record { release = release; deadline = deadline; work = work } ∷ []
rows_push [] [] [] are release deadline work = refl
rows_push [] [] (w ∷ works) are release deadline work = absurd (omega (arith, are.wanted))
rows_push [] (d ∷ deadlines) works are release deadline work = absurd (omega (arith, are.due))
rows_push (r ∷ releases) [] works are release deadline work = absurd (omega (arith, are.due))
rows_push (r ∷ releases) (d ∷ deadlines) [] are release deadline work = absurd (omega (arith, are.wanted))
rows_push (r ∷ releases) (d ∷ deadlines) (w ∷ works) are release deadline work =
    ap (λ (jobs : List Job). record { release = r; deadline = d; work = w } ∷ jobs)
    (rows_push releases deadlines works (record { due = omega (arith, are.due); wanted = omega (arith, are.wanted) }) release deadline work)

-- one more among them
pub rows_insert : (releases deadlines works : List ℕ) → AreRows releases deadlines works → (i release deadline work : ℕ) → i ≤ length releases →
    listed_jobs (insert releases i release) (insert deadlines i deadline) (insert works i work)
    ≡ insert (listed_jobs releases deadlines works) i (record { release = release; deadline = deadline; work = work })
rows_insert releases deadlines works are zero release deadline work within = refl
rows_insert [] deadlines works are (suc i) release deadline work within = absurd (omega (arith, within))
rows_insert (r ∷ releases) [] works are (suc i) release deadline work within = absurd (omega (arith, are.due))
rows_insert (r ∷ releases) (d ∷ deadlines) [] are (suc i) release deadline work within = absurd (omega (arith, are.wanted))
rows_insert (r ∷ releases) (d ∷ deadlines) (w ∷ works) are (suc i) release deadline work within =
    ap (λ (jobs : List Job). record { release = r; deadline = d; work = w } ∷ jobs)
    (rows_insert releases deadlines works (record { due = omega (arith, are.due); wanted = omega (arith, are.wanted) }) i release deadline work (omega (arith, within)))

-- as many as these jobs, which are the same
pub row_count : (releases deadlines works : List ℕ) (jobs : List Job) → AreRows releases deadlines works → listed_jobs releases deadlines works ≡ jobs →
    length jobs ≡ length releases
row_count releases deadlines works jobs are is = omega (arith, rows_len releases deadlines works are, ap (λ (some : List Job). length some) is)

-- a job's numbers stand in the lists
pub record IsListed (releases deadlines works : List ℕ) (jobs : List Job) (k : ℕ) : Type 0 where
  pub release : get_or releases k 0 ≡ (job_at jobs k).release
  pub deadline : get_or deadlines k 0 ≡ (job_at jobs k).deadline
  pub work : get_or works k 0 ≡ (job_at jobs k).work

-- so do those of each of these jobs, which are the same
pub each_listed : (releases deadlines works : List ℕ) (jobs : List Job) → AreRows releases deadlines works → listed_jobs releases deadlines works ≡ jobs →
    (k : ℕ) → k < length releases → IsListed releases deadlines works jobs k
each_listed releases deadlines works jobs are is k below =
    let row = sym (row_at releases deadlines works are k below) ∙ ap (λ (some : List Job). job_at some k) is in
    record { release = ap (λ (job : Job). job.release) row; deadline = ap (λ (job : Job). job.deadline) row; work = ap (λ (job : Job). job.work) row }
