-- What stands last in the code's lists stands first in the definitions'.
use Rattle.base.proofs.Common.{Option, ◌≡◌, ℕ, zero, suc, ◌+◌, ◌<◌, ◌≤◌, List, [], ◌∷◌, ◌++◌, ◌∙◌, map, reverse, length, get_or, set, refl, ap, ap₂, sym, arith, map-append, reverse-append, get_or-set_same, get_or-set_other, get_or_default, drop_all, take_all, take, drop, append-nil, length-map, length-reverse, length-set, cases_lt, inl, inr, ◌≢◌, Bool, true, false, if◌then◌else◌, nat_lt, min, ltb-true}
use Rattle.yds_trace.specs.declared.job.End.{End}
use Rattle.yds_trace.specs.declared.job.Job.{Job as JobKept}
use Rattle.yds_trace.specs.declared.job.Stretch.{Stretch}
use Rattle.yds_trace.specs.Jobs.{Job, changed_last, lost_end, lost_job}
use Rattle.yds_trace.specs.Views.{job_read, jobs_listed}

pub reverse_push : (stretches : List Stretch) (stretch : Stretch) → reverse (stretches ++ stretch ∷ []) ≡ stretch ∷ reverse stretches
reverse_push stretches stretch = reverse-append stretches (stretch ∷ [])

pub jobs_listed_push : (jobs : List JobKept) (job : JobKept) → jobs_listed (jobs ++ job ∷ []) ≡ job_read job ∷ jobs_listed jobs
jobs_listed_push jobs job = rw (map-append, reverse-append)

-- # Losses

-- a job of which events were lost after this time
abbrev pub lost_kept : ℕ → JobKept → JobKept
lost_kept time job = record job { end = lost_end time job.slept job.end }

-- the jobs below an index are those, and the others are as they were
pub record LostBelow (time index : ℕ) (was now : List JobKept) : Type 0 where
  pub same_length : length now ≡ length was
  pub below : (k : ℕ) (d : JobKept) → k < index → get_or now k d ≡ lost_kept time (get_or was k d)
  pub above : (k : ℕ) (d : JobKept) → index ≤ k → get_or now k d ≡ get_or was k d

pub lost_none : (time : ℕ) (was : List JobKept) → LostBelow time 0 was was
lost_none time was = record { same_length = refl; below = λ k d within. absurd (omega arith); above = λ k d within. refl }

pub lost_more : (time index : ℕ) (was now : List JobKept) (d : JobKept) (end : End) → index < length now → LostBelow time index was now →
    end ≡ lost_end time (get_or now index d).slept (get_or now index d).end → LostBelow time (index + 1) was (set now index (record (get_or now index d) { end = end }))
lost_more time index was now d end within before is =
    let after : JobKept = record (get_or now index d) { end = end } in
    let lost : after ≡ lost_kept time (get_or now index d) = ap (λ (e : End). record (get_or now index d) { end = e }) is in
    record {
      same_length = length-set now index after ∙ before.same_length;
      below = λ k e lower. elim (cases_lt k index) [
        | inl less ↦ (let other : k ≢ index = omega arith in get_or-set_other now index k after e other) ∙ before.below k e less
        | inr more ↦
            let same : k ≡ index = omega arith in
            ap (λ n. get_or (set now index after) n e) same
            ∙ get_or-set_same now index after e within
            ∙ lost
            ∙ ap (lost_kept time) (get_or_default now index d e within ∙ before.above index e (omega arith))
            ∙ ap (λ n. lost_kept time (get_or was n e)) (sym same)
      ];
      above = λ k e higher. (let other : k ≢ index = omega arith in get_or-set_other now index k after e other) ∙ before.above k e (omega arith);
    }

-- what was lent as a whole, and comes back
pub kept_whole : (len : ℕ) (xs ys : List JobKept) → length xs ≡ length ys → length ys ≤ len → take len (xs ++ drop (length xs) ys) ≡ xs
kept_whole len xs ys same within =
    ap (λ rest. take len (xs ++ rest)) (drop_all (length xs) ys (omega arith))
    ∙ ap (take len) (append-nil xs)
    ∙ take_all len xs (omega arith)

each_lost : (time : ℕ) (was now : List JobKept) → length now ≡ length was →
    ((k : ℕ) (d : JobKept) → k < length was → get_or now k d ≡ lost_kept time (get_or was k d)) →
    map job_read now ≡ map (lost_job time) (map job_read was)
each_lost time [] [] same each = refl
each_lost time [] (job ∷ now) same each = absurd (omega arith)
each_lost time (job ∷ was) [] same each = absurd (omega arith)
each_lost time (job ∷ was) (after ∷ now) same each =
    ap₂ (λ (x : Job) (xs : List Job). x ∷ xs) (ap job_read (each 0 job (omega arith)))
    (each_lost time was now (omega arith) (λ k d within. each (suc k) d (omega arith)))

pub map_reverse : (f : Job → Job) (jobs : List Job) → map f (reverse jobs) ≡ reverse (map f jobs)
map_reverse f [] = refl
map_reverse f (job ∷ jobs) =
    ap (map f) (reverse-append (job ∷ []) jobs)
    ∙ map-append f (reverse jobs) (job ∷ [])
    ∙ ap (λ rest. rest ++ f job ∷ []) (map_reverse f jobs)
    ∙ sym (reverse-append (f job ∷ []) (map f jobs))

pub lost_all : (time index : ℕ) (was now : List JobKept) → length was ≤ index → LostBelow time index was now →
    jobs_listed now ≡ map (lost_job time) (jobs_listed was)
lost_all time index was now whole lost =
    ap reverse (each_lost time was now lost.same_length (λ k d within. lost.below k d (omega arith))) ∙ sym (map_reverse (lost_job time) (map job_read was))

-- # The last job

changed_append : (change : Job → Job) (jobs more : List Job) → 1 ≤ length jobs → changed_last change (jobs ++ more) ≡ changed_last change jobs ++ more
changed_append change [] more some = absurd (omega arith)
changed_append change (job ∷ jobs) more some = refl

listed_first : (first : JobKept) (jobs : List JobKept) → jobs_listed (first ∷ jobs) ≡ jobs_listed jobs ++ job_read first ∷ []
listed_first first jobs = reverse-append (job_read first ∷ []) (map job_read jobs)

pub some_listed : (jobs : List JobKept) → length (jobs_listed jobs) ≡ length jobs
some_listed jobs = length-reverse (map job_read jobs) ∙ length-map jobs job_read

-- What stands last in the code's list is changed.
pub changed_at_end : (change : Job → Job) (jobs : List JobKept) (place : ℕ) (now d : JobKept) → place + 1 ≡ length jobs →
    job_read now ≡ change (job_read (get_or jobs place d)) → jobs_listed (set jobs place now) ≡ changed_last change (jobs_listed jobs)
changed_at_end change [] place now d last same = absurd (omega arith)
changed_at_end change (first ∷ []) zero now d last same = ap (λ (job : Job). job ∷ []) same
changed_at_end change (first ∷ []) (suc place) now d last same = absurd (omega arith)
changed_at_end change (first ∷ next ∷ jobs) zero now d last same = absurd (omega arith)
changed_at_end change (first ∷ next ∷ jobs) (suc place) now d last same =
    listed_first first (set (next ∷ jobs) place now)
    ∙ ap (λ (js : List Job). js ++ job_read first ∷ []) (changed_at_end change (next ∷ jobs) place now d (omega arith) same)
    ∙ sym (changed_append change (jobs_listed (next ∷ jobs)) (job_read first ∷ []) (omega (arith, some_listed (next ∷ jobs))))
    ∙ ap (changed_last change) (sym (listed_first first (next ∷ jobs)))
