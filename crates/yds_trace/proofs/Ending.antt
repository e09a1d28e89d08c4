-- The jobs of each task at the end.
use Rattle.base.proofs.Common.{◌≡◌, ◌∙◌, ℕ, suc, ◌+◌, ◌<◌, List, [], ◌∷◌, map, reverse, length, get_or, Global, refl, sym, ap, ap₂, arith}
use Rattle.std.specs.Prelude.{Vec}
use Rattle.std.proofs.lemmas.List.{reverse-reverse}
use Rattle.yds_kernel.specs.Event.{Said}
use Rattle.yds_trace.specs.declared.followed.Followed.{Followed}
use Rattle.yds_trace.specs.declared.job.Job.{Job as JobKept}
use Rattle.yds_trace.specs.Asked.{Task, Asked}
use Rattle.yds_trace.specs.Past.{up_to}
use Rattle.yds_trace.specs.Jobs.{Job, Known}
use Rattle.yds_trace.specs.Late.{last_asked}
use Rattle.yds_trace.specs.Document.{share_of}
use Rattle.yds_trace.specs.Ended.{jobs_from, in_order_of_begin}
use Rattle.yds_trace.specs.Kept.{IsFollowed}
use Rattle.yds_trace.specs.Passing.{closed_at}
use Rattle.yds_trace.specs.Views.{job_read, jobs_listed, known_read}
use Rattle.yds_trace.proofs.Behind.{known_whole}

pub jobs_are : (asked : Asked) (past : List Said) (start until : ℕ) (tasks : List Task) (kept : List Followed) (all : List (Vec JobKept Global)) →
    until ≡ last_asked asked past → length kept ≡ length tasks →
    ((k n : ℕ) (d : Followed) → k < length tasks → start + k ≡ n → IsFollowed asked (up_to asked.to past) 0 n (get_or kept k d)) →
    map (λ jobs. jobs_listed jobs.items) all ≡ map (λ followed. closed_at until asked.start (up_to asked.to past) (known_read followed.known)) kept →
    map (map (share_of asked)) (map in_order_of_begin all) ≡ jobs_from asked past start tasks
jobs_are asked past start until [] [] [] until_is many each same = refl
jobs_are asked past start until [] [] (jobs ∷ all) until_is many each same = cc
jobs_are asked past start until [] (one ∷ kept) all until_is many each same = absurd (omega arith)
jobs_are asked past start until (task ∷ tasks) [] all until_is many each same = absurd (omega arith)
jobs_are asked past start until (task ∷ tasks) (one ∷ kept) [] until_is many each same = cc
jobs_are asked past start until (task ∷ tasks) (one ∷ kept) (jobs ∷ all) until_is many each same =
    let here : jobs_listed jobs.items ≡ closed_at until asked.start (up_to asked.to past) (known_read one.known) = cc in
    ap₂ (λ (x : List Job) (xs : List (List Job)). map (share_of asked) x ∷ xs)
    (sym (reverse-reverse (map job_read jobs.items))
    ∙ ap reverse (here ∙ ap₂ (λ (time : ℕ) (known : Known). closed_at time asked.start (up_to asked.to past) known) until_is (known_whole asked (up_to asked.to past) start one (each 0 start one (omega arith) (omega arith)))))
    (jobs_are asked past (start + 1) until tasks kept all until_is (omega arith) (λ k n d within is. each (suc k) n d (omega arith) (omega arith)) cc)
