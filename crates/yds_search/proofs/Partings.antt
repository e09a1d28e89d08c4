-- A group's jobs as they are parted in place: who stays comes to the front, who moves is put aside.
use Rattle.yds_model.proofs.Common.{◌≡◌, ℕ, ◌+◌, ◌-◌, ◌<◌, ◌≤◌, ◌≢◌, ◌∙◌, true, false, List, [], ◌∷◌, ◌++◌, length, take, drop, set, get_or, ap, sym, eq-eqb, arith, All, ne_eqb, append_assoc, drop_more, take_more_set, drop-set-lt, All-head, All-rest}
use Rattle.yds_search.specs.declared.own.OwnJob.{OwnJob}
use Rattle.yds_search.specs.Stack.{moves, moved, stayed, moving_jobs, staying_jobs}
use Rattle.yds_search.proofs.Ranks.{IsRanked}

-- those from `at` on are still to be parted
pub record IsParting (ranks : List ℕ) (stay move jobs aside : List OwnJob) (start staying at : ℕ) : Type 0 where
  pub stays : take staying jobs ++ staying_jobs ranks (drop at jobs) ≡ stay
  pub moved : aside ++ moving_jobs ranks (drop at jobs) ≡ move
  pub left : All (IsRanked ranks) (drop at jobs)
  pub after : start ≤ staying
  pub behind : staying ≤ at

-- the first one that is left
left_is : (jobs : List OwnJob) (at : ℕ) (own : OwnJob) → at < length jobs → own ≡ get_or jobs at own → drop at jobs ≡ own ∷ drop (at + 1) jobs
left_is jobs at own within is = drop_more jobs at own within ∙ ap (λ (one : OwnJob). one ∷ drop (at + 1) jobs) (sym is)

-- has ranks
pub left_ranked : {ranks : List ℕ} {stay move jobs aside : List OwnJob} {start staying at n : ℕ} {own : OwnJob} → IsParting ranks stay move jobs aside start staying at →
    at < n → length jobs ≡ n → own ≡ get_or jobs at own → IsRanked ranks own
left_ranked {jobs = jobs} {at = at} {own = own} so_far within count is = All-head (IsRanked _) own (drop (at + 1) jobs) (rw (left_is jobs at own (omega arith) is) at so_far.left)

-- moves
pub parting_moves : {ranks : List ℕ} {stay move jobs aside : List OwnJob} {start staying at n : ℕ} {own : OwnJob} → IsParting ranks stay move jobs aside start staying at →
    at < n → length jobs ≡ n → own ≡ get_or jobs at own → get_or ranks own.end 0 - get_or ranks own.first 0 ≡ own.end - own.first →
    IsParting ranks stay move jobs (aside ++ moved ranks own ∷ []) start staying (at + 1)
parting_moves {ranks = ranks} {jobs = jobs} {aside = aside} {at = at} {own = own} so_far within count is moving =
    let left = left_is jobs at own (omega arith) is in
    let rest : List OwnJob = drop (at + 1) jobs in
    let same : moves ranks own ≡ true = eq-eqb (get_or ranks own.end 0 - get_or ranks own.first 0) (own.end - own.first) moving in
    record {
      stays = rw (left, same) at so_far.stays;
      moved = append_assoc aside (moved ranks own ∷ []) (moving_jobs ranks rest) ∙ (rw (left, same) at so_far.moved);
      left = All-rest (IsRanked ranks) own rest (drop at jobs) left so_far.left;
      after = so_far.after;
      behind = omega (arith, so_far.behind);
    }

-- or stays
pub parting_stays : {ranks : List ℕ} {stay move jobs aside : List OwnJob} {start staying at n : ℕ} {own : OwnJob} → IsParting ranks stay move jobs aside start staying at →
    at < n → length jobs ≡ n → own ≡ get_or jobs at own → get_or ranks own.end 0 - get_or ranks own.first 0 ≢ own.end - own.first →
    IsParting ranks stay move (set jobs staying (stayed ranks own)) aside start (staying + 1) (at + 1)
parting_stays {ranks = ranks} {jobs = jobs} {staying = staying} {at = at} {own = own} so_far within count is differs =
    let left = left_is jobs at own (omega arith) is in
    let same = drop-set-lt (at + 1) jobs staying (stayed ranks own) (omega (arith, so_far.behind)) in
    let other : moves ranks own ≡ false = ne_eqb (get_or ranks own.end 0 - get_or ranks own.first 0) (own.end - own.first) differs in
    record {
      stays = rw (same, take_more_set jobs staying (stayed ranks own) (omega (arith, so_far.behind)), append_assoc) (rw (left, other) at so_far.stays);
      moved = rw same (rw (left, other) at so_far.moved);
      left = rw same (All-rest (IsRanked ranks) own (drop (at + 1) jobs) (drop at jobs) left so_far.left);
      after = omega (arith, so_far.after);
      behind = omega (arith, so_far.behind);
    }
