use Rattle.yds_model.proofs.Common.{◌≡◌, ℕ, List, [], ◌∷◌, ◌++◌, ◌∙◌, ap, ap₂, Job}
use Rattle.yds_admit.proofs.Listed.{rows_push}
use Rattle.yds_admit.proofs.rows.Rows.push.Goals as goal

pub returns : goal.returns
returns c =
    let releases = c.self.inside.releases.items in
    let deadlines = c.self.inside.deadlines.items in
    let works = c.self.inside.works.items in
    let works_are : c.push.new.self.items ≡ works ++ c.row.inside.work ∷ [] =
    c.in_ok-push.ensures.items ∙ ap (λ (some : List ℕ). some ++ c.row.inside.work ∷ []) c.in_ok-reserve.ensures.items in
    let deadlines_are : c.push-2.new.self.items ≡ deadlines ++ c.row.inside.deadline ∷ [] =
    c.in_ok-push-2.ensures.items ∙ ap (λ (some : List ℕ). some ++ c.row.inside.deadline ∷ []) c.in_ok-reserve-2.ensures.items in
    let releases_are : c.push-3.new.self.items ≡ releases ++ c.row.inside.release ∷ [] =
    c.in_ok-push-3.ensures.items ∙ ap (λ (some : List ℕ). some ++ c.row.inside.release ∷ []) c.in_ok-reserve-3.ensures.items in
    rw (releases_are, deadlines_are, works_are)
    (rows_push releases deadlines works c.self.invariant c.row.inside.release c.row.inside.deadline c.row.inside.work
    ∙ ap₂ (λ (jobs : List Job) (job : Job). jobs ++ job ∷ []) c.self.view_is c.row.view_is)
