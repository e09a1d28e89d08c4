-- A comparison is answered by what the plan and the runs spend.
use Rattle.yds_model.proofs.Common.{◌≡◌, ℕ, ◌<◌, ◌≤◌, ◌⊎◌, List, [], ◌∷◌, ◌++◌, length, get_or, refl, sym, ap, ap₂, subst, ◌∙◌, append_assoc, arith, inl, inr, codes, Job, Document, WrittenSlot, Level, Point, line, IsPlan, IsAverageRateRun, IsOptimalAvailableRun, IsSpent, CompareAnswer, spent_lines, side_lines, rounded_line, OnPoints, zip, append-nil, length-zip, get_or-zip, Fraction}
use Rattle.base.specs.declared.status.Status.TheVariants as statuses
use Rattle.yds_round.specs.Fault.{HasFastLevel}
use Rattle.yds_round.proofs.Faults.{all_slow}
use Rattle.yds_compare.specs.declared.comparison.Comparison.{Comparison}
use Rattle.yds_compare.specs.Side.{side_view, IsSideOfRun}
use Rattle.yds_answer_points.specs.Compare.{sides_text}
use Rattle.yds_texts.proofs.RoundText.{points_answer}
use Rattle.yds_answer.proofs.SpacedLine.{spaced_line, next_field}

-- what is known of the parts of a comparison is what its answer says
abbrev pub Answers : Document → ℕ → List WrittenSlot → List Level → Comparison → List Job → List Point → Type 0
Answers document grid planned levels comparison jobs points =
    1 ≤ length points → IsPlan jobs planned levels → (HasFastLevel levels points → ⊥) → IsSpent jobs points planned comparison.plan →
    IsSideOfRun (IsAverageRateRun jobs grid comparison.avr_rounded) jobs points grid comparison.avr →
    IsSideOfRun (IsOptimalAvailableRun jobs grid comparison.oa_rounded) jobs points grid comparison.oa →
    OnPoints (CompareAnswer document grid) document.points (sides_text (record { table = points; comparison = comparison })) statuses.Done

answers_itself : (document : Document) (grid : ℕ) (planned : List WrittenSlot) (levels : List Level) (comparison : Comparison) →
    Answers document grid planned levels comparison document.jobs document.points
answers_itself document grid planned levels comparison some plan slow spent average optimal =
    let points = document.points in
    let plan_text = spent_lines (codes "plan") points comparison.plan in
    let average_text = side_lines (codes "avr") points (side_view comparison.avr) in
    let average_count = rounded_line (codes "avr") comparison.avr_rounded in
    let optimal_text = side_lines (codes "oa") points (side_view comparison.oa) in
    let optimal_count = rounded_line (codes "oa") comparison.oa_rounded in
    points_answer (CompareAnswer document grid) points (sides_text (record { table = points; comparison = comparison })) statuses.Done some (inr (record {
      planned = planned;
      levels = levels;
      plan = plan;
      fast_enough = all_slow document.jobs planned levels points plan slow;
      plan_spent = comparison.plan;
      plan_spends = spent;
      average_slots = average.0;
      average_rounded = comparison.avr_rounded;
      average_run = average.1;
      average_side = side_view comparison.avr;
      is_average = average.2;
      optimal_slots = optimal.0;
      optimal_rounded = comparison.oa_rounded;
      optimal_run = optimal.1;
      optimal_side = side_view comparison.oa;
      is_optimal = optimal.2;
      said = sym (append_assoc (plan_text ++ (average_text ++ average_count)) optimal_text optimal_count)
          ∙ ap (λ l. (l ++ optimal_text) ++ optimal_count) (sym (append_assoc plan_text average_text average_count));
      ended = refl;
    }))

-- for the document's own jobs and points, under other names
pub compared_answers : (document : Document) (grid : ℕ) (planned : List WrittenSlot) (levels : List Level) (comparison : Comparison) (jobs : List Job) (points : List Point) →
    jobs ≡ document.jobs → points ≡ document.points → Answers document grid planned levels comparison jobs points
compared_answers document grid planned levels comparison jobs points is_jobs is_points =
    subst (λ (all : List Job). Answers document grid planned levels comparison all points) (sym is_jobs)
    (subst (λ (all : List Point). Answers document grid planned levels comparison document.jobs all) (sym is_points) (answers_itself document grid planned levels comparison))

-- the line of a stretch that is too fast, field by field
pub side_line : (name fault first units second from third to fourth top : List ℕ) →
    (((((((((name ++ 32 ∷ fault) ++ 32 ∷ first) ++ 32 ∷ units) ++ 32 ∷ second) ++ 32 ∷ from) ++ 32 ∷ third) ++ 32 ∷ to) ++ 32 ∷ fourth) ++ 32 ∷ top) ++ 10 ∷ []
    ≡ line (name ∷ fault ∷ first ∷ units ∷ second ∷ from ∷ third ∷ to ∷ fourth ∷ top ∷ [])
side_line name fault first units second from third to fourth top =
    ap (λ l. l ++ 10 ∷ [])
    (next_field name (fault ∷ first ∷ units ∷ second ∷ from ∷ third ∷ to ∷ fourth ∷ []) top _
    (next_field name (fault ∷ first ∷ units ∷ second ∷ from ∷ third ∷ to ∷ []) fourth _
    (next_field name (fault ∷ first ∷ units ∷ second ∷ from ∷ third ∷ []) to _
    (next_field name (fault ∷ first ∷ units ∷ second ∷ from ∷ []) third _
    (next_field name (fault ∷ first ∷ units ∷ second ∷ []) from _
    (next_field name (fault ∷ first ∷ units ∷ []) second _
    (next_field name (fault ∷ first ∷ []) units _
    (next_field name (fault ∷ []) first _
    (next_field name [] fault name (sym (append-nil name)))))))))))
    ∙ spaced_line name (fault ∷ first ∷ units ∷ second ∷ from ∷ third ∷ to ∷ fourth ∷ top ∷ [])

-- the line of a point and the time beside it
pub timed_within : (table : List Point) (times : List Fraction) (i : ℕ) → i < length table → i < length times → i < length (zip table times)
timed_within table times i in_table in_times = omega (arith, length-zip table times)

pub timed_at : (table : List Point) (times : List Fraction) (i : ℕ) (point : Point) (time : Fraction) → i < length table → i < length times →
    point ≡ get_or table i point → time ≡ get_or times i time → get_or (zip table times) i (point, time) ≡ (point, time)
timed_at table times i point time in_table in_times is_point is_time =
    get_or-zip table times i (point, time) in_table in_times
    ∙ ap₂ (λ (p : Point) (t : Fraction). (p, t)) (sym is_point) (sym is_time)

-- there are no more lines than points, and than times
pub timed_few : (table : List Point) (times : List Fraction) (i : ℕ) → (length table ≤ i) ⊎ (length times ≤ i) → length (zip table times) ≤ i
timed_few table times i (inl few) = omega (arith, few, length-zip table times)
timed_few table times i (inr few) = omega (arith, few, length-zip table times)
