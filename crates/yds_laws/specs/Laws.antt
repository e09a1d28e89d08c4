-- The laws of schedules, certificates and plans. Each is the contract of a public function of this crate.
use Rattle.std.specs.Prelude.{◌≡◌, ℕ, ◌+◌, ◌-◌, ◌*◌, ◌<◌, ◌≤◌, ◌↔◌, List, ◌++◌, length}
use Rattle.std.specs.List.{All}
use Rattle.base.specs.Numbers.{AreDifferent}
use Rattle.yds_model.specs.Job.{Job, job_at, work_of}
use Rattle.yds_model.specs.Slot.{WrittenSlot, WholeSlot, IsScale, slots_at}
use Rattle.yds_model.specs.Feasible.{IsFeasibleAt, IsFeasible}
use Rattle.yds_model.specs.Excess.{excess, IsLeast}
use Rattle.yds_model.specs.Piece.{Piece, IsConfined, total_length}
use Rattle.yds_model.specs.Level.{Level, level_at}
use Rattle.yds_model.specs.Explains.{Explains}
use Rattle.yds_model.specs.Proper.{IsProper, AreLevels}
use Rattle.yds_model.specs.Plan.{IsPlan}
use Rattle.yds_model.specs.Audit.{AreSlots}
use Rattle.yds_model.specs.Judgement.{Judgement, Accepted, IsJudgement}

-- The confinement bound: different jobs that are confined to pieces force, in every feasible schedule, an excess of at
-- least the work that the pieces don't take at the speed p/q.
abbrev pub ConfinementBound : Type 0
ConfinementBound = (jobs : List Job) (scale p q : ℕ) (slots : List WholeSlot) (members : List ℕ) (pieces : List Piece) →
    1 ≤ scale → AreDifferent members → All (λ number. number < length jobs) members →
    All (λ number. IsConfined (job_at jobs number) pieces) members → IsFeasibleAt jobs scale slots →
    q * scale * work_of jobs members ≤ excess p q slots + p * scale * total_length pieces

-- A proper certificate explains its schedule.
abbrev pub ProperExplains : Type 0
ProperExplains = (jobs : List Job) (slots : List WrittenSlot) (levels : List Level) → IsProper jobs slots levels →
    Explains jobs slots levels

-- What is explained is least.
abbrev pub ExplainedIsLeast : Type 0
ExplainedIsLeast = (jobs : List Job) (slots : List WrittenSlot) (levels : List Level) → Explains jobs slots levels →
    IsLeast jobs slots

-- A least schedule does no more work above any speed than any feasible written schedule, whatever its denominators are.
abbrev pub LeastAmongWritten : Type 0
LeastAmongWritten = (jobs : List Job) (slots others : List WrittenSlot) (scale p q : ℕ) → IsLeast jobs slots →
    IsFeasible jobs others → IsScale scale (slots ++ others) → 1 ≤ q →
    excess p q (slots_at scale slots) ≤ excess p q (slots_at scale others)

-- Check: the judgement is 'accepted' exactly where the certificate is proper.
abbrev pub JudgementIsExact : Type 0
JudgementIsExact = (jobs : List Job) (slots : List WrittenSlot) (levels : List Level) → AreSlots (length jobs) slots → AreLevels jobs levels →
    (IsJudgement jobs slots levels Accepted ↔ IsProper jobs slots levels)

-- Check: two judgements of the same jobs, slots and levels are one.
abbrev pub JudgementIsUnique : Type 0
JudgementIsUnique = (jobs : List Job) (slots : List WrittenSlot) (levels : List Level) (judgement other : Judgement) →
    IsJudgement jobs slots levels judgement → IsJudgement jobs slots levels other → judgement ≡ other

-- A plan's schedule is least, and its levels explain it.
abbrev pub PlansAreLeast : Type 0
PlansAreLeast = (jobs : List Job) (slots : List WrittenSlot) (levels : List Level) → IsPlan jobs slots levels →
    IsLeast jobs slots × Explains jobs slots levels

-- Two plans of the same jobs have the same levels by work and length.
abbrev pub PlansHaveTheSameLevels : Type 0
PlansHaveTheSameLevels = (jobs : List Job) (slots others : List WrittenSlot) (levels others_levels : List Level) →
    IsPlan jobs slots levels → IsPlan jobs others others_levels →
    (length levels ≡ length others_levels)
    × ((i : ℕ) → i < length levels → ((level_at levels i).work ≡ (level_at others_levels i).work) × ((level_at levels i).length ≡ (level_at others_levels i).length))

-- A plan has no slot of a job without work.
abbrev pub PlansServeWork : Type 0
PlansServeWork = (jobs : List Job) (slots : List WrittenSlot) (levels : List Level) → IsPlan jobs slots levels →
    All (λ slot. 1 ≤ (job_at jobs slot.job).work) slots

-- A feasible schedule at or below a whole speed serves each interval: the work confined to it is at most the speed times its
-- length.
abbrev pub ServedAtSpeed : Type 0
ServedAtSpeed = (jobs : List Job) (scale top from to : ℕ) (slots : List WholeSlot) (members : List ℕ) →
    1 ≤ scale → from < to → IsFeasibleAt jobs scale slots → All (λ slot. slot.work ≤ top * (slot.to - slot.from)) slots →
    AreDifferent members → All (λ number. number < length jobs) members →
    All (λ number. (from ≤ (job_at jobs number).release) × ((job_at jobs number).deadline ≤ to)) members →
    work_of jobs members ≤ top * (to - from)
