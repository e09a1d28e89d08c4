-- Of jobs, slots and levels just one judgement is so.
use Rattle.yds_model.proofs.Common.{◌≡◌, ℕ, zero, suc, List, length, refl, arith, None, Each, Job, WrittenSlot, Level, PiecesStand, StandsOnce, SumsAgree, IsNotFaster, IsWindowCovered, Verdict, Feasible, IsVerdict, Judgement, Accepted, Slots, Pieces, Members, Sums, Order, Window, Speed, HasWrittenSpeed, SlotsHold, PiecesHold, MembersHold, SumsHold, OrderHolds, WindowsHold, IsJudgement, IsFirstFailure}
use Rattle.model_lemmas.proofs.FirstFailure.{IsFirst, each_none, each_more, one_stage, one_place}
use Rattle.model_lemmas.proofs.OneVerdict.{verdict_is_unique}
use Rattle.yds_laws.specs.Laws.{JudgementIsUnique}

module _ (jobs : List Job) (slots : List WrittenSlot) (levels : List Level) where
  -- the conditions in the order in which they are tried, and then none
  abbrev Test : ℕ → ℕ → Type 0
  Test zero = λ place. IsVerdict jobs None slots Feasible
  Test (suc zero) = PiecesStand levels
  Test (suc (suc zero)) = StandsOnce jobs levels
  Test (suc (suc (suc zero))) = SumsAgree jobs levels
  Test (suc (suc (suc (suc zero)))) = IsNotFaster levels
  Test (suc (suc (suc (suc (suc zero))))) = IsWindowCovered jobs levels
  Test (suc (suc (suc (suc (suc (suc zero)))))) = HasWrittenSpeed levels slots
  Test (suc (suc (suc (suc (suc (suc (suc stage))))))) = λ place. ⊥

  -- how many places a condition has
  abbrev places : ℕ → ℕ
  places zero = 1
  places (suc zero) = length levels
  places (suc (suc zero)) = length jobs
  places (suc (suc (suc zero))) = length levels
  places (suc (suc (suc (suc zero)))) = length levels
  places (suc (suc (suc (suc (suc zero))))) = length jobs
  places (suc (suc (suc (suc (suc (suc zero)))))) = length slots
  places (suc (suc (suc (suc (suc (suc (suc stage))))))) = 1

  -- the judgement of a failure
  abbrev told : ℕ → ℕ → Verdict → Judgement
  told zero place verdict = Slots verdict
  told (suc zero) place verdict = Pieces place
  told (suc (suc zero)) place verdict = Members place
  told (suc (suc (suc zero))) place verdict = Sums place
  told (suc (suc (suc (suc zero)))) place verdict = Order place
  told (suc (suc (suc (suc (suc zero))))) place verdict = Window place
  told (suc (suc (suc (suc (suc (suc zero)))))) place verdict = Speed place
  told (suc (suc (suc (suc (suc (suc (suc stage))))))) place verdict = Accepted

  -- all places of a stage meet its condition
  abbrev Stage : ℕ → Type 0
  Stage s = Each (places s) (Test s)

  -- where a condition is tried, those before it hold: before the pieces that of the slots
  after_slots : SlotsHold jobs slots → Each 1 Stage
  after_slots holds = each_more Stage 0 (each_none Stage) (λ place within. holds)

  -- those before the members
  after_pieces : PiecesHold jobs slots levels → Each 2 Stage
  after_pieces holds = each_more Stage 1 (after_slots holds.0) holds.1

  -- those before the sums
  after_members : MembersHold jobs slots levels → Each 3 Stage
  after_members holds = each_more Stage 2 (after_pieces holds.0) holds.1

  -- those before the order
  after_sums : SumsHold jobs slots levels → Each 4 Stage
  after_sums holds = each_more Stage 3 (after_members holds.0) holds.1

  -- those before the windows
  after_order : OrderHolds jobs slots levels → Each 5 Stage
  after_order holds = each_more Stage 4 (after_sums holds.0) holds.1

  -- those before the speeds
  after_windows : WindowsHold jobs slots levels → Each 6 Stage
  after_windows holds = each_more Stage 5 (after_order holds.0) holds.1

  -- a judgement that is so is the one of the first failure
  record IsTold (judgement : Judgement) : Type 0 where
    stage : ℕ
    place : ℕ
    verdict : Verdict
    is : judgement ≡ told stage place verdict
    first : IsFirst places Test stage place
    is_verdict : IsVerdict jobs None slots verdict

  -- the judgement of a failure after the slots
  first_told : (stage place : ℕ) → SlotsHold jobs slots → Each stage Stage → IsFirstFailure (places stage) (Test stage) place →
      IsTold (told stage place Feasible)
  first_told stage place holds stages failure = grind arith

  -- each judgement that is so
  judgement_told : (judgement : Judgement) → IsJudgement jobs slots levels judgement → IsTold judgement
  judgement_told Accepted is =
      first_told 7 0 is.0.0.0.0.0.0 (each_more Stage 6 (after_windows is.0) is.1)
      (record { within = omega arith; before = each_none (Test 7); fails = λ none. none })
  judgement_told (Slots verdict) is = record {
    stage = 0;
    place = 0;
    verdict = verdict;
    is = refl;
    first = record {
      stages = each_none Stage;
      within = omega arith;
      before = each_none (Test 0);
      fails = λ feasible. is.1 (verdict_is_unique jobs None slots verdict Feasible is.0 feasible);
    };
    is_verdict = is.0;
  }
  judgement_told (Pieces level) is = first_told 1 level is.0 (after_slots is.0) is.1
  judgement_told (Members job) is = first_told 2 job is.0.0 (after_pieces is.0) is.1
  judgement_told (Sums level) is = first_told 3 level is.0.0.0 (after_members is.0) is.1
  judgement_told (Order level) is = first_told 4 level is.0.0.0.0 (after_sums is.0) is.1
  judgement_told (Window job) is = first_told 5 job is.0.0.0.0.0 (after_order is.0) is.1
  judgement_told (Speed slot) is = first_told 6 slot is.0.0.0.0.0.0 (after_windows is.0) is.1

-- two judgements are of one first failure
pub judgement_is_unique : JudgementIsUnique
judgement_is_unique jobs slots levels judgement other is is_other =
    let one = judgement_told jobs slots levels judgement is in
    let two = judgement_told jobs slots levels other is_other in
    let stage = one_stage (places jobs slots levels) (Test jobs slots levels) one.stage one.place two.stage two.place one.first two.first in
    let place = one_place (places jobs slots levels) (Test jobs slots levels) one.stage one.place two.stage two.place one.first two.first in
    let verdict = verdict_is_unique jobs None slots one.verdict two.verdict one.is_verdict two.is_verdict in
    cc (one.is, two.is)
