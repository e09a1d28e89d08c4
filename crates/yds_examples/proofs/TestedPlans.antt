-- Tests of what is said of levels: the conditions of a proper certificate, verdicts and judgements, and the conditions of a plan.
use Rattle.yds_model.proofs.Common.{◌≡◌, ℕ, ◌+◌, ◌*◌, ◌<◌, ◌≤◌, List, [], ◌∷◌, length, take, true, zero, suc, Option, Some, None, Bool, false, refl, subst, arith, All, Contains, ◌≢◌, Decides, Each, Job, job_at, WrittenSlot, IsScale, slots_at, written_slot_at, Piece, AreApart, PiecesFrom, IsConfined, Level, level_at, all_members, all_pieces, PiecesStand, StandsOnce, SumsAgree, IsNotFaster, IsWindowCovered, AreLevels, IsProper, IsServedInStretches, IsPlan, IsSlower, DontTouch, Rise, HasLevelDenominators, HasWrittenSpeed, Judgement, Accepted, Slots, Pieces, Members, Sums, Order, Window, Speed, IsJudgement, IsLess, Point, Verdict, Feasible, Backward, Overlap, Early, Late, OffPoint, WrongWork, RunsAt, IsOnTable, IsAfterOthers, Stands, ComesTo, AllStand, IsVerdict}
use Rattle.yds_energy.proofs.Finer.{each_scale_of}
use Rattle.yds_energy.proofs.RunScale.{served_free}
use Rattle.yds_laws.proofs.Judgements.{judgement_is_exact}
use Rattle.yds_examples.proofs.Tests.{Test, tests, proved, test_le, test_each, test_before, test_between, test_grid, test_implied, test_contains, test_both, test_all, test_any, test_like, test_never}
use Rattle.yds_examples.proofs.TestedSchedules.{is_scale, are_slots, served_in_stretches}

-- # The conditions of a proper certificate

-- the levels have work and length, and their members are jobs
abbrev pub are_levels : (jobs : List Job) (levels : List Level) → Test (AreLevels jobs levels)
are_levels jobs levels = hlevel (
  tests,
  test_all (λ (level : Level). test_both (test_le 1 level.work) (test_le 1 level.length)) levels,
  test_all (λ (level : Level). test_all (λ number. test_le (suc number) (length jobs)) level.members) levels,
)

-- the pieces lie one after another
abbrev pub pieces_from : (start : ℕ) (pieces : List Piece) → Test (PiecesFrom start pieces)
pieces_from start [] = hlevel tests
pieces_from start (piece ∷ pieces) = hlevel (tests, pieces_from piece.to pieces)

-- two pieces apart
abbrev pub are_apart : (one other : Piece) → Test (AreApart one other)
are_apart one other = hlevel tests

-- the level's pieces
abbrev pub pieces_stand : (levels : List Level) (i : ℕ) → Test (PiecesStand levels i)
pieces_stand levels i =
    hlevel (tests, pieces_from, test_all (λ piece. test_all (are_apart piece) (all_pieces (take i levels))) (level_at levels i).pieces)

-- each job is a member once
abbrev pub stands_once : (jobs : List Job) (levels : List Level) (number : ℕ) → Test (StandsOnce jobs levels number)
stands_once jobs levels number = hlevel tests

-- the sums agree
abbrev pub sums_agree : (jobs : List Job) (levels : List Level) (i : ℕ) → Test (SumsAgree jobs levels i)
sums_agree jobs levels i = hlevel tests

-- no level is faster than the one before it,
abbrev pub not_faster : (levels : List Level) (i : ℕ) → Test (IsNotFaster levels i)
not_faster levels i =
    test_before (λ before. test_le ((level_at levels i).work * (level_at levels before).length) ((level_at levels before).work * (level_at levels i).length)) i

-- and in a plan each is slower
abbrev pub slower : (levels : List Level) (i : ℕ) → Test (IsSlower levels i)
slower levels i = test_before (λ before. hlevel tests) i

-- a job confined to pieces
abbrev pub confined : (job : Job) (pieces : List Piece) → Test (IsConfined job pieces)
confined job pieces =
    test_between (λ time. test_any (λ (piece : Piece). test_both (test_le piece.from time) (test_le (suc time) piece.to)) pieces) job.release job.deadline

-- by the pieces of the job's own level and of earlier ones
abbrev pub window_covered : (jobs : List Job) (levels : List Level) (number : ℕ) → Test (IsWindowCovered jobs levels number)
window_covered jobs levels number =
    test_each (λ i. test_implied (test_contains (level_at levels i).members number) (confined (job_at jobs number) (all_pieces (take (i + 1) levels)))) (length levels)

-- a slot has the speed of its job's level
abbrev pub written_speed : (levels : List Level) (slots : List WrittenSlot) (s : ℕ) → Test (HasWrittenSpeed levels slots s)
written_speed levels slots s = test_each (λ i. hlevel tests) (length levels)

-- # The conditions of a plan

-- neighbours that don't touch
abbrev pub dont_touch : (pieces : List Piece) → Test (DontTouch pieces)
dont_touch [] = hlevel tests
dont_touch (piece ∷ []) = hlevel tests
dont_touch (piece ∷ next ∷ pieces) = hlevel (tests, dont_touch (next ∷ pieces))

-- rising numbers
abbrev pub rise : (numbers : List ℕ) → Test (Rise numbers)
rise [] = hlevel tests
rise (number ∷ []) = hlevel tests
rise (number ∷ next ∷ numbers) = hlevel (tests, rise (next ∷ numbers))

-- the slot at a place has its level's denominators
abbrev pub has_denominators : (levels : List Level) (slots : List WrittenSlot) (i s : ℕ) →
    Test (Contains (level_at levels i).members (written_slot_at slots s).job → HasLevelDenominators (level_at levels i) (written_slot_at slots s))
has_denominators levels slots i s = hlevel tests

-- # Verdicts and judgements

-- a point has the slot's speed
abbrev pub runs_at : (slot : WrittenSlot) (point : Point) → Test (RunsAt point.speed slot)
runs_at slot point = hlevel tests

-- where a table is given
abbrev pub on_table : (table : Option (List Point)) (slot : WrittenSlot) → Test (IsOnTable table slot)
on_table None slot = hlevel tests
on_table (Some points) slot = hlevel (tests, runs_at)

-- the slot before it has ended
abbrev pub after_others : (slots : List WrittenSlot) (i : ℕ) → Test (IsAfterOthers slots i)
after_others slots i = test_before (λ before. hlevel tests) i

-- a verdict other than 'feasible'
abbrev pub fault : Verdict → Bool
fault Feasible = false
fault _ = true

pub fault_decided : (verdict : Verdict) → Decides (fault verdict) (verdict ≢ Feasible)
fault_decided Feasible = (λ e. absurd cc, λ other. absurd (other refl))
fault_decided _ = (λ e same. absurd cc, λ other. refl)

abbrev pub is_fault : (verdict : Verdict) → Test (verdict ≢ Feasible)
is_fault verdict = record { passes = fault verdict; decides = fault_decided verdict }

module _ (jobs : List Job) (table : Option (List Point)) (slots : List WrittenSlot) where
  -- the slot at a place stands
  abbrev pub stands : (i : ℕ) → Test (Stands jobs table slots i)
  stands i = hlevel (tests, on_table, after_others)

  -- all before it stand
  abbrev pub comes_to : (i : ℕ) → Test (ComesTo jobs table slots i)
  comes_to i = hlevel (tests, stands)

  -- all stand, and each job gets its work
  abbrev pub all_stand : Test (AllStand jobs table slots)
  all_stand = hlevel (tests, stands)

  -- the slot after one comes too early
  abbrev pub overlaps : (i : ℕ) → Test (ComesTo jobs table slots (suc i) × IsLess (written_slot_at slots (suc i)).from (written_slot_at slots (suc i)).to
      × IsLess (written_slot_at slots (suc i)).from (written_slot_at slots i).to)
  overlaps i = hlevel (tests, comes_to)

  -- a verdict
  abbrev pub is_verdict : (verdict : Verdict) → Test (IsVerdict jobs table slots verdict)
  is_verdict Feasible = all_stand
  is_verdict (Backward i) = hlevel (tests, comes_to)
  is_verdict (Overlap zero) = test_like (λ none. absurd none) (λ is. let next = is.is_before in absurd (omega arith)) test_never
  is_verdict (Overlap (suc i)) =
      test_like (λ h. record { comes = h.0; forward = h.1; before = i; is_before = omega arith; overlaps = h.2 })
      (λ is. let next = is.is_before in
      (is.comes, is.forward, subst (λ before. IsLess (written_slot_at slots (suc i)).from (written_slot_at slots before).to) (omega arith) is.overlaps)) (overlaps i)
  is_verdict (Early i) = hlevel (tests, comes_to, after_others)
  is_verdict (Late i) = hlevel (tests, comes_to, after_others)
  is_verdict (OffPoint i) = hlevel (tests, comes_to, after_others, on_table)
  is_verdict (WrongWork job given wanted) = hlevel (tests, stands)

module _ (jobs : List Job) (slots : List WrittenSlot) (levels : List Level) where
  -- a judgement
  abbrev pub is_judgement : (judgement : Judgement) → Test (IsJudgement jobs slots levels judgement)
  is_judgement Accepted = hlevel (tests, all_stand, pieces_stand, stands_once, sums_agree, not_faster, window_covered, written_speed)
  is_judgement (Slots verdict) = hlevel (tests, is_verdict, is_fault)
  is_judgement (Pieces i) = hlevel (tests, all_stand, pieces_stand)
  is_judgement (Members job) = hlevel (tests, all_stand, pieces_stand, stands_once)
  is_judgement (Sums i) = hlevel (tests, all_stand, pieces_stand, stands_once, sums_agree)
  is_judgement (Order i) = hlevel (tests, all_stand, pieces_stand, stands_once, sums_agree, not_faster)
  is_judgement (Window job) = hlevel (tests, all_stand, pieces_stand, stands_once, sums_agree, not_faster, window_covered)
  is_judgement (Speed s) = hlevel (tests, all_stand, pieces_stand, stands_once, sums_agree, not_faster, window_covered, written_speed)

-- # Certificates and plans as a whole

-- a certificate is proper where it is accepted
pub proper_by_test : (jobs : List Job) (slots : List WrittenSlot) (levels : List Level) → (are_slots (length jobs) slots).passes ≡ true →
    (are_levels jobs levels).passes ≡ true → (is_judgement jobs slots levels Accepted).passes ≡ true → IsProper jobs slots levels
proper_by_test jobs slots levels are well_formed accepted =
    (judgement_is_exact jobs slots levels (proved (are_slots (length jobs) slots) are) (proved (are_levels jobs levels) well_formed)).0
    (proved (is_judgement jobs slots levels Accepted) accepted)

-- written slots that are served in stretches at a scale are so at each
pub served_by_test : (jobs : List Job) (slots : List WrittenSlot) (scale : ℕ) → (is_scale scale slots).passes ≡ true →
    (served_in_stretches jobs scale (slots_at scale slots)).passes ≡ true →
    (other : ℕ) → IsScale other slots → IsServedInStretches jobs other (slots_at other slots)
served_by_test jobs slots scale is passed =
    (each_scale_of (IsServedInStretches jobs) (served_free jobs) slots scale (proved (is_scale scale slots) is) (proved (served_in_stretches jobs scale (slots_at scale slots)) passed)).holds

-- all that makes a plan, besides that the certificate is proper and the slots are served in stretches
abbrev pub is_plan_form : (jobs : List Job) (slots : List WrittenSlot) (levels : List Level) → Test (
    Each (length levels) (IsSlower levels) × All (λ level. DontTouch level.pieces) levels × All (λ level. Rise level.members) levels
    × All (λ number. 1 ≤ (job_at jobs number).work) (all_members levels) × (length slots ≤ 3 * length jobs) × (length (all_pieces levels) ≤ 3 * length jobs)
    × ((i s : ℕ) → i < length levels → s < length slots →
    Contains (level_at levels i).members (written_slot_at slots s).job → HasLevelDenominators (level_at levels i) (written_slot_at slots s)))
is_plan_form jobs slots levels =
    hlevel (tests, slower, λ (level : Level). dont_touch level.pieces, λ (level : Level). rise level.members, test_grid (has_denominators levels slots))

-- a proper certificate of slots that are served in stretches is a plan where it passes the test
pub plan_by_test : (jobs : List Job) (slots : List WrittenSlot) (levels : List Level) → IsProper jobs slots levels →
    ((scale : ℕ) → IsScale scale slots → IsServedInStretches jobs scale (slots_at scale slots)) → (is_plan_form jobs slots levels).passes ≡ true → IsPlan jobs slots levels
plan_by_test jobs slots levels proper served passed =
    let form = proved (is_plan_form jobs slots levels) passed in
    record { proper = proper; falling = form.0; pieces_apart = form.1; members_rise = form.2; members_work = form.3; served = served; few_slots = form.4; few_pieces = form.5; denominators = form.6 }
