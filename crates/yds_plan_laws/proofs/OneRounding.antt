-- A plan is rounded in one way: stretch by stretch its slots are kept or split between the same two points, and each slot is spelled in one way.
use Rattle.yds_model.proofs.Common.{◌≡◌, ◌⊎◌, ℕ, ◌-◌, ◌*◌, ◌<◌, ◌≤◌, List, [], ◌∷◌, ◌++◌, map, drop, refl, sym, ap, subst, ◌∙◌, arith, inl, inr, All, All-append, All-nil, All-tail, All-front, All-back, Contains, mul-le-mul_right, lt_of_mul-lt-mul_right, All-contains, jobs_in_turn, IsSplitAt, AreDifferent, Job, WrittenSlot, WholeSlot, IsDivided, IsScale, slot_at, slots_at, Piece, PiecesFrom, Level, LiesIn, stretches, Point, AreRising, HasLevelDenominators, HasSplitDenominators, speed_num, speed_den, SplitsStretch, RoundsStretch, RoundsStretches, IsSlot, common_multiple}
use Rattle.yds_model.specs.Plan.{IsOver}
use Rattle.yds_model.specs.Rounding.{KeepsStretch}
use Rattle.yds_laws.proofs.Bound.{scale_left, scale_right}
use Rattle.yds_energy.proofs.PlanParts.{scale_joined}
use Rattle.yds_energy.proofs.RoundedFeasible.{all_lie, parts_at}
use Rattle.yds_plan_laws.proofs.FewRounded.{job_of, jobs_written}
use Rattle.yds_plan_laws.proofs.OneStretch.{neighbours_once, point_or_neighbours, parted_once, OnceEach, once_front, once_back, stretch_different, no_turns, split_once}
use Rattle.yds_plan_laws.proofs.Spelled.{slot_spelled_once}

-- # Spelling

-- the slot's ends are over the one number and its work is over the other
abbrev Over : ℕ → ℕ → WrittenSlot → Type 0
Over ends works slot = IsOver ends slot.from × IsOver ends slot.to × IsOver works slot.work

-- slots that are the same at a scale are one list where they are spelled alike
spelled_alike : (scale ends works : ℕ) (slots others : List WrittenSlot) → 1 ≤ scale → All (IsDivided scale) slots → All (IsDivided scale) others → All IsSlot slots → All IsSlot others →
    All (Over ends works) slots → All (Over ends works) others → slots_at scale slots ≡ slots_at scale others → slots ≡ others
spelled_alike scale ends works [] [] positive is also fits fit over under same = refl
spelled_alike scale ends works [] (other ∷ others) positive is also fits fit over under same = absurd cc
spelled_alike scale ends works (slot ∷ slots) [] positive is also fits fit over under same = absurd cc
spelled_alike scale ends works (slot ∷ slots) (other ∷ others) positive is also fits fit over under same =
    let mine = over 0 slot (omega arith) in
    let its = under 0 other (omega arith) in
    let head : slot ≡ other = slot_spelled_once scale ends works slot other positive (is 0 slot (omega arith)) (also 0 other (omega arith)) (fits 0 slot (omega arith))
    (fit 0 other (omega arith)) mine.0 its.0 mine.1 its.1 mine.2 its.2 (ap (λ (some : List WholeSlot). slot_at some 0) same) in
    let rest = spelled_alike scale ends works slots others positive (All-tail (IsDivided scale) slot slots is) (All-tail (IsDivided scale) other others also)
    (All-tail IsSlot slot slots fits) (All-tail IsSlot other others fit) (All-tail (Over ends works) slot slots over) (All-tail (Over ends works) other others under) (ap (drop 1) same) in
    cc (head, rest)

-- no slots at a scale are none that are written
none_written : (scale : ℕ) (slots : List WrittenSlot) → slots_at scale slots ≡ [] → slots ≡ []
none_written scale [] none = refl
none_written scale (slot ∷ slots) none = absurd cc

-- a scale of slots, and of others in two parts
three_at : (scale : ℕ) (slots one other : List WrittenSlot) → IsScale scale slots → IsScale scale (one ++ other) → IsScale scale (slots ++ one ++ other)
three_at scale slots one other is both =
    scale_joined scale (slots ++ one) other (scale_joined scale slots one is (scale_left scale one other both)) (scale_right scale one other both)

-- # A part of a plan, and what is written for it

-- the slot is spelled by its job's levels
abbrev pub IsByLevels : List Level → WrittenSlot → Type 0
IsByLevels levels slot = (level : Level) → Contains levels level → Contains level.members slot.job → HasLevelDenominators level slot

-- What is known of them at a scale of both.
pub record IsPart (jobs : List Job) (levels : List Level) (scale : ℕ) (planned written : List WrittenSlot) : Type 0 where
  pub is : IsScale scale planned
  pub is_written : IsScale scale written
  pub fits : All IsSlot written
  pub by_levels : All (IsByLevels levels) planned
  pub takes : All (λ slot. slot.from < slot.to) (slots_at scale planned)
  pub once : OnceEach jobs scale (slots_at scale planned)

-- the first of two parts,
front_part : (jobs : List Job) (levels : List Level) (scale : ℕ) (here later made more : List WrittenSlot) → IsPart jobs levels scale (here ++ later) (made ++ more) →
    IsPart jobs levels scale here made
front_part jobs levels scale here later made more part =
    let same = parts_at scale (here ++ later) here later refl in
    record {
      is = scale_left scale here later part.is;
      is_written = scale_left scale made more part.is_written;
      fits = All-front IsSlot made more part.fits;
      by_levels = All-front (IsByLevels levels) here later part.by_levels;
      takes = All-front (λ slot. slot.from < slot.to) (slots_at scale here) (slots_at scale later) (subst (All (λ slot. slot.from < slot.to)) same part.takes);
      once = once_front jobs scale (slots_at scale here) (slots_at scale later) (subst (OnceEach jobs scale) same part.once);
    }

-- and the second
back_part : (jobs : List Job) (levels : List Level) (scale : ℕ) (here later made more : List WrittenSlot) → IsPart jobs levels scale (here ++ later) (made ++ more) →
    IsPart jobs levels scale later more
back_part jobs levels scale here later made more part =
    let same = parts_at scale (here ++ later) here later refl in
    record {
      is = scale_right scale here later part.is;
      is_written = scale_right scale made more part.is_written;
      fits = All-back IsSlot made more part.fits;
      by_levels = All-back (IsByLevels levels) here later part.by_levels;
      takes = All-back (λ slot. slot.from < slot.to) (slots_at scale here) (slots_at scale later) (subst (All (λ slot. slot.from < slot.to)) same part.takes);
      once = once_back jobs scale (slots_at scale here) (slots_at scale later) (subst (OnceEach jobs scale) same part.once);
    }

-- what lies in pieces that begin at a time begins no sooner
behind_time : (hull : List Point) (levels : List Level) (scale start : ℕ) (pieces : List Piece) (planned written : List WrittenSlot) → PiecesFrom start pieces → IsScale scale planned →
    RoundsStretches hull levels pieces planned written → All (λ slot. start * scale ≤ slot.from) (slots_at scale planned)
behind_time hull levels scale start [] planned written order is (none, nothing) =
    subst (λ (some : List WrittenSlot). All (λ slot. start * scale ≤ slot.from) (slots_at scale some)) (sym none) (All-nil (λ slot. start * scale ≤ slot.from))
behind_time hull levels scale start (stretch ∷ pieces) planned written order is (here, later, made, more, parts, made_parts, lies, rounds, rest) =
    let whole : IsScale scale (here ++ later) = subst (IsScale scale) parts is in
    let within = all_lie scale here stretch (scale_left scale here later whole) lies in
    let after = behind_time hull levels scale stretch.to pieces later more order.2 (scale_right scale here later whole) rest in
    subst (All (λ slot. start * scale ≤ slot.from)) (sym (parts_at scale planned here later parts))
    (All-append (λ slot. start * scale ≤ slot.from) (slots_at scale here) (slots_at scale later)
    (λ k d inside. omega (arith, (within k d inside).from, mul-le-mul_right scale order.0))
    (λ k d inside. omega (arith, after k d inside, mul-le-mul_right scale order.0, mul-le-mul_right scale order.1)))

-- # A stretch

module _ (jobs : List Job) (hull : List Point) (levels : List Level) (scale : ℕ) (rising : AreRising hull) (some : All (λ level. 1 ≤ level.length) levels)
    (single : (level other : Level) (number : ℕ) → Contains levels level → Contains levels other → Contains level.members number → Contains other.members number → level ≡ other) where
  -- where the plan has nothing, nothing is written
  nothing_written : (stretch : Piece) (planned written : List WrittenSlot) → planned ≡ [] → IsScale scale planned → IsScale scale written →
      RoundsStretch hull levels stretch planned written → written ≡ []
  nothing_written stretch planned written none is is_written (inl (empty, nothing)) = nothing
  nothing_written stretch planned written none is is_written (inr (level, has, members, inl kept)) = kept.kept ∙ none
  nothing_written stretch planned written none is is_written (inr (level, has, members, inr split)) =
      let both : IsScale scale (split.fast ++ split.slow) = subst (IsScale scale) split.parts is_written in
      let at = split.split.holds scale (three_at scale planned split.fast split.slow is both) in
      none_written scale written (parts_at scale written split.fast split.slow split.parts
      ∙ no_turns (slots_at scale split.fast ++ slots_at scale split.slow) (at.same_order ∙ ap (λ (slots : List WrittenSlot). jobs_in_turn (slots_at scale slots)) none))

  -- kept slots are spelled by their level
  kept_over : (level : Level) (planned : List WrittenSlot) → Contains levels level → All (λ slot. Contains level.members slot.job) planned → All (IsByLevels levels) planned →
      All (Over (speed_num level) (speed_den level)) planned
  kept_over level planned has members by k d within =
      let dens = by k d within level has (members k d within) in (dens.from, dens.to, dens.work)

  -- and those of a split by its points
  split_over : (level : Level) (gap speed : ℕ) (slots : List WrittenSlot) → All (HasSplitDenominators level gap speed) slots →
      All (Over (speed_den level * common_multiple speed gap) (speed_den level * gap)) slots
  split_over level gap speed slots dens k d within = ((dens k d within).from, (dens k d within).to, (dens k d within).work)

  -- different jobs at a scale
  different_at : (slots : List WrittenSlot) → AreDifferent (map (λ slot. slot.job) slots) → AreDifferent (map job_of (slots_at scale slots))
  different_at slots different = subst AreDifferent (sym (jobs_written scale slots)) different

  -- two splits of what is the same at a scale are one
  splits_same : (level : Level) (stretch : Piece) (here others written made : List WrittenSlot) → Contains levels level → Contains (stretches jobs) stretch →
      IsPart jobs levels scale here written → IsPart jobs levels scale others made → All (λ slot. LiesIn scale slot stretch) (slots_at scale here) →
      slots_at scale here ≡ slots_at scale others → SplitsStretch hull level stretch here written → SplitsStretch hull level stretch others made → written ≡ made
  splits_same level stretch here others written made has place one other lies same first second =
      let near = neighbours_once hull level rising first.low first.high second.low second.high first.around second.around in
      let low = first.low in
      let high = first.high in
      let gap : ℕ = high.speed - low.speed in
      let both : IsScale scale (first.fast ++ first.slow) = subst (IsScale scale) first.parts one.is_written in
      let all : IsScale scale (second.fast ++ second.slow) = subst (IsScale scale) second.parts other.is_written in
      let fit : All IsSlot (first.fast ++ first.slow) = subst (All IsSlot) first.parts one.fits in
      let fits : All IsSlot (second.fast ++ second.slow) = subst (All IsSlot) second.parts other.fits in
      let mine = first.split.holds scale (three_at scale here first.fast first.slow one.is both) in
      let its = second.split.holds scale (three_at scale others second.fast second.slow other.is all) in
      let at_low = subst (λ (point : Point). IsSplitAt scale level point second.high stretch (slots_at scale others) (slots_at scale second.fast) (slots_at scale second.slow)) (sym near.0) its in
      let at_both = subst (λ (point : Point). IsSplitAt scale level low point stretch (slots_at scale others) (slots_at scale second.fast) (slots_at scale second.slow)) (sym near.1) at_low in
      let at_same = subst (λ (slots : List WholeSlot). IsSplitAt scale level low high stretch slots (slots_at scale second.fast) (slots_at scale second.slow)) (sym same) at_both in
      let faster : low.speed < high.speed =
      lt_of_mul-lt-mul_right level.length (omega (arith, first.around.above_low, first.around.below_high)) in
      let halves = split_once scale level low high stretch (slots_at scale here) (slots_at scale first.fast) (slots_at scale first.slow) (slots_at scale second.fast)
      (slots_at scale second.slow) (All-contains (λ one. 1 ≤ one.length) levels level some has) faster
      (stretch_different jobs scale stretch (slots_at scale here) place.0 place.1 place.2 one.once lies) (different_at first.fast first.fast_once)
      (different_at first.slow first.slow_once) (different_at second.fast second.fast_once) (different_at second.slow second.slow_once) mine at_same in
      let fast_dens = subst (λ (point : Point). All (HasSplitDenominators level (point.speed - second.low.speed) point.speed) second.fast) (sym near.1) second.fast_denominators in
      let fast_both = subst (λ (point : Point). All (HasSplitDenominators level (high.speed - point.speed) high.speed) second.fast) (sym near.0) fast_dens in
      let slow_dens = subst (λ (point : Point). All (HasSplitDenominators level (point.speed - second.low.speed) second.low.speed) second.slow) (sym near.1) second.slow_denominators in
      let slow_both = subst (λ (point : Point). All (HasSplitDenominators level (high.speed - point.speed) point.speed) second.slow) (sym near.0) slow_dens in
      let fast : first.fast ≡ second.fast = spelled_alike scale (speed_den level * common_multiple high.speed gap) (speed_den level * gap) first.fast second.fast one.is.positive
      (scale_left scale first.fast first.slow both).divided (scale_left scale second.fast second.slow all).divided (All-front IsSlot first.fast first.slow fit)
      (All-front IsSlot second.fast second.slow fits) (split_over level gap high.speed first.fast first.fast_denominators) (split_over level gap high.speed second.fast fast_both) halves.0 in
      let slow : first.slow ≡ second.slow = spelled_alike scale (speed_den level * common_multiple low.speed gap) (speed_den level * gap) first.slow second.slow one.is.positive
      (scale_right scale first.fast first.slow both).divided (scale_right scale second.fast second.slow all).divided (All-back IsSlot first.fast first.slow fit)
      (All-back IsSlot second.fast second.slow fits) (split_over level gap low.speed first.slow first.slow_denominators) (split_over level gap low.speed second.slow slow_both) halves.1 in
      first.parts ∙ ap (λ (slots : List WrittenSlot). slots ++ first.slow) fast ∙ ap (λ (slots : List WrittenSlot). second.fast ++ slots) slow ∙ sym second.parts

  -- at one level
  level_same : (level : Level) (stretch : Piece) (here others written made : List WrittenSlot) → Contains levels level → Contains (stretches jobs) stretch →
      IsPart jobs levels scale here written → IsPart jobs levels scale others made → All (λ slot. LiesIn scale slot stretch) (slots_at scale here) →
      slots_at scale here ≡ slots_at scale others → All (λ slot. Contains level.members slot.job) here → All (λ slot. Contains level.members slot.job) others →
      KeepsStretch hull level here written ⊎ SplitsStretch hull level stretch here written → KeepsStretch hull level others made ⊎ SplitsStretch hull level stretch others made → written ≡ made
  level_same level stretch here others written made has place one other lies same members more (inl first) (inl second) =
      first.kept ∙ spelled_alike scale (speed_num level) (speed_den level) here others one.is.positive one.is.divided other.is.divided (subst (All IsSlot) first.kept one.fits)
      (subst (All IsSlot) second.kept other.fits) (kept_over level here has members one.by_levels) (kept_over level others has more other.by_levels) same ∙ sym second.kept
  level_same level stretch here others written made has place one other lies same members more (inl first) (inr second) =
      absurd (point_or_neighbours hull level rising second.low second.high first.at_point second.around)
  level_same level stretch here others written made has place one other lies same members more (inr first) (inl second) =
      absurd (point_or_neighbours hull level rising first.low first.high second.at_point first.around)
  level_same level stretch here others written made has place one other lies same members more (inr first) (inr second) =
      splits_same level stretch here others written made has place one other lies same first second

  -- at the levels of both
  levels_same : (level another : Level) (stretch : Piece) (here others written made : List WrittenSlot) → Contains levels level → Contains levels another →
      Contains (stretches jobs) stretch → IsPart jobs levels scale here written → IsPart jobs levels scale others made → All (λ slot. LiesIn scale slot stretch) (slots_at scale here) →
      slots_at scale here ≡ slots_at scale others → All (λ slot. Contains level.members slot.job) here → All (λ slot. Contains another.members slot.job) others →
      KeepsStretch hull level here written ⊎ SplitsStretch hull level stretch here written → KeepsStretch hull another others made ⊎ SplitsStretch hull another stretch others made →
      (rounds : RoundsStretch hull levels stretch here written) → (rounds_others : RoundsStretch hull levels stretch others made) → written ≡ made
  levels_same level another stretch [] others written made has also place one other lies same members more first second rounds rounds_others =
      nothing_written stretch [] written refl one.is one.is_written rounds
      ∙ sym (nothing_written stretch others made (none_written scale others (sym same)) other.is other.is_written rounds_others)
  levels_same level another stretch (slot ∷ here) [] written made has also place one other lies same members more first second rounds rounds_others = absurd cc
  levels_same level another stretch (slot ∷ here) (next ∷ others) written made has also place one other lies same members more first second rounds rounds_others =
      let job : slot.job ≡ next.job = ap (λ (slots : List WholeSlot). (slot_at slots 0).job) same in
      let equal : level ≡ another = single level another slot.job has also (members 0 slot (omega arith))
      (subst (λ (n : ℕ). Contains another.members n) (sym job) (more 0 next (omega arith))) in
      level_same level stretch (slot ∷ here) (next ∷ others) written made has place one other lies same members
      (subst (λ (l : Level). All (λ slot. Contains l.members slot.job) (next ∷ others)) (sym equal) more) first
      (subst (λ (l : Level). KeepsStretch hull l (next ∷ others) made ⊎ SplitsStretch hull l stretch (next ∷ others) made) (sym equal) second)

  -- a stretch is rounded in one way
  stretch_same : (stretch : Piece) (here others written made : List WrittenSlot) → Contains (stretches jobs) stretch → IsPart jobs levels scale here written →
      IsPart jobs levels scale others made → All (λ slot. LiesIn scale slot stretch) (slots_at scale here) → slots_at scale here ≡ slots_at scale others →
      RoundsStretch hull levels stretch here written → RoundsStretch hull levels stretch others made → written ≡ made
  stretch_same stretch here others written made place one other lies same (inl first) second =
      first.1 ∙ sym (nothing_written stretch others made (none_written scale others (sym same ∙ ap (slots_at scale) first.0)) other.is other.is_written second)
  stretch_same stretch here others written made place one other lies same (inr first) (inl second) =
      nothing_written stretch here written (none_written scale here (same ∙ ap (slots_at scale) second.0)) one.is one.is_written (inr first) ∙ sym second.1
  stretch_same stretch here others written made place one other lies same (inr (level, has, members, first)) (inr (another, also, more, second)) =
      levels_same level another stretch here others written made has also place one other lies same members more first second (inr (level, has, members, first))
      (inr (another, also, more, second))

  -- # All stretches

  -- and so are all
  pub rounds_same : (start : ℕ) (pieces : List Piece) (planned others written made : List WrittenSlot) → PiecesFrom start pieces → All (Contains (stretches jobs)) pieces →
      IsPart jobs levels scale planned written → IsPart jobs levels scale others made → slots_at scale planned ≡ slots_at scale others →
      RoundsStretches hull levels pieces planned written → RoundsStretches hull levels pieces others made → written ≡ made
  rounds_same start [] planned others written made order places one other same (none, nothing) (empty, gone) = nothing ∙ sym gone
  rounds_same start (stretch ∷ pieces) planned others written made order places one other same (here, later, mine, mine_later, parts, mine_parts, lies, rounds, rest)
      (there, then, its, its_later, its_planned, its_parts, its_lies, its_rounds, its_rest) =
      let both : IsPart jobs levels scale (here ++ later) (mine ++ mine_later) =
      subst (λ (slots : List WrittenSlot). IsPart jobs levels scale (here ++ later) slots) mine_parts
      (subst (λ (slots : List WrittenSlot). IsPart jobs levels scale slots written) parts one) in
      let all : IsPart jobs levels scale (there ++ then) (its ++ its_later) =
      subst (λ (slots : List WrittenSlot). IsPart jobs levels scale (there ++ then) slots) its_parts
      (subst (λ (slots : List WrittenSlot). IsPart jobs levels scale slots made) its_planned other) in
      let front = front_part jobs levels scale here later mine mine_later both in
      let back = back_part jobs levels scale here later mine mine_later both in
      let its_front = front_part jobs levels scale there then its its_later all in
      let its_back = back_part jobs levels scale there then its its_later all in
      let within = all_lie scale here stretch front.is lies in
      let its_within = all_lie scale there stretch its_front.is its_lies in
      let halves = parted_once (stretch.to * scale) (slots_at scale here) (slots_at scale later) (slots_at scale there) (slots_at scale then)
      (λ k d inside. (within k d inside).to) (behind_time hull levels scale stretch.to pieces later mine_later order.2 back.is rest) (λ k d inside. (its_within k d inside).to)
      (behind_time hull levels scale stretch.to pieces then its_later order.2 its_back.is its_rest)
      (subst (All (λ slot. slot.from < slot.to)) (parts_at scale planned here later parts) one.takes)
      (sym (parts_at scale planned here later parts) ∙ same ∙ parts_at scale others there then its_planned) in
      let first : mine ≡ its = stretch_same stretch here there mine its (places 0 stretch (omega arith)) front its_front within halves.0 rounds its_rounds in
      let second : mine_later ≡ its_later = rounds_same stretch.to pieces later then mine_later its_later order.2 (All-tail (Contains (stretches jobs)) stretch pieces places) back its_back
      halves.1 rest its_rest in
      mine_parts ∙ ap (λ (slots : List WrittenSlot). slots ++ mine_later) first ∙ ap (λ (slots : List WrittenSlot). its ++ slots) second ∙ sym its_parts
