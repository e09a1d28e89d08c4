-- The levels of what was found: their members, their sums, and their pieces.
use Rattle.yds_model.proofs.Common.{◌≡◌, ℕ, zero, suc, ◌+◌, ◌<◌, ◌≤◌, ◌==◌, List, [], ◌∷◌, ◌∙◌, length, get_or, sym, refl, ap, arith, inl, inr, Bool, true, false, ◌-◌, map, take, cond, nat_lt, All, sum_by, filter, flat_map, range_with_len, cases_lt, cases_eq, lt-ltb, le-ltb, eqb-true, cases_order, eq-eqb, sum_by-le-sum_by, All-map, All-filter, All-head, filter_passes, get_or-map-range_with_len, length-map-range_with_len, length-range_with_len, take-map-range_with_len, length-flat_map, count, Job, Level, no_level, level_at, all_members, all_pieces, Rise, DontTouch, sum_by_same, sum_by_at_most, sum_by_zero, sum_by-map, flat_map-map, length-map, Piece, AreApart, PiecesFrom, Covers, total_length, stretches, sum_by-filter, stretch_at}
use Rattle.model_lemmas.proofs.Front.{pieces_forward, apart_turned}
use Rattle.yds_search.specs.Found.{Group, Found, group_of, group_at}
use Rattle.yds_plan.specs.Laid.{level_of, levels_among, level_of_place, together, members_of, level_numbered, levels_of, stretches_of_level, merged}
use Rattle.yds_search.proofs.KeySums.{All-range, in_range, sums_swap, not_here, is_here, one_of_range, split_sum, split_at_most, cond_at_most, count_all, sum_by-flat_map}
use Rattle.yds_plan.proofs.Merged.{all_of_blocks, some_of_blocks, Holds, merged_run, merged_apart, merged_total, merged_length, merged_stays_apart, merged_covers, some_stretches_run, some_stretches_cover}
use Rattle.yds_plan.proofs.Drafts.{among_below}
use Rattle.yds_events.specs.Window.{length_at}
use Rattle.yds_events.proofs.Neighbours.{stretch_order}

-- a level's number is that of a group's place
pub place_in_level : (groups : List Group) (g l : ℕ) → level_of_place groups g ≡ l → l < levels_among groups (length groups) →
    (g < length groups) × (level_of groups g ≡ l)
place_in_level groups g l is known = grind (arith, among_below, cases_lt, le-ltb, lt-ltb)

pub place_level : (groups : List Group) (g : ℕ) → g < length groups → level_of_place groups g ≡ level_of groups g
place_level groups g within = ap (λ b. cond b (level_of groups g) (length groups)) (lt-ltb g (length groups) within)

-- Sums over the groups of a level, each of them a sum over what is in the group: the sum over all that is in the level.
cond_sum : {X : Type 0} (b : Bool) (f : X → ℕ) (xs : List X) → cond b (sum_by f xs) 0 ≡ sum_by (λ x. cond b (f x) 0) xs
cond_sum true f xs = refl
cond_sum false f xs = sym (sum_by_zero (λ x. 0) xs (λ k d within. refl))

level_of_its_group : (groups : List Group) (l g i v : ℕ) → cond (level_of groups i == l) (cond (g == i) v 0) 0 ≡ cond (g == i) (cond (level_of groups g == l) v 0) 0
level_of_its_group groups l g i v = grind (arith, cases_eq, is_here, not_here)

place_value : (groups : List Group) (l g v : ℕ) → l < levels_among groups (length groups) →
    cond (nat_lt g (length groups)) (cond (level_of groups g == l) v 0) 0 ≡ cond (level_of_place groups g == l) v 0
place_value groups l g v known = elim (cases_lt g (length groups)) [
  | inl within ↦
      ap (λ b. cond b (cond (level_of groups g == l) v 0) 0) (lt-ltb g (length groups) within) ∙ ap (λ level. cond (level == l) v 0) (sym (place_level groups g within))
  | inr past ↦
      ap (λ b. cond b (cond (level_of groups g == l) v 0) 0) (le-ltb g (length groups) past)
      ∙ sym (not_here (level_of_place groups g) l v (λ same. absurd (omega (arith, past, (place_in_level groups g l same known).0))))
]

pub group_sum : (groups : List Group) (places : List ℕ) (v : ℕ → ℕ) (n l : ℕ) (f : Group → ℕ) →
    ((i : ℕ) → i < length groups → f (group_at groups i) ≡ sum_by (λ j. cond (group_of places j == i) (v j) 0) (range_with_len 0 n)) →
    l < levels_among groups (length groups) → together f groups l ≡ sum_by v (filter (λ j. level_of_place groups (group_of places j) == l) (range_with_len 0 n))
group_sum groups places v n l f is known =
    let all = range_with_len 0 (length groups) in
    let each = range_with_len 0 n in
    sum_by_same (λ i. cond (level_of groups i == l) (f (group_at groups i)) 0)
    (λ i. sum_by (λ j. cond (level_of groups i == l) (cond (group_of places j == i) (v j) 0) 0) each) all (λ k d within.
    let at = in_range (length groups) k d within in
    rw (at.1) (ap (λ n. cond (level_of groups k == l) n 0) (is k at.0) ∙ cond_sum (level_of groups k == l) (λ j. cond (group_of places j == k) (v j) 0) each))
    ∙ sums_swap (λ i j. cond (level_of groups i == l) (cond (group_of places j == i) (v j) 0) 0) all each
    ∙ sum_by_same (λ j. sum_by (λ i. cond (level_of groups i == l) (cond (group_of places j == i) (v j) 0) 0) all)
    (λ j. cond (level_of_place groups (group_of places j) == l) (v j) 0) each (λ k d within. one (get_or each k d))
    ∙ sym (sum_by-filter (λ j. level_of_place groups (group_of places j) == l) v each)
  where
    one : (j : ℕ) → sum_by (λ i. cond (level_of groups i == l) (cond (group_of places j == i) (v j) 0) 0) (range_with_len 0 (length groups))
        ≡ cond (level_of_place groups (group_of places j) == l) (v j) 0
    one j =
        sum_by_same (λ i. cond (level_of groups i == l) (cond (group_of places j == i) (v j) 0) 0)
        (λ i. cond (group_of places j == i) (cond (level_of groups (group_of places j) == l) (v j) 0) 0) (range_with_len 0 (length groups))
        (λ k d within. level_of_its_group groups l (group_of places j) (get_or (range_with_len 0 (length groups)) k d) (v j))
        ∙ one_of_range (length groups) (group_of places j) (cond (level_of groups (group_of places j) == l) (v j) 0)
        ∙ place_value groups l (group_of places j) (v j) known

-- numbers that rise, one below all of them
rise_more : (a : ℕ) (numbers : List ℕ) → All (λ number. a < number) numbers → Rise numbers → Rise (a ∷ numbers)
rise_more a [] above rise = tt
rise_more a (next ∷ numbers) above rise = (All-head (λ number. a < number) next numbers above, rise)

rise_step : (a : ℕ) (numbers : List ℕ) (p : Bool) → All (λ number. a < number) numbers → Rise numbers → Rise (cond p (a ∷ numbers) numbers)
rise_step a numbers true above rise = rise_more a numbers above rise
rise_step a numbers false above rise = rise

range_rise : (p : ℕ → Bool) (a n : ℕ) → Rise (filter p (range_with_len a n))
range_rise p a zero = tt
range_rise p a (suc n) =
    rise_step a (filter p (range_with_len (a + 1) n)) (p a)
    (All-filter p (λ number. a < number) (range_with_len (a + 1) n) (All-range (λ number. a < number) (a + 1) n (λ i below. omega arith))) (range_rise p (a + 1) n)

-- what holds at the place of each level
pub level_there : (jobs : List Job) (found : Found) (l : ℕ) → l < levels_among found.groups (length found.groups) →
    level_at (levels_of jobs found) l ≡ level_numbered jobs found l
level_there jobs found l known =
    get_or-map-range_with_len (level_numbered jobs found) 0 (levels_among found.groups (length found.groups)) l l no_level known (omega arith)

pub levels_length : (jobs : List Job) (found : Found) → length (levels_of jobs found) ≡ levels_among found.groups (length found.groups)
levels_length jobs found = length-map-range_with_len (level_numbered jobs found) 0 (levels_among found.groups (length found.groups))

pub each_level : (P : Level → Type 0) (jobs : List Job) (found : Found) →
    ((l : ℕ) → l < levels_among found.groups (length found.groups) → P (level_numbered jobs found l)) → All P (levels_of jobs found)
each_level P jobs found each =
    All-map P (level_numbered jobs found) (range_with_len 0 (levels_among found.groups (length found.groups)))
    (All-range (λ l. P (level_numbered jobs found l)) 0 _ (λ i below. let same : 0 + i ≡ i = omega arith in rw same (each i below)))

pub members_joined : (jobs : List Job) (found : Found) →
    all_members (levels_of jobs found) ≡ flat_map (members_of jobs found) (range_with_len 0 (levels_among found.groups (length found.groups)))
members_joined jobs found =
    flat_map-map (λ level. level.members) (level_numbered jobs found) (range_with_len 0 (levels_among found.groups (length found.groups)))

-- who is a member of a level
pub record IsMember (jobs : List Job) (found : Found) (l number : ℕ) : Type 0 where
  pub known : number < length jobs
  pub grouped : group_of found.group_of_job number < length found.groups
  pub level : level_of found.groups (group_of found.group_of_job number) ≡ l

pub each_member : (jobs : List Job) (found : Found) (l : ℕ) → l < levels_among found.groups (length found.groups) → All (IsMember jobs found l) (members_of jobs found l)
each_member jobs found l known k d within =
    let in_level = λ (j : ℕ). level_of_place found.groups (group_of found.group_of_job j) == l in
    let passes = filter_passes in_level (range_with_len 0 (length jobs)) k d within in
    let place = place_in_level found.groups _ l (eqb-true _ l passes) known in
    record {
      known = All-filter in_level (λ j. j < length jobs) (range_with_len 0 (length jobs))
          (λ i e inside. let at = in_range (length jobs) i e inside in rw (at.1) at.0) k d within;
      grouped = place.0;
      level = place.1;
    }

pub members_rise : (jobs : List Job) (found : Found) (l : ℕ) → Rise (members_of jobs found l)
members_rise jobs found l = range_rise _ 0 (length jobs)

-- how often a number stands among all members: only at its own place
abbrev counted : List Job → Found → ℕ → ℕ → ℕ
counted jobs found number j =
    cond (nat_lt (level_of_place found.groups (group_of found.group_of_job j)) (levels_among found.groups (length found.groups))) (cond (number == j) 1 0) 0

member_count : (jobs : List Job) (found : Found) (number : ℕ) →
    count number (all_members (levels_of jobs found)) ≡ sum_by (counted jobs found number) (range_with_len 0 (length jobs))
member_count jobs found number =
    ap (count number) (members_joined jobs found)
    ∙ sum_by-flat_map (members_of jobs found) (λ other. cond (number == other) 1 0) (range_with_len 0 (levels_among found.groups (length found.groups)))
    ∙ split_sum (λ j. level_of_place found.groups (group_of found.group_of_job j)) (λ other. cond (number == other) 1 0)
    (levels_among found.groups (length found.groups)) (range_with_len 0 (length jobs))

pub member_at_most_once : (jobs : List Job) (found : Found) (number : ℕ) → count number (all_members (levels_of jobs found)) ≤ 1
member_at_most_once jobs found number =
    omega (
      arith,
      member_count jobs found number,
      sum_by_at_most (counted jobs found number) (λ j. cond (number == j) 1 0) (range_with_len 0 (length jobs)) (λ k d within. cond_at_most _ _),
      one_of_range (length jobs) number 1,
      cond_at_most (nat_lt number (length jobs)) 1,
    )

mine_alone : (m v : ℕ) (key : ℕ → ℕ) (number j : ℕ) → key number < m → cond (nat_lt (key j) m) (cond (number == j) v 0) 0 ≡ cond (number == j) v 0
mine_alone m v key number j below = grind (arith, cases_eq, lt-ltb, not_here)

pub member_once : (jobs : List Job) (found : Found) (number : ℕ) → number < length jobs →
    level_of_place found.groups (group_of found.group_of_job number) < levels_among found.groups (length found.groups) →
    count number (all_members (levels_of jobs found)) ≡ 1
member_once jobs found number known below =
    member_count jobs found number ∙ sum_by_same (counted jobs found number) (λ j. cond (number == j) 1 0) (range_with_len 0 (length jobs))
    (λ k d within. mine_alone (levels_among found.groups (length found.groups)) 1
    (λ j. level_of_place found.groups (group_of found.group_of_job j)) number (get_or (range_with_len 0 (length jobs)) k d) below) ∙ one_of_range (length jobs) number 1
    ∙ ap {B = ℕ} (λ b. cond b 1 0) (lt-ltb number (length jobs) known)

-- there are no more members than jobs
pub few_members : (jobs : List Job) (found : Found) → length (all_members (levels_of jobs found)) ≤ length jobs
few_members jobs found =
    let all = range_with_len 0 (levels_among found.groups (length found.groups)) in
    omega (
      arith,
      ap length (members_joined jobs found),
      length-flat_map (members_of jobs found) all,
      sum_by-le-sum_by (λ l. length (members_of jobs found l)) (λ l. sum_by (λ j. 1) (members_of jobs found l)) all
          (λ l. omega (arith, count_all (members_of jobs found l))),
      split_at_most (λ j. level_of_place found.groups (group_of found.group_of_job j)) (λ j. 1)
          (levels_among found.groups (length found.groups)) (range_with_len 0 (length jobs)),
      count_all (range_with_len 0 (length jobs)),
      length-range_with_len 0 (length jobs),
    )

-- the pieces of the first levels, one level after another
pub pieces_joined : (jobs : List Job) (found : Found) (i : ℕ) → i ≤ levels_among found.groups (length found.groups) →
    all_pieces (take i (levels_of jobs found)) ≡ flat_map (λ l. (level_numbered jobs found l).pieces) (range_with_len 0 i)
pieces_joined jobs found i within = grind (arith, flat_map-map, take-map-range_with_len)

-- each of some pieces is apart from each of others, and the other way round
abbrev pub AllApart : List Piece → List Piece → Type 0
AllApart pieces others = All (λ piece. All (AreApart piece) others) pieces

apart_back : (pieces others : List Piece) → AllApart pieces others → AllApart others pieces
apart_back pieces others apart k d within j e inside = apart_turned _ _ (apart j e inside k d within)

merged_from : (pieces others : List Piece) → PiecesFrom 0 pieces → AllApart pieces others → AllApart pieces (merged others)
merged_from pieces others run apart k d within =
    merged_stays_apart _ others (pieces_forward 0 pieces run k d within) (apart k d within)

-- both merged stay apart
merged_both : (pieces others : List Piece) → PiecesFrom 0 pieces → PiecesFrom 0 others → AllApart pieces others → AllApart (merged pieces) (merged others)
merged_both pieces others run other_run apart =
    apart_back (merged others) (merged pieces) (merged_from (merged others) pieces (merged_run 0 others other_run)
    (apart_back pieces (merged others) (merged_from pieces others run apart)))

some_length : (pieces : List Piece) → 1 ≤ total_length pieces → 1 ≤ length pieces
some_length [] h = absurd (omega arith)
some_length (piece ∷ pieces) h = omega arith

module _ (jobs : List Job) (found : Found) where
  abbrev level_of_stretch : ℕ → ℕ
  level_of_stretch k = level_of_place found.groups (group_of found.group_of_stretch k)

  -- the single stretches of a level
  abbrev pub single : ℕ → List Piece
  single l = map (stretch_at jobs) (stretches_of_level jobs found l)

  pub single_run : (l : ℕ) → PiecesFrom 0 (single l)
  single_run l = some_stretches_run jobs (λ k. level_of_place found.groups (group_of found.group_of_stretch k) == l)

  abbrev IsOfLevel : ℕ → ℕ → Type 0
  IsOfLevel l k = (k < length (stretches jobs)) × (level_of_place found.groups (group_of found.group_of_stretch k) ≡ l)

  each_stretch : (l : ℕ) → All (IsOfLevel l) (stretches_of_level jobs found l)
  each_stretch l k d within =
      let in_level = λ (j : ℕ). level_of_place found.groups (group_of found.group_of_stretch j) == l in (
        All-filter in_level (λ j. j < length (stretches jobs)) (range_with_len 0 (length (stretches jobs)))
            (λ i e inside. let at = in_range (length (stretches jobs)) i e inside in rw (at.1) at.0) k d within,
        eqb-true _ l (filter_passes in_level (range_with_len 0 (length (stretches jobs))) k d within),
      )

  stretches_apart : (j k : ℕ) → j < length (stretches jobs) → k < length (stretches jobs) → (j ≡ k → ⊥) → AreApart (stretch_at jobs j) (stretch_at jobs k)
  stretches_apart j k known_j known_k other = grind (arith, cases_order, stretch_order)

  single_apart : (l other : ℕ) → (l ≡ other → ⊥) → AllApart (single l) (single other)
  single_apart l other differ =
      All-map (λ piece. All (AreApart piece) (single other)) (stretch_at jobs) (stretches_of_level jobs found l)
      (λ i d within. All-map (AreApart _) (stretch_at jobs) (stretches_of_level jobs found other) (λ j e inside.
      let one = each_stretch l i d within in
      let two = each_stretch other j e inside in
      stretches_apart _ _ one.0 two.0 (λ same. differ (sym one.1 ∙ ap level_of_stretch same ∙ two.1))))

  -- what the definition of a proper certificate says of a level's pieces
  pub pieces_apart : (i : ℕ) → i < levels_among found.groups (length found.groups) →
      All (λ piece. All (AreApart piece) (all_pieces (take i (levels_of jobs found)))) (merged (single i))
  pieces_apart i known =
      rw (pieces_joined jobs found i (omega arith)) (apart_back (flat_map (λ l. merged (single l)) (range_with_len 0 i)) (merged (single i))
      (all_of_blocks (λ piece. All (AreApart piece) (merged (single i))) (λ l. merged (single l)) i
      (λ l below. merged_both (single l) (single i) (single_run l) (single_run i) (single_apart l i (λ same. omega arith)))))

  pub pieces_run : (l : ℕ) → PiecesFrom 0 (merged (single l))
  pieces_run l = merged_run 0 (single l) (single_run l)

  pub pieces_dont_touch : (l : ℕ) → DontTouch (merged (single l))
  pieces_dont_touch l = merged_apart 0 (single l) (single_run l)

  pub pieces_total : (l : ℕ) → total_length (merged (single l)) ≡ sum_by (length_at jobs) (stretches_of_level jobs found l)
  pieces_total l =
      merged_total 0 (single l) (single_run l) ∙ sum_by-map (stretch_at jobs) (λ piece. piece.to - piece.from) (stretches_of_level jobs found l)

  pub some_pieces : (l : ℕ) → 1 ≤ sum_by (length_at jobs) (stretches_of_level jobs found l) → 1 ≤ length (merged (single l))
  some_pieces l some = some_length (merged (single l)) (omega (arith, pieces_total l))

  -- a stretch of one of the first levels is covered by their pieces
  pub stretch_covered : (k i time : ℕ) → k < length (stretches jobs) →
      level_of_place found.groups (group_of found.group_of_stretch k) < i → i ≤ levels_among found.groups (length found.groups) →
      Holds time (stretch_at jobs k) → Covers (all_pieces (take i (levels_of jobs found))) time
  stretch_covered k i time known below within holds =
      let l = level_of_place found.groups (group_of found.group_of_stretch k) in
      rw (pieces_joined jobs found i within) (some_of_blocks (Holds time) (λ l. merged (single l)) i l below (merged_covers time 0 (single l) (single_run l)
      (some_stretches_cover jobs (λ j. level_of_place found.groups (group_of found.group_of_stretch j) == l) time k known (eq-eqb l l refl) holds)))

  -- there are no more pieces than stretches
  pub few_pieces : length (all_pieces (levels_of jobs found)) ≤ length (stretches jobs)
  few_pieces =
      let all = range_with_len 0 (levels_among found.groups (length found.groups)) in
      omega (
        arith,
        ap length (flat_map-map (λ (level : Level). level.pieces) (level_numbered jobs found) all),
        length-flat_map (λ l. merged (single l)) all,
        sum_by-le-sum_by (λ l. length (merged (single l))) (λ l. sum_by (λ k. 1) (stretches_of_level jobs found l)) all
            (λ l. omega (arith, merged_length (single l), length-map (stretches_of_level jobs found l) (stretch_at jobs), count_all (stretches_of_level jobs found l))),
        split_at_most (λ k. level_of_place found.groups (group_of found.group_of_stretch k)) (λ k. 1)
            (levels_among found.groups (length found.groups)) (range_with_len 0 (length (stretches jobs))),
        count_all (range_with_len 0 (length (stretches jobs))),
        length-range_with_len 0 (length (stretches jobs)),
      )
