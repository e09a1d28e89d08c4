-- One more job or stretch in the levels on the way.
use Rattle.yds_model.proofs.Common.{◌≡◌, ℕ, suc, ◌-◌, ◌==◌, List, [], ◌∷◌, ◌++◌, ◌∙◌, length, refl, ap, arith, inl, inr, Bool, true, false, ◌+◌, ◌<◌, ◌≤◌, map, get_or, set, sym, cond, cases_Bool, lt-ltb, eq-eqb, ne_eqb, Piece, filter, range_with_len, append-nil, map-append, get_or-map-range_with_len, length-map-range_with_len, Level, no_level, level_at, filter-range_with_len_more}
use Rattle.yds_plan.specs.Laid.{merge, merged, level_of, levels_among, level_of_place}
use Rattle.yds_plan.specs.Drafts.{touches_last, with_next, extended, draft, drafts, extended_level}
use Rattle.yds_certificate.specs.Level.{with_member}
use Rattle.yds_search.specs.Found.{Found, group_of}
use Rattle.yds_events.specs.Stretch.{nth_stretch}
use Rattle.yds_timetable.proofs.Lists.{map_range_same}
use Rattle.yds_plan.proofs.Drafts.{among_above, map_range_set}
use Rattle.yds_plan.proofs.Levels.{place_level, place_in_level}

-- the same by recursion
add_last : List Piece → Piece → List Piece
add_last [] piece = piece ∷ []
add_last (last ∷ []) piece = cond (last.to == piece.from) (record { from = last.from; to = piece.to } ∷ []) (last ∷ piece ∷ [])
add_last (first ∷ next ∷ pieces) piece = first ∷ add_last (next ∷ pieces) piece

one_less : (n : ℕ) → suc n - 1 ≡ n
one_less n = omega arith

last_alone : (last piece : Piece) (b : Bool) →
    cond b (record { from = last.from; to = piece.to } ∷ []) (last ∷ piece ∷ []) ≡ with_next (last ∷ []) b piece
last_alone last piece true = refl
last_alone last piece false = refl

deeper : (first next : Piece) (pieces : List Piece) (piece : Piece) (b : Bool) → first ∷ with_next (next ∷ pieces) b piece ≡ with_next (first ∷ next ∷ pieces) b piece
deeper first next pieces piece true = rw (one_less (suc (length pieces)), one_less (length pieces)) refl
deeper first next pieces piece false = refl

touches_deeper : (first next : Piece) (pieces : List Piece) (piece : Piece) → touches_last (next ∷ pieces) piece ≡ touches_last (first ∷ next ∷ pieces) piece
touches_deeper first next pieces piece =
    rw (one_less (suc (length pieces)), one_less (length pieces), lt-ltb 0 (suc (length pieces)) (omega arith), lt-ltb 0 (suc (suc (length pieces))) (omega arith)) refl

add_last_is : (pieces : List Piece) (piece : Piece) → add_last pieces piece ≡ extended pieces piece
unfolding add_last
add_last_is [] piece = refl
add_last_is (last ∷ []) piece = last_alone last piece (last.to == piece.from)
add_last_is (first ∷ next ∷ pieces) piece =
    ap (λ some. first ∷ some) (add_last_is (next ∷ pieces) piece) ∙ deeper first next pieces piece (touches_last (next ∷ pieces) piece)
    ∙ ap (λ b. with_next (first ∷ next ∷ pieces) b piece) (touches_deeper first next pieces piece)

merge_last : (first : Piece) (pieces : List Piece) (piece : Piece) → merge first (add_last pieces piece) ≡ add_last (merge first pieces) piece
unfolding add_last
merge_last first [] piece = refl
merge_last first (next ∷ []) piece = elim (cases_Bool (next.to == piece.from)) [
  | inl touches ↦ elim (cases_Bool (first.to == next.from)) [
    | inl also ↦ simp (touches, also) refl
    | inr apart ↦ simp (touches, apart) refl
  ]
  | inr parts ↦ elim (cases_Bool (first.to == next.from)) [
    | inl also ↦ simp (parts, also) refl
    | inr apart ↦ simp (parts, apart) refl
  ]
]
merge_last first (next ∷ other ∷ pieces) piece = elim (cases_Bool (first.to == next.from)) [
  | inl also ↦ simp also refl
  | inr apart ↦ simp apart refl
]

merged_last : (pieces : List Piece) (piece : Piece) → merged (pieces ++ piece ∷ []) ≡ add_last (merged pieces) piece
unfolding add_last
merged_last [] piece = refl
merged_last (first ∷ pieces) piece = ap (merge first) (merged_last pieces piece) ∙ merge_last first (merged pieces) piece

pub merged_more : (pieces : List Piece) (piece : Piece) → merged (pieces ++ piece ∷ []) ≡ extended (merged pieces) piece
merged_more pieces piece = merged_last pieces piece ∙ add_last_is (merged pieces) piece

filter_takes : (p : ℕ → Bool) (n : ℕ) → p n ≡ true → filter p (range_with_len 0 (n + 1)) ≡ filter p (range_with_len 0 n) ++ n ∷ []
filter_takes p n passes = filter-range_with_len_more p n ∙ ap (λ b. filter p (range_with_len 0 n) ++ cond b (n ∷ []) []) passes

filter_leaves : (p : ℕ → Bool) (n : ℕ) → p n ≡ false → filter p (range_with_len 0 n) ≡ filter p (range_with_len 0 (n + 1))
filter_leaves p n fails =
    sym (filter-range_with_len_more p n ∙ ap (λ b. filter p (range_with_len 0 n) ++ cond b (n ∷ []) []) fails ∙ append-nil (filter p (range_with_len 0 n)))

module _ (timeline : List Piece) (found : Found) where
  abbrev job_level : ℕ → ℕ
  job_level j = level_of_place found.groups (group_of found.group_of_job j)

  abbrev stretch_level : ℕ → ℕ
  stretch_level k = level_of_place found.groups (group_of found.group_of_stretch k)

  abbrev count_of_levels : ℕ
  count_of_levels = levels_among found.groups (length found.groups)

  job_elsewhere : (j k l : ℕ) → (job_level j ≡ l → ⊥) → draft timeline found j k l ≡ draft timeline found (j + 1) k l
  job_elsewhere j k l other = cc (filter_leaves (λ job. job_level job == l) j (ne_eqb (job_level j) l other))

  job_here : (j k l : ℕ) → job_level j ≡ l → with_member j (draft timeline found j k l) ≡ draft timeline found (j + 1) k l
  job_here j k l same = cc (filter_takes (λ job. job_level job == l) j (eq-eqb (job_level j) l same))

  stretch_elsewhere : (j k l : ℕ) → (stretch_level k ≡ l → ⊥) → draft timeline found j k l ≡ draft timeline found j (k + 1) l
  stretch_elsewhere j k l other =
      cc (ap (λ ks. merged (map (nth_stretch timeline) ks)) (filter_leaves (λ stretch. stretch_level stretch == l) k (ne_eqb (stretch_level k) l other)))

  stretch_here : (j k l : ℕ) → stretch_level k ≡ l → extended_level (nth_stretch timeline k) (draft timeline found j k l) ≡ draft timeline found j (k + 1) l
  stretch_here j k l same = grind (arith, eq-eqb, filter_takes, map-append, merged_more)

  draft_there : (j k l : ℕ) → l < count_of_levels → level_at (drafts timeline found j k) l ≡ draft timeline found j k l
  draft_there j k l known = get_or-map-range_with_len (draft timeline found j k) 0 count_of_levels l l no_level known (omega arith)

  pub drafts_length : (j k : ℕ) → length (drafts timeline found j k) ≡ count_of_levels
  drafts_length j k = length-map-range_with_len (draft timeline found j k) 0 count_of_levels

  pub level_known : (place : ℕ) → place < length found.groups → level_of found.groups place < count_of_levels
  level_known place grouped = among_above found.groups (length found.groups) place grouped

  -- a job of a group becomes a member
  pub member_added : (j k : ℕ) → group_of found.group_of_job j < length found.groups →
      set (drafts timeline found j k) (level_of found.groups (group_of found.group_of_job j))
      (with_member j (level_at (drafts timeline found j k) (level_of found.groups (group_of found.group_of_job j)))) ≡ drafts timeline found (j + 1) k
  member_added j k grouped =
      let place = group_of found.group_of_job j in
      let l = level_of found.groups place in
      let is : job_level j ≡ l = place_level found.groups place grouped in
      rw (draft_there j k l (level_known place grouped), job_here j k l is)
      (map_range_set no_level (draft timeline found j k) (draft timeline found (j + 1) k) count_of_levels l (level_known place grouped)
      (λ other known differ. job_elsewhere j k other (λ same. differ (sym same ∙ is))))

  -- and no other job
  pub member_passed : (j k : ℕ) → length found.groups ≤ group_of found.group_of_job j → drafts timeline found j k ≡ drafts timeline found (j + 1) k
  member_passed j k past =
      map_range_same no_level (draft timeline found j k) (draft timeline found (j + 1) k) count_of_levels
      (λ l known. job_elsewhere j k l (λ same. omega (arith, past, (place_in_level found.groups (group_of found.group_of_job j) l same known).0)))

  pub piece_added : (j k : ℕ) → group_of found.group_of_stretch k < length found.groups →
      set (drafts timeline found j k) (level_of found.groups (group_of found.group_of_stretch k))
      (extended_level (nth_stretch timeline k) (level_at (drafts timeline found j k) (level_of found.groups (group_of found.group_of_stretch k))))
      ≡ drafts timeline found j (k + 1)
  piece_added j k grouped =
      let place = group_of found.group_of_stretch k in
      let l = level_of found.groups place in
      let is : stretch_level k ≡ l = place_level found.groups place grouped in
      rw (draft_there j k l (level_known place grouped), stretch_here j k l is)
      (map_range_set no_level (draft timeline found j k) (draft timeline found j (k + 1)) count_of_levels l (level_known place grouped)
      (λ other known differ. stretch_elsewhere j k other (λ same. differ (sym same ∙ is))))

  pub piece_passed : (j k : ℕ) → length found.groups ≤ group_of found.group_of_stretch k → drafts timeline found j k ≡ drafts timeline found j (k + 1)
  piece_passed j k past =
      map_range_same no_level (draft timeline found j k) (draft timeline found j (k + 1)) count_of_levels
      (λ l known. stretch_elsewhere j k l (λ same. omega (arith, past, (place_in_level found.groups (group_of found.group_of_stretch k) l same known).0)))

  -- The numbers of the groups' levels, and what a step of the loops makes of the levels.
  abbrev pub AreNumbers : List ℕ → Type 0
  AreNumbers numbers = numbers ≡ map (level_of found.groups) (range_with_len 0 (length found.groups))

  numbers_length : (numbers : List ℕ) → AreNumbers numbers → length numbers ≡ length found.groups
  numbers_length numbers are = ap length are ∙ length-map-range_with_len (level_of found.groups) 0 (length found.groups)

  number_is : (numbers : List ℕ) (place number : ℕ) → AreNumbers numbers → place < length numbers → number ≡ get_or numbers place number →
      number ≡ level_of found.groups place
  number_is numbers place number are within read = grind (arith, get_or-map-range_with_len, numbers_length)

  pub number_within : (j k place number : ℕ) (numbers : List ℕ) (levels : List Level) → AreNumbers numbers → levels ≡ drafts timeline found j k →
      place < length numbers → number ≡ get_or numbers place number → number < length levels
  number_within j k place number numbers levels are before within read =
      omega (arith, number_is numbers place number are within read, level_known place (omega (arith, numbers_length numbers are)), ap length before, drafts_length j k)

  pub member_step : (j k place number : ℕ) (numbers : List ℕ) (levels next : List Level) → AreNumbers numbers → levels ≡ drafts timeline found j k →
      place ≡ group_of found.group_of_job j → place < length numbers → number ≡ get_or numbers place number →
      next ≡ set levels number (with_member j (level_at levels number)) → next ≡ drafts timeline found (j + 1) k
  member_step j k place number numbers levels next are before is_place within read after = grind (arith, member_added, number_is, numbers_length, set)

  pub member_skip : (j k place : ℕ) (numbers : List ℕ) (levels : List Level) → AreNumbers numbers → levels ≡ drafts timeline found j k →
      place ≡ group_of found.group_of_job j → length numbers ≤ place → levels ≡ drafts timeline found (j + 1) k
  member_skip j k place numbers levels are before is_place past =
      before ∙ member_passed j k (omega (arith, numbers_length numbers are))

  pub piece_step : (j k place number : ℕ) (piece : Piece) (numbers : List ℕ) (levels next : List Level) → AreNumbers numbers →
      levels ≡ drafts timeline found j k → place ≡ group_of found.group_of_stretch k → place < length numbers →
      number ≡ get_or numbers place number → piece ≡ nth_stretch timeline k →
      next ≡ set levels number (extended_level piece (level_at levels number)) → next ≡ drafts timeline found j (k + 1)
  piece_step j k place number piece numbers levels next are before is_place within read is_piece after = grind (arith, number_is, numbers_length, piece_added, set)

  pub piece_skip : (j k place : ℕ) (numbers : List ℕ) (levels : List Level) → AreNumbers numbers → levels ≡ drafts timeline found j k →
      place ≡ group_of found.group_of_stretch k → length numbers ≤ place → levels ≡ drafts timeline found j (k + 1)
  piece_skip j k place numbers levels are before is_place past =
      before ∙ piece_passed j k (omega (arith, numbers_length numbers are))
