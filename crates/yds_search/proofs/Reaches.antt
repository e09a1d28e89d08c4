-- How far jobs reach to the left from each stretch, as a group is filled.
use Rattle.yds_model.proofs.Common.{◌≡◌, ℕ, ◌+◌, ◌-◌, ◌*◌, ◌<◌, ◌≤◌, ◌≢◌, min, Bool, true, false, List, [], ◌∷◌, ◌++◌, ◌∙◌, length, map, get_or, set, refl, sym, ap, subst, inl, inr, rules, arith, get_or-set_same, get_or-set_other, length-set, length_push, length-map, get_or-map, get_or_push, get_or_append_left, get_or_past, map-set, map-set_same, map-map, cases_lt, cases_eq}
use Rattle.yds_events.specs.declared.window.Window.{Window}
use Rattle.yds_events.specs.Window.{window_at, IsIn}
use Rattle.yds_timetable.specs.Shares.{JobShare, share_at, no_share}
use Rattle.yds_search.specs.declared.filling.Cell.{Cell}
use Rattle.yds_search.specs.declared.own.OwnJob.{OwnJob}
use Rattle.yds_search.specs.declared.own.OwnStretch.{OwnStretch}
use Rattle.yds_search.specs.Own.{own_windows, wants_at, rooms_at}
use Rattle.yds_search.specs.Fill.{IsServed, IsFilling, IsNext}
use Rattle.yds_search.specs.Closure.{AreLeast, AreLateReaches, AreShareReaches}
use Rattle.yds_search.specs.Cells.{rooms_of, shared_of, lates_of, no_cell, cell_at, first_cell, taken_cell, late_cell, IsTake, KeepReaches, Keeps, IsServing, IsFilled}
use Rattle.yds_search.proofs.Fills.{Takes, serve_jumps, serve_take, fill_more, fill_ends}
use Rattle.yds_search.proofs.Shares.{no_units}
use Rattle.yds_search.proofs.Filled.{no_own_stretch}

-- the same items, told otherwise
least_same : {Counts Counts' : ℕ → Type 0} {place value place' value' : ℕ → ℕ} {n m : ℕ} {reaches : List ℕ} → AreLeast Counts place value n m reaches →
    ((i : ℕ) → i < n → (Counts i → Counts' i) × (Counts' i → Counts i) × (place i ≡ place' i) × (value i ≡ value' i)) → AreLeast Counts' place' value' n m reaches
least_same {reaches = reaches} so_far same = record {
  all = so_far.all;
  least = λ i before counted. let is = same i before in omega (arith, so_far.least i before (is.1 counted), ap (λ p. get_or reaches p 0) is.2, is.3);
  some = λ p within less.
      let found = so_far.some p within less in
      let is = same found.0 found.1 in
      (found.0, found.1, is.0 found.2, sym is.2 ∙ found.3, sym is.3 ∙ found.4);
}

-- an item that doesn't count
least_skips : {Counts : ℕ → Type 0} {place value : ℕ → ℕ} {n m : ℕ} {reaches : List ℕ} → AreLeast Counts place value n m reaches → (Counts n → ⊥) →
    AreLeast Counts place value (n + 1) m reaches
least_skips {Counts} {place} {value} {n} {m} {reaches} so_far idle = record {
  all = so_far.all;
  least = λ i before counted. elim (cases_lt i n) [
    | inl less ↦ so_far.least i less counted
    | inr more ↦ let same : i ≡ n = omega arith in absurd (idle (subst Counts same counted))
  ];
  some = λ p within less. let found = so_far.some p within less in (found.0, omega (arith, found.1), found.2, found.3, found.4);
}

-- an item that counts
least_takes : {Counts : ℕ → Type 0} {place value : ℕ → ℕ} {n m : ℕ} {reaches : List ℕ} → AreLeast Counts place value n m reaches → Counts n → place n < m → value n < m →
    AreLeast Counts place value (n + 1) m (set reaches (place n) (min (get_or reaches (place n) 0) (value n)))
least_takes {Counts} {place} {value} {n} {m} {reaches} so_far counted known small =
    let least : ℕ = min (get_or reaches (place n) 0) (value n) in
    let at : (p : ℕ) → p ≡ place n → get_or (set reaches (place n) least) p 0 ≡ least =
    λ p same. ap (λ i. get_or (set reaches (place n) least) i 0) same ∙ get_or-set_same reaches (place n) least 0 (omega (arith, so_far.all)) in
    let there : (p : ℕ) → p ≢ place n → get_or (set reaches (place n) least) p 0 ≡ get_or reaches p 0 = λ p other. get_or-set_other reaches (place n) p least 0 other in
    record {
      all = length-set reaches (place n) least ∙ so_far.all;
      least = λ i before counts. elim (cases_lt i n) [
        | inl less ↦ elim (cases_eq (place i) (place n)) [
          | inl same ↦ omega (arith, at (place i) same, so_far.least i less counts, ap (λ p. get_or reaches p 0) same)
          | inr other ↦ omega (arith, there (place i) other, so_far.least i less counts)
        ]
        | inr more ↦
            let same : i ≡ n = omega arith in
            omega (arith, at (place i) (ap place same), ap value same)
      ];
      some = λ p within less. elim (cases_eq p (place n)) [
        | inr other ↦
            let found = so_far.some p within (omega (arith, less, there p other)) in
            (found.0, omega (arith, found.1), found.2, found.3, found.4 ∙ sym (there p other))
        | inl same ↦ elim (cases_lt (get_or reaches (place n) 0) (value n)) [
          | inl old ↦
              let found = so_far.some (place n) known (omega arith) in
              (found.0, omega (arith, found.1), found.2, found.3 ∙ sym same, omega (arith, found.4, at p same))
          | inr new ↦ (n, omega arith, counted, sym same, omega (arith, at p same))
        ]
      ];
    }

-- one share more
share_reached : (windows : List Window) (shares : List JobShare) (m : ℕ) (reaches : List ℕ) (share : JobShare) → AreShareReaches windows shares (length shares) m reaches →
    share.stretch < m → (window_at windows share.job).first < m → AreShareReaches windows (shares ++ share ∷ []) (length (shares ++ share ∷ [])) m
    (set reaches share.stretch (min (get_or reaches share.stretch 0) (window_at windows share.job).first))
share_reached windows shares m reaches share so_far known small =
    let more : List JobShare = shares ++ share ∷ [] in
    let last : share ≡ share_at more (length shares) = sym (get_or_push shares share no_share (length shares) refl) in
    let before : AreShareReaches windows more (length shares) m reaches = least_same so_far (λ x within.
    let is : share_at shares x ≡ share_at more x = sym (get_or_append_left shares (share ∷ []) no_share x within) in
    ((λ one. one), (λ one. one), ap (λ (one : JobShare). one.stretch) is, ap (λ (one : JobShare). (window_at windows one.job).first) is)) in
    rw (length_push shares share) (subst (λ (one : JobShare). AreShareReaches windows more (length shares + 1) m
    (set reaches one.stretch (min (get_or reaches one.stretch 0) (window_at windows one.job).first))) (sym last)
    (least_takes before tt (omega (arith, known, ap (λ (one : JobShare). one.stretch) last)) (omega (arith, small, ap (λ (one : JobShare). (window_at windows one.job).first) last))))

-- what a job takes, by the room of the stretches
pub take_rooms : (job first stretch left : ℕ) (shares : List JobShare) (cells : List Cell) (left' : ℕ) (shares' : List JobShare) (cells' : List Cell) →
    stretch < length cells → IsTake job first stretch left shares cells left' shares' cells' → Takes job stretch left shares (rooms_of cells) left' shares' (rooms_of cells')
take_rooms job first stretch left shares cells left' shares' cells' within take = grind (arith, get_or-map, map-set, set)

-- who takes has a share, and reaches as far as its window
pub take_reaches : (windows : List Window) (job first stretch left : ℕ) (shares : List JobShare) (cells : List Cell) (left' : ℕ) (shares' : List JobShare) (cells' : List Cell) →
    stretch < length cells → first < length cells → first ≡ (window_at windows job).first → IsTake job first stretch left shares cells left' shares' cells' →
    KeepReaches windows shares cells shares' cells'
take_reaches windows job first stretch left shares cells left' shares' cells' within small begins take m so_far =
    let shared : get_or (shared_of cells) stretch 0 ≡ (cell_at cells stretch).shared = get_or-map (λ cell. cell.shared) cells stretch no_cell 0 within in
    let count : length cells ≡ m = sym (length-map cells (λ cell. cell.shared)) ∙ so_far.all in
    elim take [
      | inl passed ↦ rw (passed.2, passed.3) so_far
      | inr took ↦
          let share : JobShare = record { job = job; stretch = stretch; units = took.0 } in
          rw (took.5, took.6, map-set (λ cell. cell.shared) cells stretch (taken_cell (cell_at cells stretch) first took.0), sym shared, begins)
          (share_reached windows shares m (shared_of cells) share so_far (omega (arith, within, count)) (omega (arith, small, begins, count)))
    ]

-- and is not late yet
pub take_lates : (job first stretch left : ℕ) (shares : List JobShare) (cells : List Cell) (left' : ℕ) (shares' : List JobShare) (cells' : List Cell) →
    IsTake job first stretch left shares cells left' shares' cells' → lates_of cells' ≡ lates_of cells
take_lates job first stretch left shares cells left' shares' cells' take = grind (arith, map-set_same)

-- so it goes on being served
pub serving_takes : (windows : List Window) (job want : ℕ) (late : Bool) (kept shares : List JobShare) (cells : List Cell) (place left : ℕ) (kept' : List JobShare) (cells' : List Cell)
    (first left' next : ℕ) (kept'' : List JobShare) (cells'' : List Cell) (so_far : IsServing windows job want late kept shares cells place left kept' cells') →
    job < length windows → IsIn windows job place → place < length cells → length cells' ≡ length cells → first ≡ (window_at windows job).first →
    ((shares' : List JobShare) × IsTake job first place left so_far.shares' cells' left' shares' cells'' × (Keeps late kept' so_far.shares' → Keeps late kept'' shares')) →
    place + 1 ≤ next → (1 ≤ left' → (k : ℕ) → place + 1 ≤ k → k < next → get_or (rooms_of cells'') k 0 ≡ 0) → IsServing windows job want late kept shares cells next left' kept'' cells''
serving_takes windows job want late kept shares cells place left kept' cells' first left' next kept'' cells'' so_far known inside within count begins take after full =
    let here : place < length cells' = omega (arith, within, count) in
    record {
      shares' = take.0;
      served = serve_jumps (serve_take so_far.served known inside (omega (arith, within, length-map cells (λ cell. cell.room)))
          (take_rooms job first place left so_far.shares' cells' left' take.0 cells'' here take.1)) after full;
      reaches = λ m reaches. take_reaches windows job first place left so_far.shares' cells' left' take.0 cells'' here (omega (arith, inside.from, begins, here)) begins take.1 m
          (so_far.reaches m reaches);
      keeps = λ keeps. take.2 (so_far.keeps keeps);
      lates = take_lates job first place left so_far.shares' cells' left' take.0 cells'' take.1 ∙ so_far.lates;
    }

-- a late job takes nothing
pub late_next : (cells : List Cell) (next : List ℕ) (place first : ℕ) → IsNext (rooms_of cells) next → IsNext (rooms_of (set cells place (late_cell (cell_at cells place) first))) next
late_next cells next place first are = rw (map-set_same (λ cell. cell.room) cells place (late_cell (cell_at cells place) first) no_cell refl) are

-- the jobs before place i have taken what they could, and whether one of them is late
pub record AreFilling (windows : List Window) (wants rooms : List ℕ) (i : ℕ) (late : Bool) (kept : List JobShare) (cells : List Cell) : Type 0 where
  pub shares : List JobShare
  pub left : List ℕ
  pub filling : IsFilling windows wants rooms i shares left (rooms_of cells)
  pub keeps : Keeps late kept shares
  pub lates : AreLateReaches windows left i (length rooms) (lates_of cells)
  pub shareds : AreShareReaches windows shares (length shares) (length rooms) (shared_of cells)
  pub some : late ≡ true → (j : ℕ) × (j < i) × (1 ≤ get_or left j 0)
  pub none : late ≡ false → (j : ℕ) → j < i → get_or left j 0 ≡ 0

-- nobody reaches further than the last of m stretches
nobody : {Counts : ℕ → Type 0} {place value : ℕ → ℕ} (stretches : List OwnStretch) (m : ℕ) → length stretches ≡ m → AreLeast Counts place value 0 m (map (λ own. m) stretches)
nobody stretches m count = record {
  all = length-map stretches (λ own. m) ∙ count;
  least = λ i before. absurd (omega (arith, before));
  some = λ p within less. absurd (omega (arith, less, get_or-map (λ own. m) stretches p no_own_stretch 0 (omega (arith, within, count))));
}

-- nobody is served yet
pub fill_begins : (jobs : List OwnJob) (stretches : List OwnStretch) (per_time per_work : ℕ) →
    AreFilling (own_windows jobs) (wants_at per_work jobs) (rooms_at per_time stretches) 0 false [] (map (first_cell per_time (length stretches)) stretches)
fill_begins jobs stretches per_time per_work =
    let count = length-map stretches (λ own. per_time * own.length) in
    let cell = first_cell per_time (length stretches) in
    record {
      shares = [];
      left = wants_at per_work jobs;
      keeps = λ served. refl;
      filling = rw (map-map (λ cell. cell.room) cell stretches) (search rules);
      lates = rw (count, map-map (λ cell. cell.late) cell stretches) (nobody stretches (length stretches) refl);
      shareds = rw (count, map-map (λ cell. cell.shared) cell stretches) (nobody stretches (length stretches) refl);
      some = λ yes. search rules;
      none = λ no j before. absurd (omega (arith, before));
    }

-- the next job is served
module _ (windows : List Window) (wants rooms : List ℕ) (i : ℕ) (late : Bool) (kept : List JobShare) (cells : List Cell) (rest : ℕ) (kept' : List JobShare) (cells' : List Cell)
    (within : i < length wants) (so_far : AreFilling windows wants rooms i late kept cells)
    (serving : IsServing windows i (get_or wants i 0) late kept so_far.shares cells (window_at windows i).end rest kept' cells') where
  -- it wanted all its units
  wants_all : get_or so_far.left i 0 ≡ get_or wants i 0
  wants_all =
      omega (arith, so_far.filling.want i, no_units (λ share. share.job) so_far.shares i (λ x within same. omega (arith, so_far.filling.later x no_share within, same)))

  abbrev after : List ℕ
  after = set so_far.left i rest

  here : get_or after i 0 ≡ rest
  here = get_or-set_same so_far.left i rest 0 (omega (arith, within, so_far.filling.same_wants))

  there : (j : ℕ) → j ≢ i → get_or after j 0 ≡ get_or so_far.left j 0
  there j other = get_or-set_other so_far.left i j rest 0 other

  filling : IsFilling windows wants rooms (i + 1) serving.shares' after (rooms_of cells')
  filling = fill_more within so_far.filling (subst (λ (want : ℕ). IsServed windows i want so_far.shares (rooms_of cells) (window_at windows i).end rest serving.shares' (rooms_of cells'))
      (sym wants_all) serving.served)

  lates : AreLateReaches windows after i (length rooms) (lates_of cells')
  lates = rw serving.lates (least_same so_far.lates (λ j before.
      let other = there j (λ is. omega (arith, before, is)) in
      ((λ some. omega (arith, some, other)), (λ some. omega (arith, some, other)), refl, refl)))

  -- and wants no more
  pub fill_served : rest ≡ 0 → AreFilling windows wants rooms (i + 1) late kept' cells'
  fill_served done = record {
    shares = serving.shares';
    left = after;
    filling = filling;
    keeps = serving.keeps so_far.keeps;
    lates = least_skips lates (λ some. omega (arith, some, here, done));
    shareds = serving.reaches (length rooms) so_far.shareds;
    some = λ is_late.
        let found = so_far.some is_late in
        (found.0, omega (arith, found.1), omega (arith, found.2, there found.0 (λ is. omega (arith, found.1, is))));
    none = λ served j before. elim (cases_eq j i) [
      | inl is ↦ ap (λ j. get_or after j 0) is ∙ here ∙ done
      | inr other ↦ there j other ∙ so_far.none served j (omega (arith, before, other))
    ];
  }

  -- or is late
  pub fill_late : (window : Window) → window_at windows i ≡ window → window.first < window.end → window.end ≤ length rooms → 1 ≤ rest →
      AreFilling windows wants rooms (i + 1) true kept' (set cells' (window.end - 1) (late_cell (cell_at cells' (window.end - 1)) window.first))
  fill_late window is range upto more =
      let last : ℕ = window.end - 1 in
      let cell : Cell = late_cell (cell_at cells' last) window.first in
      let count : length cells' ≡ length rooms = sym (length-map cells' (λ cell. cell.late)) ∙ lates.all in
      let read : get_or (lates_of cells') last 0 ≡ (cell_at cells' last).late = get_or-map (λ cell. cell.late) cells' last no_cell 0 (omega (arith, range, upto, count)) in
      record {
        shares = serving.shares';
        left = after;
        filling = rw (map-set_same (λ cell. cell.room) cells' last cell no_cell refl) filling;
        keeps = search rules;
        lates = rw (map-set (λ cell. cell.late) cells' last cell, sym read) (subst (λ (one : Window). AreLateReaches windows after (i + 1) (length rooms)
            (set (lates_of cells') (one.end - 1) (min (get_or (lates_of cells') (one.end - 1) 0) one.first))) is
            (least_takes lates (omega (arith, more, here)) (omega (arith, range, upto, ap (λ (one : Window). one.end) is)) (omega (arith, range, upto, ap (λ (one : Window). one.first) is))));
        shareds = rw (map-set_same (λ cell. cell.shared) cells' last cell no_cell refl) (serving.reaches (length rooms) so_far.shareds);
        some = λ is_late. (i, omega arith, omega (arith, more, here));
        none = search rules;
      }

-- everybody has taken what they could
pub fill_is : {windows : List Window} {wants rooms : List ℕ} {i : ℕ} {late : Bool} {kept : List JobShare} {cells : List Cell} → length windows ≡ i → length wants ≡ i →
    AreFilling windows wants rooms i late kept cells → IsFilled windows wants rooms late kept cells
fill_is {windows} {wants} {rooms} {i} {late} {kept} {cells} end end' so_far = record {
  shares = so_far.shares;
  left = so_far.left;
  fill = fill_ends (omega (arith, end)) (omega (arith, end')) so_far.filling;
  keeps = so_far.keeps;
  lates = rw end so_far.lates;
  shareds = so_far.shareds;
  some = λ is_late. let found = so_far.some is_late in (found.0, omega (arith, found.1, end', so_far.filling.same_wants), found.2);
  none = λ served j. elim (cases_lt j i) [ inl before ↦ so_far.none served j before | inr past ↦ get_or_past so_far.left j 0 (omega (arith, past, end', so_far.filling.same_wants)) ];
}
