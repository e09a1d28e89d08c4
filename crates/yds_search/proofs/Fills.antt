-- The fill by place, share by share and job by job; full stretches are jumped over.
use Rattle.yds_model.proofs.Common.{◌≡◌, ℕ, ◌<◌, ◌≤◌, ◌+◌, ◌-◌, ◌≢◌, ◌==◌, ◌⊎◌, min, List, [], ◌∷◌, ◌++◌, ◌∙◌, length, get_or, set, take, sym, ap, subst, inl, inr, arith, cond, if◌then◌else◌, nat_lt, All, get_or-set_same, get_or-set_other, length-set, length_push, take_all, All-push, all_pairs_push, sum_by_push, sum_by-set, sum_by_more, cases_lt, cases_eq, nat_tests}
use Rattle.yds_events.specs.declared.window.Window.{Window}
use Rattle.yds_events.specs.Window.{window_at, IsIn}
use Rattle.yds_timetable.specs.Shares.{JobShare}
use Rattle.yds_search.specs.Found.{units_of_job}
use Rattle.yds_search.specs.Fill.{IsNotAfter, IsFullBefore, IsPart, FoundFull, StandInOrder, AreTaken, IsServed, full_count, wanting_count, IsFilling, IsFill, IsNext, IsNextFrom, IsNumbers}

-- A job has passed over a stretch, because it is done or the stretch is full, or has taken what it could.
abbrev pub Takes : ℕ → ℕ → ℕ → List JobShare → List ℕ → ℕ → List JobShare → List ℕ → Type 0
Takes job stretch left shares rooms left' shares' rooms' =
    ((1 ≤ left → get_or rooms stretch 0 ≡ 0) × (left' ≡ left) × (shares' ≡ shares) × (rooms' ≡ rooms))
    ⊎ ((units : ℕ) × (1 ≤ left) × (1 ≤ get_or rooms stretch 0) × (units ≡ min left (get_or rooms stretch 0)) × (left' ≡ left - units)
    × (shares' ≡ shares ++ record { job = job; stretch = stretch; units = units } ∷ []) × (rooms' ≡ set rooms stretch (get_or rooms stretch 0 - units)))

-- a full stretch stays full and keeps its shares, because nothing is put into it
full_keeps : (shares : List JobShare) (rooms : List ℕ) (share : JobShare) (rest k job : ℕ) → IsFullBefore IsNotAfter shares rooms k job →
    1 ≤ get_or rooms share.stretch 0 → IsFullBefore IsNotAfter (shares ++ share ∷ []) (set rooms share.stretch rest) k job
full_keeps shares rooms share rest k job full room =
    let other : k ≢ share.stretch = λ same. omega (arith, ap (λ i. get_or rooms i 0) same, full.full, room) in
    record {
      full = get_or-set_other rooms share.stretch k rest 0 other ∙ full.full;
      before = All-push (λ one. one.stretch ≡ k → one.job ≤ job) shares share full.before (λ same. absurd (other (sym same)));
    }

-- one share more
taken_more : (windows : List Window) (m : ℕ) (shares : List JobShare) (rooms : List ℕ) (share : JobShare) (rest : ℕ) →
    AreTaken IsNotAfter windows m shares rooms → IsPart windows (length windows) m share → 1 ≤ get_or rooms share.stretch 0 →
    All (λ one. one.job ≤ share.job) shares → All (λ one. one.job ≡ share.job → one.stretch < share.stretch) shares →
    ((k : ℕ) → (window_at windows share.job).first ≤ k → k < share.stretch → get_or rooms k 0 ≡ 0) →
    AreTaken IsNotAfter windows m (shares ++ share ∷ []) (set rooms share.stretch rest)
taken_more windows m shares rooms share rest taken part room all ahead swept = record {
  parts = All-push (IsPart windows (length windows) m) shares share taken.parts part;
  early = All-push (FoundFull IsNotAfter windows (shares ++ share ∷ []) (set rooms share.stretch rest)) shares share
      (λ i d within k from before. full_keeps shares rooms share rest k (get_or shares i d).job (taken.early i d within k from before) room)
      (λ k from before. record {
        full = get_or-set_other rooms share.stretch k rest 0 (omega arith) ∙ swept k from before;
        before = All-push (λ one. one.stretch ≡ k → one.job ≤ share.job) shares share (λ i d within same. all i d within) (λ same. omega arith);
      });
  ordered = all_pairs_push (StandInOrder IsNotAfter) shares share taken.ordered
      (λ i d within same. (λ mine. absurd (omega (arith, ahead i d within mine, same)), all i d within));
}

-- a job that comes after all who have shares begins where there may be room
pub serve_begins : (windows : List Window) (job want : ℕ) (shares : List JobShare) (rooms : List ℕ) (place : ℕ) → AreTaken IsNotAfter windows (length rooms) shares rooms →
    All (λ share. share.job < job) shares → ((k : ℕ) → (window_at windows job).first ≤ k → k < place → get_or rooms k 0 ≡ 0) →
    IsServed windows job want shares rooms place want shares rooms
serve_begins windows job want shares rooms place taken later full = grind arith

-- the job goes on at another stretch, behind all its shares, where what lies between is full, or the job is done
serve_moves : {windows : List Window} {job want : ℕ} {shares : List JobShare} {rooms : List ℕ} {next next' left : ℕ} {shares' : List JobShare} {rooms' : List ℕ} →
    IsServed windows job want shares rooms next left shares' rooms' → All (λ share. share.job ≡ job → share.stretch < next') shares' →
    (1 ≤ left → (k : ℕ) → next ≤ k → k < next' → get_or rooms' k 0 ≡ 0) → IsServed windows job want shares rooms next' left shares' rooms'
serve_moves {windows} {job} {want} {shares} {rooms} {next} {next'} {left} {shares'} {rooms'} so_far ahead full = record {
  taken = so_far.taken;
  all = so_far.all;
  ahead = ahead;
  wanted = so_far.wanted;
  others = so_far.others;
  same_length = so_far.same_length;
  room = so_far.room;
  swept = λ some k from upto. elim (cases_lt k next) [ inl below ↦ so_far.swept some k from below | inr above ↦ full some k above upto ];
  kept = so_far.kept;
  few = so_far.few;
}

-- full stretches are passed over at once, and so is all once the job is done
pub serve_jumps : {windows : List Window} {job want : ℕ} {shares : List JobShare} {rooms : List ℕ} {next next' left : ℕ} {shares' : List JobShare} {rooms' : List ℕ} →
    IsServed windows job want shares rooms next left shares' rooms' → next ≤ next' →
    (1 ≤ left → (k : ℕ) → next ≤ k → k < next' → get_or rooms' k 0 ≡ 0) → IsServed windows job want shares rooms next' left shares' rooms'
serve_jumps so_far after full = serve_moves so_far (λ i d within same. omega (arith, so_far.ahead i d within same)) full

-- no share lies behind the window's end
pub serve_ends : {windows : List Window} {job want : ℕ} {shares : List JobShare} {rooms : List ℕ} {next left : ℕ} {shares' : List JobShare} {rooms' : List ℕ} →
    IsServed windows job want shares rooms next left shares' rooms' → (window_at windows job).end ≤ next → IsServed windows job want shares rooms (window_at windows job).end left shares' rooms'
serve_ends {windows} so_far past = serve_moves so_far
    (λ i d within same. omega (arith, (so_far.taken.parts i d within).inside.upto, ap (λ j. (window_at windows j).end) same)) (λ some k from upto. absurd (omega (arith, from, upto, past)))

own_units : (job i units : ℕ) → (i ≡ job → ⊥) → (if job == i then units else 0) ≡ 0
own_units job i units other = grind (arith, nat_tests)

same_units : (job units : ℕ) → (if job == job then units else 0) ≡ units
same_units job units = grind (arith, nat_tests)

-- the room that was left, at the stretch of a share and at any other
room_left : (rooms : List ℕ) (place k units : ℕ) → place < length rooms → units ≤ get_or rooms place 0 →
    (if place == k then units else 0) + get_or (set rooms place (get_or rooms place 0 - units)) k 0 ≡ get_or rooms k 0
room_left rooms place k units within room = grind (arith, cases_eq, get_or-set_other, get_or-set_same, own_units, same_units, set)

all_taken : (left room units : ℕ) → units ≡ min left room → 1 ≤ left - units → room - units ≡ 0
all_taken left room units is more = grind arith

counts : (shares full full' shares' full'' left want units room : ℕ) → 1 ≤ left → 1 ≤ room → units ≡ min left room →
    shares' + full + min left 1 ≤ shares + full' + min want 1 → full'' + cond (room == 0) 1 0 ≡ full' + cond ((room - units) == 0) 1 0 →
    (shares' + 1) + full + min (left - units) 1 ≤ shares + full'' + min want 1
counts shares full full' shares' full'' left want units room some free is few sets = grind (arith, nat_tests)

-- the job takes what it can in a stretch
serve_takes : (windows : List Window) (job want : ℕ) (shares : List JobShare) (rooms : List ℕ) (next left : ℕ) (shares' : List JobShare) (rooms' : List ℕ) →
    IsServed windows job want shares rooms next left shares' rooms' → job < length windows → IsIn windows job next → next < length rooms →
    1 ≤ left → 1 ≤ get_or rooms' next 0 → (units : ℕ) → units ≡ min left (get_or rooms' next 0) → IsServed windows job want shares rooms (next + 1) (left - units)
    (shares' ++ record { job = job; stretch = next; units = units } ∷ []) (set rooms' next (get_or rooms' next 0 - units))
serve_takes windows job want shares rooms next left shares' rooms' so_far known inside within some free units is =
    let share : JobShare = record { job = job; stretch = next; units = units } in
    let rest : ℕ = get_or rooms' next 0 - units in
    let room : (1 ≤ units) × (units ≤ get_or rooms' next 0) × (units ≤ left) = (grind arith, grind arith, grind arith) in
    let in_range : next < length rooms' = omega (arith, so_far.same_length) in
    record {
      taken = taken_more windows (length rooms) shares' rooms' share rest so_far.taken (record { known = known; known_stretch = within; inside = inside; some = room.0 })
          free so_far.all so_far.ahead (so_far.swept some);
      all = All-push (λ one. one.job ≤ job) shares' share so_far.all (omega arith);
      ahead = All-push (λ one. one.job ≡ job → one.stretch < next + 1) shares' share
          (λ i d within same. omega (arith, so_far.ahead i d within same)) (λ same. omega arith);
      wanted = omega (arith, so_far.wanted, sum_by_push (λ one. if one.job == job then one.units else 0) shares' share, same_units job units, room.2);
      others = λ i other. omega (arith, so_far.others i other, sum_by_push (λ one. if one.job == i then one.units else 0) shares' share, own_units job i units other);
      same_length = length-set rooms' next rest ∙ so_far.same_length;
      room = λ k. omega (
        arith,
        so_far.room k,
        sum_by_push (λ one. if one.stretch == k then one.units else 0) shares' share,
        room_left rooms' next k units in_range room.1,
      );
      swept = λ more k from upto. elim (cases_eq k next) [
        | inl same ↦ ap (λ i. get_or (set rooms' next rest) i 0) same ∙ get_or-set_same rooms' next rest 0 in_range ∙ all_taken left (get_or rooms' next 0) units is more
        | inr other ↦ get_or-set_other rooms' next k rest 0 other ∙ so_far.swept some k from (omega arith)
      ];
      kept = λ k i full. full_keeps shares' rooms' share rest k i (so_far.kept k i full) free;
      few = rw (length_push shares' share) (counts (length shares) (full_count rooms) (full_count rooms') (length shares') (full_count (set rooms' next rest)) left want units
          (get_or rooms' next 0) some free is so_far.few (sum_by-set (λ room. cond (room == 0) 1 0) rooms' next rest 0 in_range));
    }

-- a job takes what it can in the next stretch of its window, or passes over it
pub serve_take : {windows : List Window} {job want : ℕ} {shares : List JobShare} {rooms : List ℕ} {next left : ℕ} {shares' : List JobShare} {rooms' : List ℕ}
    {left'' : ℕ} {shares'' : List JobShare} {rooms'' : List ℕ} → IsServed windows job want shares rooms next left shares' rooms' → job < length windows →
    IsIn windows job next → next < length rooms → Takes job next left shares' rooms' left'' shares'' rooms'' →
    IsServed windows job want shares rooms (next + 1) left'' shares'' rooms''
serve_take {windows} {job} {want} {shares} {rooms} {next} {left} {shares'} {rooms'} {left''} {shares''} {rooms''} so_far known inside within take = elim take [
  | inl passed ↦
      rw (passed.1, passed.2, passed.3) (serve_jumps so_far (omega arith)
      (λ some k from upto. let here : k ≡ next = omega arith in ap (λ i. get_or rooms' i 0) here ∙ passed.0 some))
  | inr took ↦
      rw (took.4, took.5, took.6) (serve_takes windows job want shares rooms next left shares' rooms' so_far known inside within took.1 took.2 took.0 took.3)
]

wanted_once : (want given units : ℕ) → units + want ≡ given → min want 1 ≤ (if nat_lt 0 given then 1 else 0)
wanted_once want given units is = grind (arith, nat_tests)

-- one job more
pub fill_more : {windows : List Window} {wants rooms : List ℕ} {i : ℕ} {shares : List JobShare} {wants' rooms' : List ℕ} {left : ℕ} {shares' : List JobShare} {rooms'' : List ℕ} →
    i < length wants → IsFilling windows wants rooms i shares wants' rooms' →
    IsServed windows i (get_or wants' i 0) shares rooms' (window_at windows i).end left shares' rooms'' → IsFilling windows wants rooms (i + 1) shares' (set wants' i left) rooms''
fill_more {windows} {wants} {rooms} {i} {shares} {wants'} {rooms'} {left} {shares'} {rooms''} within so_far served =
    let here : get_or (set wants' i left) i 0 ≡ left = get_or-set_same wants' i left 0 (omega (arith, so_far.same_wants)) in
    let there : (j : ℕ) → j ≢ i → get_or (set wants' i left) j 0 ≡ get_or wants' j 0 = λ j other. get_or-set_other wants' i j left 0 other in
    record {
      taken = subst (λ (m : ℕ). AreTaken IsNotAfter windows m shares' rooms'') so_far.same_rooms served.taken;
      same_wants = length-set wants' i left ∙ so_far.same_wants;
      same_rooms = served.same_length ∙ so_far.same_rooms;
      want = λ j. elim (cases_eq j i) [
        | inl same ↦
            let P : ℕ → Type 0 = λ n. units_of_job shares' n + get_or (set wants' i left) n 0 ≡ get_or wants n 0 in
            subst P (sym same) (omega (arith, here, served.wanted, so_far.want i))
        | inr other ↦ omega (arith, served.others j other, there j other, so_far.want j)
      ];
      room = λ k. omega (arith, served.room k, so_far.room k);
      later = λ n d upto. omega (arith, served.all n d upto);
      late = λ a below some k inside. elim (cases_eq a i) [
        | inl same ↦
            let P : ℕ → Type 0 = λ n. 1 ≤ get_or (set wants' i left) n 0 → IsIn windows n k → IsFullBefore IsNotAfter shares' rooms'' k n in
            subst P (sym same) (λ more within. record {
              full = served.swept (omega (arith, more, here)) k within.from within.upto;
              before = λ n d upto stretch. served.all n d upto;
            }) some inside
        | inr other ↦ served.kept k a (so_far.late a (omega arith) (omega (arith, some, there a other)) k inside)
      ];
      few = omega (
        arith,
        served.few,
        so_far.few,
        sum_by_more (λ want. if nat_lt 0 want then 1 else 0) wants i 0 within,
        wanted_once (get_or wants' i 0) (get_or wants i 0) (units_of_job shares i) (so_far.want i),
      );
    }

-- everybody has taken what they could
pub fill_ends : {windows : List Window} {wants rooms : List ℕ} {i : ℕ} {shares : List JobShare} {wants' rooms' : List ℕ} → length windows ≤ i → length wants ≤ i →
    IsFilling windows wants rooms i shares wants' rooms' → IsFill IsNotAfter windows wants rooms shares wants' rooms'
fill_ends {windows} {wants} {rooms} {i} {shares} {wants'} {rooms'} windows_end end filling = record {
  taken = filling.taken;
  same_wants = filling.same_wants;
  same_rooms = filling.same_rooms;
  want = filling.want;
  room = filling.room;
  late = λ j known some k inside. filling.late j (omega arith) some k inside;
  few = omega (arith, filling.few, ap wanting_count (take_all i wants end));
}

-- each number at its own place, one may go on from each stretch itself
pub next_begins : (rooms numbers : List ℕ) (last : ℕ) → length rooms ≡ last → IsNumbers last numbers → IsNext rooms numbers
next_begins rooms numbers last count are = grind arith

-- from a full stretch one may go on to where one may go on from the next one
pub next_jumps : {rooms next : List ℕ} (place after : ℕ) → IsNext rooms next → place < length rooms → get_or rooms place 0 ≡ 0 → IsNextFrom rooms (place + 1) after (length next) →
    IsNext rooms (set next place after)
next_jumps {rooms} {next} place after are within none from_next =
    let here : get_or (set next place after) place 0 ≡ after = get_or-set_same next place after 0 (omega (arith, are.count)) in
    let there : (k : ℕ) → k ≢ place → get_or (set next place after) k 0 ≡ get_or next k 0 = λ k other. get_or-set_other next place k after 0 other in
    let at : (k : ℕ) → k ≡ place → get_or (set next place after) k 0 ≡ after = λ k same. ap (λ j. get_or (set next place after) j 0) same ∙ here in
    let same : length (set next place after) ≡ length next = length-set next place after in
    record {
      count = same ∙ are.count;
      forward = λ k in_range. elim (cases_eq k place) [
        | inl at_place ↦ omega (arith, at k at_place, from_next.after)
        | inr other ↦ omega (arith, there k other, are.forward k (omega (arith, same)))
      ];
      inside = λ k in_range. elim (cases_eq k place) [
        | inl at_place ↦ omega (arith, at k at_place, same, from_next.within)
        | inr other ↦ omega (arith, there k other, same, are.inside k (omega (arith, same)))
      ];
      full = λ k i in_range from upto. elim (cases_eq k place) [
        | inl at_place ↦ elim (cases_eq i place) [
          | inl is ↦ ap (λ j. get_or rooms j 0) is ∙ none
          | inr beyond ↦ from_next.full i (omega (arith, from, at_place, beyond)) (omega (arith, upto, at k at_place))
        ]
        | inr other ↦ are.full k i (omega (arith, same)) from (omega (arith, upto, there k other))
      ];
    }

-- rooms become no greater, so one may go on as before
pub take_next : (rooms next : List ℕ) (job place left : ℕ) (shares : List JobShare) (left' : ℕ) (shares' : List JobShare) (rooms' : List ℕ) →
    IsNext rooms next → Takes job place left shares rooms left' shares' rooms' → IsNext rooms' next
take_next rooms next job place left shares left' shares' rooms' are take = grind (arith, get_or-set_other, length-set)

-- a stretch is full once a job has passed over it and still wants units
pub take_fills : (job place left : ℕ) (shares : List JobShare) (rooms : List ℕ) (left' : ℕ) (shares' : List JobShare) (rooms' : List ℕ) →
    place < length rooms → Takes job place left shares rooms left' shares' rooms' → 1 ≤ left' → get_or rooms' place 0 ≡ 0
take_fills job place left shares rooms left' shares' rooms' within take more = grind (arith, all_taken, get_or-set_same)
