-- A part's stretches by their marks, and its jobs by what they meet: who is in either part, the sums, and the places.
use Rattle.yds_model.proofs.Common.{◌≡◌, ℕ, zero, suc, ◌+◌, ◌-◌, ◌<◌, ◌≤◌, ◌==◌, Bool, true, false, cond, List, [], ◌∷◌, ◌++◌, ◌∙◌, length, map, take, drop, sum, get_or, refl, sym, ap, subst, inl, inr, arith, All, AllPairs, filter, sum_by, cases_lt, cond_both, eqb-true, eq-eqb, length-take, length-take-le, length-drop, length-append, length-map, get_or-take, get_or-drop, get_or-map, get_or_append_left, get_or-append_right, All-nil, All-cons, All-tail, All-map, All-filter, All-from_get_or, All-take, filter_passes, length-filter_both, sum_by-filter_both, AllPairs-cons, sum_by-cons, sum_by-map}
use Rattle.yds_events.specs.Window.{IsPlace}
use Rattle.yds_search.specs.declared.own.OwnJob.{OwnJob}
use Rattle.yds_search.specs.declared.own.OwnStretch.{OwnStretch}
use Rattle.yds_search.specs.Own.{stretch_numbers}
use Rattle.yds_search.specs.Closure.{AreRanks}
use Rattle.yds_search.specs.Stack.{moving_jobs, staying_jobs, marked_with}
use Rattle.yds_search.specs.Waiting.{HasOne}
use Rattle.yds_search.proofs.KeySums.{count_all}
use Rattle.yds_search.proofs.Members.{one_at, at_one, one_map, one_filter}
use Rattle.yds_search.proofs.Filled.{no_own, no_own_stretch}

-- what holds where the mark stands
pub all_marked : (P : OwnStretch → Type 0) (mark : ℕ) (marks : List ℕ) (own : List OwnStretch) → length marks ≡ length own →
    ((p : ℕ) → p < length own → get_or marks p 0 ≡ mark → P (get_or own p no_own_stretch)) → All P (marked_with mark marks own)
all_marked P mark [] own count each = All-nil P
all_marked P mark (one ∷ marks) [] count each = All-nil P
all_marked P mark (one ∷ marks) (x ∷ own) count each =
    let rest = all_marked P mark marks own (omega (arith, count)) (λ p within is. each (suc p) (omega (arith, within)) is) in
    cond_both (one == mark) (x ∷ marked_with mark marks own) (marked_with mark marks own) (All P)
    (λ yes. All-cons P x (marked_with mark marks own) (each 0 (omega arith) (eqb-true one mark yes)) rest) (λ no. rest)

-- who has the mark is one of those that have it
pub one_marked : (P : OwnStretch → Type 0) (mark : ℕ) (marks : List ℕ) (own : List OwnStretch) (p : ℕ) → length marks ≡ length own → p < length own → get_or marks p 0 ≡ mark →
    P (get_or own p no_own_stretch) → HasOne P (marked_with mark marks own)
one_marked P mark [] own p count within is here = absurd (omega (arith, count, within))
one_marked P mark (one ∷ marks) [] p count within is here = absurd (omega (arith, within))
one_marked P mark (one ∷ marks) (x ∷ own) zero count within is here = rw (eq-eqb one mark is) (inl here)
one_marked P mark (one ∷ marks) (x ∷ own) (suc p) count within is here =
    let rest = one_marked P mark marks own p (omega (arith, count)) (omega (arith, within)) is here in
    cond_both (one == mark) (x ∷ marked_with mark marks own) (marked_with mark marks own) (HasOne P) (λ yes. inr rest) (λ no. rest)

-- and each of those that have it stands at a place with the mark
pub marked_from : (P : OwnStretch → Type 0) (mark : ℕ) (marks : List ℕ) (own : List OwnStretch) → length marks ≡ length own → HasOne P (marked_with mark marks own) →
    (p : ℕ) × (p < length own) × P (get_or own p no_own_stretch) × (get_or marks p 0 ≡ mark)
marked_from P mark marks own count one =
    let found = one_at P (marked_with mark marks own) one in
    let stands = all_marked (λ x. P x → (p : ℕ) × (p < length own) × P (get_or own p no_own_stretch) × (get_or marks p 0 ≡ mark)) mark marks own count
    (λ p within is here. (p, within, here, is)) in
    stands found.0 no_own_stretch found.1 (found.2 no_own_stretch)

-- they keep their order
pub pairs_marked : (R : OwnStretch → OwnStretch → Type 0) (mark : ℕ) (marks : List ℕ) (own : List OwnStretch) → length marks ≡ length own → AllPairs R own → AllPairs R (marked_with mark marks own)
pairs_marked R mark [] own count pairs = λ a b d before within. absurd (omega (arith, within))
pairs_marked R mark (one ∷ marks) [] count pairs = λ a b d before within. absurd (omega (arith, within))
pairs_marked R mark (one ∷ marks) (x ∷ own) count pairs =
    let rest = pairs_marked R mark marks own (omega (arith, count)) (λ a b d before within. pairs (suc a) (suc b) d (omega (arith, before)) (omega (arith, within))) in
    cond_both (one == mark) (x ∷ marked_with mark marks own) (marked_with mark marks own) (AllPairs R)
    (λ yes. AllPairs-cons R x (marked_with mark marks own) (all_marked (R x) mark marks own (omega (arith, count))
    (λ p within is. pairs 0 (suc p) no_own_stretch (omega arith) (omega (arith, within)))) rest) (λ no. rest)

-- each stretch has one of two marks
pub sum_marked : (f : OwnStretch → ℕ) (marks : List ℕ) (own : List OwnStretch) → All (λ mark. mark ≤ 1) marks → length marks ≡ length own →
    sum_by f (marked_with 0 marks own) + sum_by f (marked_with 1 marks own) ≡ sum_by f own
sum_marked f [] [] small count = refl
sum_marked f [] (x ∷ own) small count = absurd (omega (arith, count))
sum_marked f (mark ∷ marks) [] small count = absurd (omega (arith, count))
sum_marked f (zero ∷ marks) (x ∷ own) small count =
    omega (arith, sum_by-cons f x own, sum_by-cons f x (marked_with 0 marks own), sum_marked f marks own (All-tail (λ mark. mark ≤ 1) 0 marks small) (omega (arith, count)))
sum_marked f ((suc zero) ∷ marks) (x ∷ own) small count =
    omega (arith, sum_by-cons f x own, sum_by-cons f x (marked_with 1 marks own), sum_marked f marks own (All-tail (λ mark. mark ≤ 1) 1 marks small) (omega (arith, count)))
sum_marked f ((suc (suc n)) ∷ marks) (x ∷ own) small count = absurd (omega (arith, small 0 0 (omega arith)))

-- as many as both kinds are all
pub stretches_parted : (marks : List ℕ) (own : List OwnStretch) → All (λ mark. mark ≤ 1) marks → length marks ≡ length own →
    length (marked_with 0 marks own) + length (marked_with 1 marks own) ≡ length own
stretches_parted marks own small count = omega (
  arith,
  sum_marked (λ x. 1) marks own small count,
  count_all (marked_with 0 marks own),
  count_all (marked_with 1 marks own),
  count_all own,
)

-- as many have the mark 1 as all marks sum up to
marks_sum : (marks : List ℕ) (own : List OwnStretch) → All (λ mark. mark ≤ 1) marks → length marks ≡ length own → length (marked_with 1 marks own) ≡ sum marks
marks_sum [] own small count = refl
marks_sum (mark ∷ marks) [] small count = absurd (omega (arith, count))
marks_sum (zero ∷ marks) (x ∷ own) small count = omega (arith, sum_by-cons (λ n. n) 0 marks, marks_sum marks own (All-tail (λ mark. mark ≤ 1) 0 marks small) (omega (arith, count)))
marks_sum ((suc zero) ∷ marks) (x ∷ own) small count = omega (arith, sum_by-cons (λ n. n) 1 marks, marks_sum marks own (All-tail (λ mark. mark ≤ 1) 1 marks small) (omega (arith, count)))
marks_sum ((suc (suc n)) ∷ marks) (x ∷ own) small count = absurd (omega (arith, small 0 0 (omega arith)))

-- one more before a list that is cut
cond_append : {X : Type 0} (b : Bool) (x : X) (xs ys : List X) → cond b (x ∷ (xs ++ ys)) (xs ++ ys) ≡ cond b (x ∷ xs) xs ++ ys
cond_append true x xs ys = refl
cond_append false x xs ys = refl

-- those before a place, and the others
marked_cut : (mark place : ℕ) (marks : List ℕ) (own : List OwnStretch) → length marks ≡ length own →
    marked_with mark marks own ≡ marked_with mark (take place marks) (take place own) ++ marked_with mark (drop place marks) (drop place own)
marked_cut mark zero marks own count = refl
marked_cut mark (suc place) [] own count = refl
marked_cut mark (suc place) (one ∷ marks) [] count = absurd (omega (arith, count))
marked_cut mark (suc place) (one ∷ marks) (x ∷ own) count =
    ap (λ (rest : List OwnStretch). cond (one == mark) (x ∷ rest) rest) (marked_cut mark place marks own (omega (arith, count)))
    ∙ cond_append (one == mark) x (marked_with mark (take place marks) (take place own)) (marked_with mark (drop place marks) (drop place own))

-- where those before are less than a number and the others are not, the number's place is between them
pub place_between : (before after : List OwnStretch) (number : ℕ) → All (λ own. own.stretch < number) before → All (λ own. number ≤ own.stretch) after →
    IsPlace (stretch_numbers (before ++ after)) number (length before)
place_between before after number less more =
    let count : length (stretch_numbers (before ++ after)) ≡ length before + length after = length-map (before ++ after) (λ own. own.stretch) ∙ length-append before after in
    let read = λ (i : ℕ) (within : i < length (before ++ after)). get_or-map (λ (own : OwnStretch). own.stretch) (before ++ after) i no_own_stretch 0 within in
    record {
      within = omega (arith, count);
      before = λ i upto. omega (
        arith,
        less i no_own_stretch upto,
        read i (omega (arith, upto, length-append before after)),
        ap (λ (own : OwnStretch). own.stretch) (get_or_append_left before after no_own_stretch i upto),
      );
      from = λ i from upto. omega (
        arith,
        more (i - length before) no_own_stretch (omega (arith, from, upto, count)),
        read i (omega (arith, upto, count, length-append before after)),
        ap (λ (own : OwnStretch). own.stretch) (get_or-append_right before after (length before) i no_own_stretch refl from),
      );
    }

-- a number's place among those with a mark is how many before it have the mark
marked_place : (mark : ℕ) (marks : List ℕ) (own : List OwnStretch) (number place : ℕ) → length marks ≡ length own → IsPlace (stretch_numbers own) number place →
    IsPlace (stretch_numbers (marked_with mark marks own)) number (length (marked_with mark (take place marks) (take place own)))
marked_place mark marks own number place count is =
    let all : length (stretch_numbers own) ≡ length own = length-map own (λ own. own.stretch) in
    subst (λ (xs : List OwnStretch). IsPlace (stretch_numbers xs) number (length (marked_with mark (take place marks) (take place own)))) (sym (marked_cut mark place marks own count))
    (place_between (marked_with mark (take place marks) (take place own)) (marked_with mark (drop place marks) (drop place own)) number
    (all_marked (λ own. own.stretch < number) mark (take place marks) (take place own) (omega (arith, count, length-take place marks, length-take place own)) (λ p within marked.
    let here : (p < place) × (p < length own) = (omega (arith, within, length-take place own), omega (arith, within, length-take place own)) in
    omega (
      arith,
      is.before p here.0,
      get_or-map (λ own. own.stretch) own p no_own_stretch 0 here.1,
      ap (λ (own : OwnStretch). own.stretch) (get_or-take place own p no_own_stretch here.0),
    )))
    (all_marked (λ own. number ≤ own.stretch) mark (drop place marks) (drop place own) (omega (arith, count, length-drop place marks, length-drop place own)) (λ p within marked.
    let here : place + p < length own = omega (arith, within, length-drop place own) in
    omega (
      arith,
      is.from (place + p) (omega arith) (omega (arith, here, all)),
      get_or-map (λ own. own.stretch) own (place + p) no_own_stretch 0 here,
      ap (λ (own : OwnStretch). own.stretch) (get_or-drop place own p no_own_stretch),
    ))))

-- so it is the rank, or what the rank leaves
pub place_moved : (marks ranks : List ℕ) (own : List OwnStretch) → All (λ mark. mark ≤ 1) marks → AreRanks marks ranks → length marks ≡ length own → (number place : ℕ) →
    IsPlace (stretch_numbers own) number place →
    IsPlace (stretch_numbers (marked_with 1 marks own)) number (get_or ranks place 0) × IsPlace (stretch_numbers (marked_with 0 marks own)) number (place - get_or ranks place 0)
place_moved marks ranks own small are count number place is =
    let within : place ≤ length own = omega (arith, is.within, length-map own (λ own. own.stretch)) in
    let few = All-take (λ mark. mark ≤ 1) place marks small in
    let some : length (take place marks) ≡ length (take place own) = omega (arith, count, length-take place marks, length-take place own) in
    let rank : length (marked_with 1 (take place marks) (take place own)) ≡ get_or ranks place 0 =
    marks_sum (take place marks) (take place own) few some ∙ sym (are.each place (omega (arith, within, count))) in (
      subst (IsPlace (stretch_numbers (marked_with 1 marks own)) number) rank (marked_place 1 marks own number place count is),
      subst (IsPlace (stretch_numbers (marked_with 0 marks own)) number)
          (omega (arith, rank, stretches_parted (take place marks) (take place own) few some, length-take-le place own within)) (marked_place 0 marks own number place count is),
    )

-- where a stretch lies between two numbers, the place of the first one is before that of the second one
pub places_meet : (own : List OwnStretch) (from upto k first end : ℕ) → IsPlace (stretch_numbers own) from first → IsPlace (stretch_numbers own) upto end →
    HasOne (λ one. one.stretch ≡ k) own → from ≤ k → k < upto → first < end
places_meet own from upto k first end is is' one after before =
    let place = one_at (λ one. one.stretch ≡ k) own one in
    let number : get_or (stretch_numbers own) place.0 0 ≡ k = get_or-map (λ one. one.stretch) own place.0 no_own_stretch 0 place.1 ∙ place.2 no_own_stretch in
    elim (cases_lt first end) [
      | inl less ↦ less
      | inr more ↦ absurd (elim (cases_lt place.0 first) [
        | inl less ↦ omega (arith, is.before place.0 less, number, after)
        | inr past ↦ omega (arith, is'.from place.0 (omega (arith, more, past)) (omega (arith, place.1, length-map own (λ one. one.stretch))), number, before)
      ])
    ]

-- a job with other places
abbrev pub placed : (ℕ → ℕ) → OwnJob → OwnJob
placed place own = record { job = own.job; work = own.work; first = place own.first; end = place own.end }

-- those jobs of a list that pass, with other places
abbrev pub those : (OwnJob → Bool) → (ℕ → ℕ) → List OwnJob → List OwnJob
those q place jobs = map (placed place) (filter q jobs)

-- what holds of each that passes, with its other places
pub all_those : (P : OwnJob → Type 0) (q : OwnJob → Bool) (place : ℕ → ℕ) (jobs : List OwnJob) →
    ((i : ℕ) → i < length jobs → q (get_or jobs i no_own) ≡ true → P (placed place (get_or jobs i no_own))) → All P (those q place jobs)
all_those P q place jobs each = All-map P (placed place) (filter q jobs)
    (λ i d within. All-filter q (λ own. q own ≡ true → P (placed place own)) jobs (All-from_get_or (λ own. q own ≡ true → P (placed place own)) jobs no_own each) i d within
    (filter_passes q jobs i d within))

-- who passes is one of them
pub one_those : (q : OwnJob → Bool) (place : ℕ → ℕ) (P : OwnJob → Type 0) (jobs : List OwnJob) (i : ℕ) → i < length jobs → q (get_or jobs i no_own) ≡ true →
    P (placed place (get_or jobs i no_own)) → HasOne P (those q place jobs)
one_those q place P jobs i within passes is =
    one_map P (placed place) (filter q jobs) (one_filter (λ own. P (placed place own)) q jobs (at_one (λ own. P (placed place own) × (q own ≡ true)) jobs i no_own within (is, passes)))

-- and each of them stands at a place of the list and passes
pub those_from : (q : OwnJob → Bool) (place : ℕ → ℕ) (jobs : List OwnJob) (j : ℕ) → HasOne (λ own. own.job ≡ j) (those q place jobs) →
    (i : ℕ) × (i < length jobs) × ((get_or jobs i no_own).job ≡ j) × (q (get_or jobs i no_own) ≡ true)
those_from q place jobs j one =
    let found = one_at (λ own. own.job ≡ j) (those q place jobs) one in
    all_those (λ own. own.job ≡ j → (i : ℕ) × (i < length jobs) × ((get_or jobs i no_own).job ≡ j) × (q (get_or jobs i no_own) ≡ true)) q place jobs
    (λ i within passes is. (i, within, is, passes)) found.0 no_own found.1 (found.2 no_own)

-- each job stays or moves
pub sum_jobs : (f : ℕ → ℕ) (ranks : List ℕ) (jobs : List OwnJob) →
    sum_by (λ own. f own.job) (staying_jobs ranks jobs) + sum_by (λ own. f own.job) (moving_jobs ranks jobs) ≡ sum_by (λ own. f own.job) jobs
sum_jobs f ranks jobs = grind (arith, sum_by-filter_both, sum_by-map)

-- as many as stay and move are all
pub jobs_parted : (ranks : List ℕ) (jobs : List OwnJob) → length (staying_jobs ranks jobs) + length (moving_jobs ranks jobs) ≡ length jobs
jobs_parted ranks jobs = grind (arith, length-filter_both, length-map)
