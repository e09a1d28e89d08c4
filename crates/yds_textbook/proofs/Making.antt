-- What a stage is made of, as it is read from lists that are known to be equal to others.
use Rattle.yds_model.proofs.Common.{◌≡◌, ℕ, ◌+◌, ◌*◌, ◌<◌, ◌≤◌, List, [], ◌∷◌, ◌++◌, length, get_or, map, take, add-one, ◌∙◌, sym, ap, arith, refl, subst, IsGcd, All, range_with_len, flat_map, length-map, map-append, map_more, length-filter, count_by-le-length, All-contains, Contains-get_or, length-range_with_len, flat_map-take, Job, Quotient, Piece, stretches}
use Rattle.yds_events.specs.Stretch.{nth_stretch}
use Rattle.yds_fraction.proofs.OverDivisor.{lowest_is}
use Rattle.yds_search.specs.declared.found.Group as groups
use Rattle.yds_search.specs.Found.{Group, Found}
use Rattle.yds_search.specs.Views.{group_view}
use Rattle.yds_textbook.specs.declared.stage.Stage.{Stage}
use Rattle.yds_timetable.specs.Shares.{JobShare, shares_in}
use Rattle.yds_edf.specs.Filled.{IsFilled}
use Rattle.yds_edf.proofs.Filled.{stands_in}
use Rattle.yds_critical.specs.declared.interval.Interval.{Interval}
use Rattle.yds_contract.specs.Contracted.{place}
use Rattle.yds_textbook.specs.Waiting.{contracted_stretches, stretches_inside}
use Rattle.yds_textbook.specs.Served.{capacity_of}
use Rattle.yds_textbook.specs.Stages.{speed_of}
use Rattle.yds_textbook.proofs.Left.{each_inside}

-- the stretches of the jobs, by another name
pub stretches_are : (jobs : List Job) (timeline removed : List Piece) (interval : Interval) (numbers : List ℕ) → timeline ≡ stretches jobs →
    numbers ≡ stretches_inside timeline removed interval → numbers ≡ stretches_inside (stretches jobs) removed interval
stretches_are jobs timeline removed interval numbers same is = subst (λ (pieces : List Piece). numbers ≡ stretches_inside pieces removed interval) same is

pub left_are : (jobs : List Job) (timeline removed : List Piece) (numbers own : List ℕ) → timeline ≡ stretches jobs → numbers ≡ own →
    contracted_stretches timeline removed numbers ≡ contracted_stretches (stretches jobs) removed own
left_are jobs timeline removed numbers own same is =
    ap (λ (pieces : List Piece). contracted_stretches pieces removed numbers) same ∙ ap (λ (ns : List ℕ). contracted_stretches (stretches jobs) removed ns) is

-- the stretches inside an interval, whose numbers stand in another list
pub numbers_known : (jobs : List Job) (timeline removed : List Piece) (interval : Interval) (numbers : List ℕ) → timeline ≡ stretches jobs →
    numbers ≡ stretches_inside (stretches jobs) removed interval → All (λ k. k < length timeline) numbers
numbers_known jobs timeline removed interval numbers same is = grind (arith, each_inside)

pub numbers_left : (jobs : List Job) (timeline removed : List Piece) (interval : Interval) (numbers : List ℕ) → timeline ≡ stretches jobs →
    numbers ≡ stretches_inside (stretches jobs) removed interval →
    All (λ k. place removed (nth_stretch timeline k).from < place removed (nth_stretch timeline k).to) numbers
numbers_left jobs timeline removed interval numbers same is = grind (arith, each_inside)

-- no more of the stretches are left than there are
pub few_left : (timeline removed : List Piece) (interval : Interval) → length (contracted_stretches timeline removed (stretches_inside timeline removed interval)) ≤ length timeline
few_left timeline removed interval = grind (arith, count_by-le-length, length-filter, length-map, length-range_with_len)

-- a speed in lowest terms is that of its group
pub speed_is : (work length : ℕ) (speed : Quotient) → 1 ≤ length → 1 ≤ speed.den → work * speed.den ≡ speed.num * length → IsGcd speed.num speed.den 1 →
    speed ≡ speed_of (record { work = work; length = length })
speed_is work length speed some some_den same lowest =
    let terms = lowest_is work length speed.num speed.den some some_den same lowest in
    ap (λ (n : ℕ). record { num = n; den = speed.den }) terms.0 ∙ ap (λ (d : ℕ). record { num = (speed_of (record { work = work; length = length })).num; den = d }) terms.1

-- what is filled, by other names
pub filled_as : (jobs own : List Job) (pieces left : List Piece) (speed other : Quotient) (count : ℕ) (served : List JobShare) → jobs ≡ own → pieces ≡ left → speed ≡ other →
    length own ≡ count → IsFilled jobs (range_with_len 0 (length jobs)) speed.den pieces (map (capacity_of speed) pieces) served →
    IsFilled own (range_with_len 0 count) other.den left (map (capacity_of other) left) served
filled_as jobs own pieces left speed other count served same_jobs same_pieces same_speed counted filled = grind arith

-- each share is of a job
pub jobs_known : (jobs : List Job) (ties : List ℕ) (grain : ℕ) (pieces : List Piece) (capacities : List ℕ) (served : List JobShare) →
    IsFilled jobs ties grain pieces capacities served → All (λ (share : JobShare). share.job < length jobs) served
jobs_known jobs ties grain pieces capacities served filled k d within =
    All-contains (λ (share : JobShare). share.job < length jobs) (shares_in served (get_or served k d).stretch) (get_or served k d)
    (filled.serving (get_or served k d).stretch (filled.known k d within)).known (stands_in served (get_or served k d) (Contains-get_or served k d within))

-- the groups and the shares of one stage more
pub groups_next : (stages : List Stage) (i : ℕ) (stage : Stage) (groups more : List groups.Group) → i < length stages → stage ≡ get_or stages i stage →
    map group_view groups ≡ map (λ (one : Stage). group_view one.group) (take i stages) → more ≡ groups ++ stage.group ∷ [] →
    map group_view more ≡ map (λ (one : Stage). group_view one.group) (take (i + 1) stages)
groups_next stages i stage groups more within is so_far next =
    ap (map group_view) next ∙ map-append group_view groups (stage.group ∷ [])
    ∙ ap (λ (gs : List Group). gs ++ group_view stage.group ∷ []) so_far
    ∙ ap (λ (one : Stage). map (λ (s : Stage). group_view s.group) (take i stages) ++ group_view one.group ∷ []) is
    ∙ sym (map_more (λ (one : Stage). group_view one.group) stages i stage within)

pub shares_next : (stages : List Stage) (i : ℕ) (stage : Stage) (own more : List JobShare) → i < length stages → stage ≡ get_or stages i stage →
    own ≡ flat_map (λ (one : Stage). one.shares.items) (take i stages) → more ≡ own ++ stage.shares.items →
    more ≡ flat_map (λ (one : Stage). one.shares.items) (take (i + 1) stages)
shares_next stages i stage own more within is so_far next =
    next ∙ ap (λ (ss : List JobShare). ss ++ stage.shares.items) so_far
    ∙ ap (λ (one : Stage). flat_map (λ (s : Stage). s.shares.items) (take i stages) ++ one.shares.items) is
    ∙ sym (rw add-one (flat_map-take (λ (one : Stage). one.shares.items) stages i stage within))

-- what was found, part by part
abbrev pub found_with : List Group → List ℕ → List ℕ → List JobShare → Found
found_with one jobs stretches shares = record { groups = one; group_of_job = jobs; group_of_stretch = stretches; shares = shares }

pub found_parts : (one one' : List Group) (jobs jobs' stretches stretches' : List ℕ) (shares shares' : List JobShare) → one ≡ one' → jobs ≡ jobs' → stretches ≡ stretches' →
    shares ≡ shares' → found_with one jobs stretches shares ≡ found_with one' jobs' stretches' shares'
found_parts one one' jobs jobs' stretches stretches' shares shares' e f g h = rw (e, f, g, h) refl
