-- Units at places, summed before a place and in blocks.
use Rattle.yds_model.proofs.Common.{rules, ◌≡◌, ℕ, zero, suc, ◌+◌, ◌-◌, ◌*◌, ◌/◌, ◌%◌, ◌<◌, ◌≤◌, List, length, set, replicate, slice_index, slice_index_or, refl, ◌∙◌, ap, arith, inl, inr, add-one, min, All, cases_lt, cases_eq, get_or-replicate, length-replicate, get_or-set_same, get_or-set_other, length-set, All-set, get_or-eq_default, div-add-mod, div-div-eq-div-mul, get_or_default_zero}
use Rattle.model_lemmas.proofs.SumsBelow.{sum_below_same, sum_below_zero, sum_below_change, sum_below_front}
use Rattle.yds_edf.specs.Blocks.{units_before, HaveFewUnits, AreBlocks, AreSummed}

-- # The units before a place

pub one_place_more : (units : List ℕ) (place : ℕ) → units_before units (place + 1) ≡ units_before units place + slice_index units place
one_place_more units place = ap (units_before units) (add-one place)

pub before_rises : (units : List ℕ) (place other : ℕ) → place ≤ other → units_before units place ≤ units_before units other
before_rises units place other = sum_below_front place other (slice_index units)

pub none_at : (count place : ℕ) → slice_index (replicate {A = ℕ} count 0) place ≡ 0
none_at count place = grind (arith, cases_lt, get_or-eq_default, get_or-replicate, length-replicate, replicate)

pub none_before : (count place : ℕ) → units_before (replicate count 0) place ≡ 0
none_before count place = sum_below_zero place (slice_index (replicate count 0)) (λ k within. none_at count k)

-- they are at most so many for each place
at_most : (units : List ℕ) → All (λ n. n ≤ 1000000000000000) units → (place : ℕ) →
    (units_before units place ≤ place * 1000000000000000) × (units_before units place ≤ length units * 1000000000000000)
at_most units each zero = (omega arith, omega arith)
at_most units each (suc place) =
    let before = at_most units each place in
    elim (cases_lt place (length units)) [
      | inl within ↦ (omega (arith, before.0, each place 0 within), omega (arith, before.0, each place 0 within, within))
      | inr beyond ↦
          let none : slice_index units place ≡ 0 = get_or-eq_default units 0 beyond in
          (omega (arith, before.0, none), omega (arith, before.1, none))
    ]

-- none beyond the last place
pub before_beyond : (units : List ℕ) (place : ℕ) → length units ≤ place → units_before units place ≡ units_before units (length units)
before_beyond units place beyond = elim (cases_eq place (length units)) [
  | inl same ↦ ap (units_before units) same
  | inr other ↦ one_beyond place (omega (arith, beyond, other))
]
  where
    one_beyond : (place : ℕ) → length units < place → units_before units place ≡ units_before units (length units)
    one_beyond zero less = absurd (omega (arith, less))
    one_beyond (suc place) less =
        let none : slice_index units place ≡ 0 = get_or-eq_default units 0 (omega (arith, less)) in
        elim (cases_eq place (length units)) [
          | inl same ↦ omega (arith, none, ap (units_before units) same)
          | inr other ↦ omega (arith, none, one_beyond place (omega (arith, less, other)))
        ]

module _ {units blocks groups : List ℕ} {total start : ℕ} (summed : AreSummed units blocks groups total start) where
  pub few_units : HaveFewUnits units
  few_units place = omega (arith, (at_most units summed.in_range place).1, summed.few)

-- # Other units at a place

module _ (units : List ℕ) (place more : ℕ) (known : place < length units) where
  before_stays : (end : ℕ) → end ≤ place → units_before (set units place more) end ≡ units_before units end
  before_stays end upto = sum_below_same end (slice_index (set units place more)) (slice_index units)
      (λ k within. get_or-set_other units place k more 0 (λ same. omega (arith, within, upto, same)))

  before_changes : (end : ℕ) → place < end → units_before (set units place more) end + slice_index units place ≡ units_before units end + more
  before_changes end past = omega (
    arith,
    sum_below_change end place (slice_index (set units place more)) (slice_index units) past (λ k within other. get_or-set_other units place k more 0 other),
    get_or-set_same units place more 0 known,
  )

-- # Blocks

block_of : (place : ℕ) → (place / 8 * 8 ≤ place) × (place < place / 8 * 8 + 8)
block_of place = grind arith

pub none_in_blocks : (count : ℕ) → AreBlocks (replicate count 0) (replicate (count / 8 + 1) 0)
none_in_blocks count = grind (arith, block_of, length-replicate, none_at, none_before)

pub small_in_range : (count : ℕ) → All (λ n. n ≤ 1000000000000000) (replicate {A = ℕ} count 0)
small_in_range count k d within = omega (arith, get_or-replicate count k 0 d (omega (arith, within, length-replicate {A = ℕ} count 0)))

-- the sums before a block are the units before its first place
pub before_block : (units sums : List ℕ) → AreBlocks units sums → (block : ℕ) → units_before sums block ≡ units_before units (block * 8)
before_block units sums blocks zero = refl
before_block units sums blocks (suc block) = elim (cases_lt block (length sums)) [
  | inl within ↦ omega (arith, before_block units sums blocks block, blocks.each block within, ap (units_before units) (let at : suc block * 8 ≡ block * 8 + 8 = omega arith in at))
  | inr beyond ↦
      let none : slice_index sums block ≡ 0 = get_or-eq_default sums 0 beyond in
      omega (
        arith,
        none,
        before_block units sums blocks block,
        before_beyond units (block * 8) (omega (arith, blocks.all, beyond)),
        before_beyond units (suc block * 8) (omega (arith, blocks.all, beyond)),
      )
]

module _ (units sums : List ℕ) (blocks : AreBlocks units sums) (place : ℕ) (known : place < length units) where
  pub block_known : place / 8 < length sums
  block_known = grind arith

  -- the units at a place are some of its block's
  pub block_has : slice_index units place ≤ slice_index sums (place / 8)
  block_has = grind arith

  pub block_few : HaveFewUnits units → slice_index sums (place / 8) ≤ 4000000000000000000
  block_few few = omega (arith, blocks.each (place / 8) block_known, few (place / 8 * 8 + 8))

  module _ (more sum : ℕ) (is : sum ≡ slice_index sums (place / 8) - slice_index units place + more) where
    each_block : (block : ℕ) → block < length sums →
        units_before (set units place more) (block * 8) + slice_index (set sums (place / 8) sum) block ≡ units_before (set units place more) (block * 8 + 8)
    each_block block within = grind (arith, before_changes, before_stays, block_has, block_known, block_of, cases_eq, cases_lt, get_or-set_other, get_or-set_same)

    pub blocks_set : AreBlocks (set units place more) (set sums (place / 8) sum)
    blocks_set = grind (arith, each_block, length-set)

-- the units of one place are some of all
pub place_has : (units : List ℕ) (place : ℕ) → place < length units → slice_index units place ≤ units_before units (length units)
place_has units place known = omega (arith, one_place_more units place, before_rises units (place + 1) (length units) (omega arith))

-- the sums of the blocks and of their blocks that a place is in
module _ {units blocks groups : List ℕ} {total start : ℕ} (summed : AreSummed units blocks groups total start) (place : ℕ) (known : place < length units) where
  pub in_block : place / 8 < length blocks
  in_block = block_known units blocks summed.in_blocks place known

  pub in_group : place / 8 / 8 < length groups
  in_group = block_known blocks groups summed.in_groups (place / 8) in_block

  pub sums_have : (slice_index units place ≤ slice_index blocks (place / 8)) × (slice_index blocks (place / 8) ≤ slice_index groups (place / 8 / 8))
  sums_have = (block_has units blocks summed.in_blocks place known, block_has blocks groups summed.in_groups (place / 8) in_block)

  pub sums_few : (slice_index blocks (place / 8) ≤ 4000000000000000000) × (slice_index groups (place / 8 / 8) ≤ 4000000000000000000)
  sums_few = (
    block_few units blocks summed.in_blocks place known (few_units summed),
    block_few blocks groups summed.in_groups (place / 8) in_block
        (λ block. omega (arith, before_block units blocks summed.in_blocks block, few_units summed (block * 8))),
  )

  -- other units at the place, and the sums beside them
  pub summed_set : (more block group all : ℕ) → more ≤ 1000000000000000 → block ≡ slice_index blocks (place / 8) - slice_index units place + more →
      group ≡ slice_index groups (place / 8 / 8) - slice_index units place + more → all ≡ total - slice_index units place + more →
      AreSummed (set units place more) (set blocks (place / 8) block) (set groups (place / 8 / 8) group) all (min start place)
  summed_set more block group all in_range block_is group_is all_is = search (arith, rules, All-set, before_changes, before_rises, before_stays, blocks_set, in_block, length-set, min, place_has, sums_have)

  -- what is read of the place, its block and the block of blocks
  module _ {old : ℕ} (old_is : old ≡ slice_index_or units place old) where
    old_read : old ≡ slice_index units place
    old_read = old_is ∙ get_or_default_zero units place old known

    pub total_fits : (old ≤ total) × (total ≤ 4000000000000000000)
    total_fits = (omega (arith, old_read, summed.all, place_has units place known), omega (arith, summed.all, few_units summed (length units)))

    module _ {block : ℕ} (block_is : block ≡ slice_index_or blocks (place / 8) block) where
      block_read : block ≡ slice_index blocks (place / 8)
      block_read = block_is ∙ get_or_default_zero blocks (place / 8) block in_block

      pub block_fits : (old ≤ block) × (block ≤ 4000000000000000000)
      block_fits = (omega (arith, old_read, block_read, sums_have), omega (arith, block_read, sums_few))

    module _ {group : ℕ} (group_is : group ≡ slice_index_or groups (place / 8 / 8) group) where
      group_read : group ≡ slice_index groups (place / 8 / 8)
      group_read = group_is ∙ get_or_default_zero groups (place / 8 / 8) group in_group

      pub group_fits : (old ≤ group) × (group ≤ 4000000000000000000)
      group_fits = (omega (arith, old_read, group_read, sums_have), omega (arith, group_read, sums_few))

    pub set_read : {block group : ℕ} → block ≡ slice_index_or blocks (place / 8) block → group ≡ slice_index_or groups (place / 8 / 8) group →
        (more first : ℕ) → more ≤ 1000000000000000 → first ≡ min start place →
        AreSummed (set units place more) (set blocks (place / 8) (block - old + more)) (set groups (place / 8 / 8) (group - old + more)) (total - old + more) first
    set_read {block = block} {group = group} block_is group_is more first in_range is =
        rw is (summed_set more (block - old + more) (group - old + more) (total - old + more) in_range
        (omega (arith, old_read, block_read block_is)) (omega (arith, old_read, group_read group_is)) (omega (arith, old_read)))

-- where some have units, a place with none before it is one of them
pub place_left : (units : List ℕ) (place : ℕ) → 1 ≤ units_before units (length units) → units_before units place ≡ 0 → place < length units
place_left units place some none = grind (arith, before_rises, cases_lt)

-- where all are counted there are none from here on
pub none_left : (units : List ℕ) (start place so_far : ℕ) → place ≤ length units → units_before units start + so_far ≡ units_before units place →
    units_before units (length units) ≤ so_far → units_before units start + so_far ≡ units_before units (length units)
none_left units start place so_far within sum all = omega (arith, sum, all, before_rises units place (length units) within)

-- a whole block
pub whole_block : (units sums : List ℕ) → AreBlocks units sums → (start end : ℕ) → start % 8 ≡ 0 → end ≡ start + 8 → start < length units →
    units_before units start + slice_index sums (start / 8) ≡ units_before units end
whole_block units sums blocks start end begins ends within = grind arith

-- a whole block of blocks
pub whole_group : {units blocks groups : List ℕ} {total start : ℕ} → AreSummed units blocks groups total start → (from end : ℕ) → from % 64 ≡ 0 → end ≡ from + 64 →
    from < length units → units_before units from + slice_index groups (from / 8 / 8) ≡ units_before units end
whole_group {units = units} {blocks = blocks} summed from end begins ends known =
    let at : from / 8 / 8 * 8 * 8 ≡ from = omega (arith, div-add-mod from 64, begins, div-div-eq-div-mul from 8 8) in
    omega (
      arith,
      summed.in_groups.each (from / 8 / 8) (in_group summed from known),
      before_block units blocks summed.in_blocks (from / 8 / 8 * 8),
      before_block units blocks summed.in_blocks (from / 8 / 8 * 8 + 8),
      ap (units_before units) at,
      ap (units_before units) (let upto : (from / 8 / 8 * 8 + 8) * 8 ≡ end = omega (arith, at, ends) in upto),
    )
