-- What a run on a grid does in each stretch.
use Rattle.yds_model.proofs.Common.{◌≡◌, ℕ, ◌-◌, ◌*◌, ◌<◌, ◌≤◌, List, [], ◌∷◌, length, sym, ap, ap₂, subst, ◌∙◌, arith, sum_by, All, length-map, get_or-map, All-tail, All-from_get_or, sum_by-cons, mul-le-mul_left, le_of_mul-le-mul_left, IsFirstFailure, Job, WholeSlot, IsScale, IsSolid, slots_at, Piece, Point, hull_of, hull_multiple, stretches, top_of, work_in, time_at, HoldsStretch, stretch_at, Spent, HoldsAll, IsTooSlowFor}
use Rattle.yds_events.specs.Stretch.{length_of}
use Rattle.yds_timetable.specs.Timetable.{Row, row_at, stretches_of, slots_of}
use Rattle.yds_timetable.proofs.Rows.{no_row, rows_solid, row_work}
use Rattle.yds_edf.specs.PolicyRun.{AreRowsOf}
use Rattle.yds_edf.proofs.Standing.{as_many_rows, row_stretch, rows_order}
use Rattle.yds_spending.specs.declared.load.Load.{Load}
use Rattle.yds_compare.specs.Load.{load_of, loads_of}
use Rattle.yds_spending.specs.Load.{load_at, IsHeldAt}
use Rattle.yds_spending.specs.Spent.{time_of_loads, IsSpentOn}
use Rattle.yds_energy.proofs.SpentScale.{time_scaled}
use Rattle.yds_spending.proofs.Agreeing.{TakeAsLong, spent_at}

-- # A run on a grid

module _ (jobs : List Job) (grid : ℕ) (rows : List Row) (are : AreRowsOf jobs grid rows) where
  module _ (scale : ℕ) (is : IsScale scale (slots_of rows)) where
    abbrev whole : List WholeSlot
    whole = slots_at scale (slots_of rows)

    -- the work in a row's stretch is its load's
    abbrev IsWorked : Row → Type 0
    IsWorked row = grid * work_in scale row.stretch whole ≡ scale * (load_of grid row).work

    worked : (k : ℕ) → k < length rows → IsWorked (row_at rows k)
    worked k within = row_work rows (rows_order jobs grid rows are) are.filled scale is grid are.grains k within

    module _ (points : List Point) (some : 1 ≤ grid) where
      -- a stretch takes as long at a point as its load, and so they all do
      stretch_long : (row : Row) (speed : ℕ) → IsWorked row →
          grid * time_at (hull_multiple points) ((row.stretch.to - row.stretch.from) * scale) (work_in scale row.stretch whole) (hull_of points) speed
          ≡ scale * time_at (hull_multiple points) (load_of grid row).time (load_of grid row).work (hull_of points) speed
      stretch_long row speed same_work =
          let work = work_in scale row.stretch whole in
          let load = load_of grid row in
          let same_time : grid * ((row.stretch.to - row.stretch.from) * scale) ≡ scale * load.time = omega arith in
          sym (time_scaled grid some (hull_multiple points) ((row.stretch.to - row.stretch.from) * scale) work (hull_of points) speed)
          ∙ ap₂ (λ t w. time_at (hull_multiple points) t w (hull_of points) speed) same_time same_work
          ∙ time_scaled scale is.positive (hull_multiple points) load.time load.work (hull_of points) speed

      all_long : (part : List Row) (speed : ℕ) → All IsWorked part →
          grid * sum_by (λ stretch. time_at (hull_multiple points) ((stretch.to - stretch.from) * scale) (work_in scale stretch whole) (hull_of points) speed) (stretches_of part)
          ≡ scale * time_of_loads points (loads_of grid part) speed
      all_long [] speed all = omega arith
      all_long (row ∷ part) speed all =
          let one : Piece → ℕ = λ st. time_at (hull_multiple points) ((st.to - st.from) * scale) (work_in scale st whole) (hull_of points) speed in
          let other : Load → ℕ = λ load. time_at (hull_multiple points) load.time load.work (hull_of points) speed in
          omega (
            arith,
            ap (λ n. grid * n) (sum_by-cons one row.stretch (stretches_of part)),
            ap (λ n. scale * n) (sum_by-cons other (load_of grid row) (loads_of grid part)),
            stretch_long row speed (all 0 row (omega arith)),
            all_long part speed (All-tail IsWorked row part all),
          )

      pub run_long : TakeAsLong jobs points grid (loads_of grid rows) scale whole
      run_long speed = subst (λ (pieces : List Piece). grid * sum_by (λ stretch. time_at (hull_multiple points) ((stretch.to - stretch.from) * scale)
          (work_in scale stretch whole) (hull_of points) speed) pieces ≡ scale * time_of_loads points (loads_of grid rows) speed) are.stretches_are
          (all_long rows speed (All-from_get_or IsWorked rows no_row worked))

      -- the top point is fast enough for a stretch exactly where it is for its load
      pub holds_of : (k : ℕ) → k < length rows → IsHeldAt (top_of points) (load_of grid (row_at rows k)) → HoldsStretch points scale whole (stretch_at jobs k)
      holds_of k within held =
          subst (HoldsStretch points scale whole) (row_stretch jobs grid rows are k within)
          (le_of_mul-le-mul_left {k = grid} (omega (arith, worked k within, mul-le-mul_left scale held)) some)

      pub held_of : (k : ℕ) → k < length rows → HoldsStretch points scale whole (stretch_at jobs k) → IsHeldAt (top_of points) (load_of grid (row_at rows k))
      held_of k within holds =
          let there : HoldsStretch points scale whole (row_at rows k).stretch = subst (HoldsStretch points scale whole) (sym (row_stretch jobs grid rows are k within)) holds in
          le_of_mul-le-mul_left {k = scale} (omega (arith, worked k within, mul-le-mul_left grid there)) is.positive

-- # The side

module _ (jobs : List Job) (points : List Point) (grid : ℕ) (rows : List Row) (some : 1 ≤ grid) (are : AreRowsOf jobs grid rows) where
  abbrev loads : List Load
  loads = loads_of grid rows

  as_many : length rows ≡ length (stretches jobs)
  as_many = as_many_rows jobs grid rows are

  -- the load at a place is its row's
  load_is : (i : ℕ) → i < length rows → load_at loads i ≡ load_of grid (row_at rows i)
  load_is i within = get_or-map (load_of grid) rows i no_row (record { time = 0; work = 0 }) within

  solid : All IsSolid (slots_of rows)
  solid = rows_solid rows are.filled

  pub spends : (spent : Spent) → All (IsHeldAt (top_of points)) loads → IsSpentOn points grid loads spent → HoldsAll jobs points (slots_of rows) spent
  spends spent held is_spent = record {
    holds = record {
      solid = solid;
      holds = λ scale is. All-from_get_or (HoldsStretch points scale (slots_at scale (slots_of rows))) (stretches jobs) (record { from = 0; to = 0 }) (λ i within.
          let there : i < length rows = omega (arith, within, as_many) in
          holds_of jobs grid rows are scale is points some i there
          (subst (IsHeldAt (top_of points)) (load_is i there) (held i (record { time = 0; work = 0 }) (omega (arith, there, length-map rows (load_of grid))))));
    };
    is_spent = record {
      solid = solid;
      holds = λ scale is. spent_at jobs points grid loads scale (slots_at scale (slots_of rows)) spent is.positive some (run_long jobs grid rows are scale is points some) is_spent;
    };
  }

  pub too_slow_for : (place units from to : ℕ) → IsFirstFailure (length loads) (λ i. IsHeldAt (top_of points) (load_at loads i)) place →
      units ≡ (load_at loads place).work → (row_at rows place).stretch ≡ record { from = from; to = to } → IsTooSlowFor jobs points grid (slots_of rows) units from to
  too_slow_for place units from to first is_units is_stretch =
      let there : place < length rows = omega (arith, first.within, length-map rows (load_of grid)) in
      let within : place < length (stretches jobs) = omega (arith, there, as_many) in
      record {
        place = place;
        is_stretch = sym (row_stretch jobs grid rows are place there) ∙ is_stretch;
        first = record {
          solid = solid;
          holds = λ scale is. record {
            within = within;
            before = λ i below. holds_of jobs grid rows are scale is points some i (omega (arith, below, there))
                (subst (IsHeldAt (top_of points)) (load_is i (omega (arith, below, there))) (first.before i below));
            fails = λ holds. first.fails (subst (IsHeldAt (top_of points)) (sym (load_is place there)) (held_of jobs grid rows are scale is points some place there holds));
          };
        };
        is_units = record {
          solid = solid;
          holds = λ scale is. subst (λ (piece : Piece). units * scale ≡ grid * work_in scale piece (slots_at scale (slots_of rows))) (row_stretch jobs grid rows are place there)
              (omega (
                arith,
                worked jobs grid rows are scale is place there,
                ap (λ n. n * scale) (is_units ∙ ap (λ (l : Load). l.work) (load_is place there)),
              ));
        };
      }

-- the loads are together as long as the stretches
pub load_times : (grid : ℕ) (rows : List Row) → sum_by (λ load. load.time) (loads_of grid rows) ≡ sum_by length_of (stretches_of rows) * grid
load_times grid [] = omega arith
load_times grid (row ∷ rows) =
    omega (
      arith,
      sum_by-cons (λ (load : Load). load.time) (load_of grid row) (loads_of grid rows),
      ap (λ n. n * grid) (sum_by-cons length_of row.stretch (stretches_of rows)),
      load_times grid rows,
    )
