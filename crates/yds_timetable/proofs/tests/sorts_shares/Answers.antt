use Rattle.yds_model.proofs.Common.{ℕ, ◌≡◌, ◌*◌, ◌≤◌, List, [], ◌∷◌, Some, None, refl, sym, ap₂, subst, arith, All, All-nil, All-cons, Piece}
use Rattle.base.specs.declared.limits.TheConstants.{MAX_SLOT_WORK}
use Rattle.yds_events.specs.Stretch.{IsStretch}
use Rattle.yds_timetable.specs.declared.pace.Pace.{Pace}
use Rattle.yds_timetable.specs.Shares.{JobShare}
use Rattle.yds_timetable.specs.Timetable.{Row, rows_of, IsRow}
use Rattle.yds_timetable.proofs.tests.sorts_shares.Goals as goal

abbrev at_pace : ℕ → Pace
at_pace units = record { units = units; time = 1; grain = 1 }

abbrev share : ℕ → ℕ → ℕ → JobShare
share stretch job units = record { stretch = stretch; job = job; units = units }

abbrev first : Row
first = record { stretch = record { from = 0; to = 1 }; pace = Some (at_pace 3); shares = share 0 1 3 ∷ [] }

abbrev idle : Row
idle = record { stretch = record { from = 1; to = 2 }; pace = None; shares = [] }

abbrev last : Row
last = record { stretch = record { from = 2; to = 4 }; pace = Some (at_pace 2); shares = share 2 0 2 ∷ share 2 1 2 ∷ [] }

abbrev Some_ : JobShare → Type 0
Some_ one = 1 ≤ one.units

abbrev Works : JobShare → Type 0
Works one = one.units ≤ 1 * MAX_SLOT_WORK

first_fills : IsRow first
first_fills = record {
  own = record {
    is_stretch = record { has_length = omega arith; time_in_range = omega arith };
    times = 1;
    length_is = refl;
    units_is = refl;
    some_units = omega arith;
    units_in_range = omega arith;
    some_grain = omega arith;
    grain_in_range = omega arith;
  };
  some = All-cons Some_ (share 0 1 3) [] (omega arith) (All-nil Some_);
  works = All-cons Works (share 0 1 3) [] (omega arith) (All-nil Works);
  few = omega arith;
}

last_fills : IsRow last
last_fills = record {
  own = record {
    is_stretch = record { has_length = omega arith; time_in_range = omega arith };
    times = 2;
    length_is = refl;
    units_is = refl;
    some_units = omega arith;
    units_in_range = omega arith;
    some_grain = omega arith;
    grain_in_range = omega arith;
  };
  some = All-cons Some_ (share 2 0 2) (share 2 1 2 ∷ []) (omega arith) (All-cons Some_ (share 2 1 2) [] (omega arith) (All-nil Some_));
  works = All-cons Works (share 2 0 2) (share 2 1 2 ∷ []) (omega arith) (All-cons Works (share 2 1 2) [] (omega arith) (All-nil Works));
  few = omega arith;
}

idle_is : IsStretch idle.stretch
idle_is = record { has_length = omega arith; time_in_range = omega arith }

abbrev times : List Piece
times = record { from = 0; to = 1 } ∷ record { from = 1; to = 2 } ∷ record { from = 2; to = 4 } ∷ []

abbrev two_paces : List Pace
two_paces = at_pace 2 ∷ at_pace 3 ∷ []

abbrev given : List JobShare
given = share 2 0 2 ∷ share 0 1 3 ∷ share 2 1 2 ∷ []

-- what the test hands over
rows_are : (timeline : List Piece) (paces : List Pace) (shares : List JobShare) → timeline ≡ times → paces ≡ two_paces → shares ≡ given →
    All IsRow (rows_of timeline paces (1 ∷ 7 ∷ 0 ∷ []) shares)
rows_are timeline paces shares is_timeline are_paces are_shares =
    subst (λ (xs : List Piece). All IsRow (rows_of xs paces (1 ∷ 7 ∷ 0 ∷ []) shares)) (sym is_timeline)
    (subst (λ (xs : List Pace). All IsRow (rows_of times xs (1 ∷ 7 ∷ 0 ∷ []) shares)) (sym are_paces)
    (subst (λ (xs : List JobShare). All IsRow (rows_of times two_paces (1 ∷ 7 ∷ 0 ∷ []) xs)) (sym are_shares)
    (All-cons IsRow first (idle ∷ last ∷ []) first_fills
    (All-cons IsRow idle (last ∷ []) (idle_is, refl) (All-cons IsRow last [] last_fills (All-nil IsRow))))))

three : {X : Type 0} (a b c d e f : X) → a ≡ d → b ≡ e → c ≡ f → a ∷ b ∷ c ∷ [] ≡ d ∷ e ∷ f ∷ []
three a b c d e f p q r = cc

pub of_shares-requires-clause-rows : goal.of_shares-requires-clause-rows
of_shares-requires-clause-rows g c =
    rows_are _ _ _ (three _ _ _ _ _ _ c.new.ensures c.new-2.ensures c.new-3.ensures) (ap₂ (λ (a b : Pace). a ∷ b ∷ []) c.pace.ensures c.pace-2.ensures)
    (three _ _ _ _ _ _ c.share.ensures c.share-2.ensures c.share-3.ensures)
