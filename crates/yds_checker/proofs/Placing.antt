-- The pieces of levels in one list.
use Rattle.yds_model.proofs.Common.{◌≡◌, ℕ, ◌+◌, ◌<◌, ◌≤◌, ◌&&◌, cond, List, [], ◌∷◌, ◌++◌, length, get_or, take, min, ap, sym, ◌∙◌, arith, inl, inr, add-one, length-take, nat_lt, All, IsPermutation, take_more, take-take, All-push, All-permutation, sum_by-IsPermutation, sum_by_push, sum_by-append, cases_Bool, cases_lt, lt-ltb, le-ltb, Piece, IsForward, Level, no_level, level_at, all_pieces, flat_map-take}
use Rattle.yds_checker.specs.declared.placed.Placed.{Placed}
use Rattle.yds_checker.specs.Placed.{has_unit, covering, holding, IsPlacedPiece, PlacesMore, ArePlaced}

-- the piece, with its level
abbrev pub placed_in : ℕ → Piece → Placed
placed_in level piece = record { from = piece.from; to = piece.to; level = level }

-- no piece is placed yet
pub none_placed : (placed : List Placed) (level : ℕ) → PlacesMore placed placed [] level
none_placed placed level = grind (arith, cases_Bool)

-- the next piece of a level
pub next_placed : (level : ℕ) (old now : List Placed) (pieces : List Piece) (i : ℕ) (piece : Piece) → i < length pieces → piece ≡ get_or pieces i piece →
    IsForward piece → PlacesMore old now (take i pieces) level → PlacesMore old (now ++ placed_in level piece ∷ []) (take (i + 1) pieces) level
next_placed level old now pieces i piece within is forward more =
    let joined : take (i + 1) pieces ≡ take i pieces ++ piece ∷ [] =
    take_more pieces i piece within ∙ ap (λ one. take i pieces ++ one ∷ []) (sym is) in
    record {
      each = λ levels low each. All-push (IsPlacedPiece levels) now (placed_in level piece) (more.each levels low each) (low, forward);
      same = λ levels time.
          let before = more.same levels time in
          let one = sum_by_push (λ (p : Placed). cond (nat_lt p.level levels && has_unit time p.from p.to) 1 0) now (placed_in level piece) in
          let covers = sum_by_push (λ (p : Piece). cond (has_unit time p.from p.to) 1 0) (take i pieces) piece in
          rw joined (elim (cases_Bool (nat_lt level levels)) [
            | inl so ↦ rw so (omega (arith, rw so at before, rw so at one, covers))
            | inr not_so ↦ rw not_so (omega (arith, rw not_so at before, rw not_so at one))
          ]);
    }

-- the first levels are gathered, as far as they are among so many
pub record AreGathered (levels : List Level) (i : ℕ) (placed : List Placed) : Type 0 where
  pub each : All (IsPlacedPiece (length levels)) placed
  pub same : (n time : ℕ) → n ≤ length levels → holding n time placed ≡ covering time (all_pieces (take (min n i) levels))

-- one level more
pub next_gathered : (levels : List Level) (i : ℕ) (placed longer : List Placed) → i < length levels → AreGathered levels i placed →
    PlacesMore placed longer (level_at levels i).pieces i → AreGathered levels (i + 1) longer
next_gathered levels i placed longer inside are more = record {
  each = more.each (length levels) inside are.each;
  same = λ n time within.
      let before = are.same n time within in
      let adds = more.same n time in
      let level = level_at levels i in
      elim (cases_lt i n) [
        | inl early ↦
            let less : min n i ≡ i = omega arith in
            let next : min n (i + 1) ≡ i + 1 = omega arith in
            let both = sum_by-append (λ (p : Piece). cond (has_unit time p.from p.to) 1 0) (all_pieces (take i levels)) level.pieces in
            rw (next, add-one, flat_map-take (λ (one : Level). one.pieces) levels i no_level inside)
            (omega (arith, rw (lt-ltb i n early) at adds, rw less at before, both))
        | inr past ↦
            let less : min n i ≡ n = omega arith in
            let next : min n (i + 1) ≡ n = omega arith in
            rw next (omega (arith, rw (le-ltb i n past) at adds, rw less at before))
      ];
}

-- in another order they are the same
pub sorted_placed : (levels : List Level) (count : ℕ) (placed sorted : List Placed) → ArePlaced levels count placed → IsPermutation placed sorted →
    ArePlaced levels count sorted
sorted_placed levels count placed sorted are same = record {
  each = All-permutation (IsPlacedPiece count) placed sorted same are.each;
  same = λ n time within.
      sum_by-IsPermutation (λ (p : Placed). cond (nat_lt p.level n && has_unit time p.from p.to) 1 0) placed sorted same ∙ are.same n time within;
}

-- the pieces of the first levels
pub placed_of_front : (levels : List Level) (count : ℕ) (placed : List Placed) → count ≤ length levels →
    ArePlaced (take count levels) (length (take count levels)) placed → ArePlaced levels count placed
placed_of_front levels count placed few are =
    let all : length (take count levels) ≡ count = omega (arith, length-take count levels) in
    let front = rw all at are in
    record {
      each = front.each;
      same = λ n time within.
          front.same n time within ∙ ap (λ (first : List Level). covering time (all_pieces first)) (take-take n count levels within);
    }
