use Rattle.yds_model.proofs.Common.{[], ℕ, ◌≡◌, false, arith, length, inl, inr, replicate, get_or, cases_lt, get_or-replicate, length-replicate, get_or_past, IsPermutation-refl}
use Rattle.yds_admit.proofs.Deciding.{begun}
use Rattle.yds_admit.proofs.Marks.{none_marked}
use Rattle.yds_admit.proofs.state.State.new.Goals as goal

none : (n number : ℕ) → get_or (replicate n false) number false ≡ false
none n number = elim (cases_lt number n) [
  | inl below ↦ get_or-replicate n number false false below
  | inr past ↦ get_or_past (replicate n false) number false (omega (arith, past, length-replicate n false))
]

pub returns-clause-state : goal.returns-clause-state
returns-clause-state c =
    let is = c.in_ok-vec.ensures.items_if_clones_equal (λ y e. e) in
    let board = c.args.board.now in
    let n : ℕ = length board.rows.now in
    record {
      on = c.requires;
      within = omega arith;
      decided = rw (c.new.ensures.items, c.new-2.ensures.items, c.new-3.ensures.items) (begun board.rows.now board.top);
      marked = rw (is, c.new-2.ensures.items) (none_marked board.rows.now (replicate n false) (length-replicate n false) (λ number from. none n number));
      same = rw (c.new-2.ensures.items, c.new-4.ensures.items) (IsPermutation-refl []);
    }
