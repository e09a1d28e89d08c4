-- A front of the levels of a proper certificate: its members are jobs that are confined to its pieces, and no two of its
-- pieces overlap.
use Rattle.std.proofs.Common.{ℕ, zero, suc, ◌<◌, ◌≤◌, List, [], ◌∷◌, ◌++◌, length, get_or, take, arith, inl, inr, add-one}
use Rattle.std.specs.List.{All, AllPairs}
use Rattle.std.proofs.lemmas.List.Elements.{All-nil, All-cons, All-append, All-weaker, Contains-get_or}
use Rattle.std.proofs.lemmas.List.Kept.{AllPairs-cons}
use Rattle.base.specs.Numbers.{Each}
use Rattle.yds_model.specs.Job.{Job, job_at}
use Rattle.yds_model.specs.Piece.{Piece, IsForward, AreApart, PiecesFrom, IsConfined}
use Rattle.yds_model.specs.Level.{Level, no_level, level_at, all_members, all_pieces}
use Rattle.yds_model.specs.Proper.{PiecesStand, IsWindowCovered, AreLevels}
use Rattle.base.proofs.Lists.{Any-append_left, AllPairs-append, flat_map-take}

-- pieces that lie one after another all begin at the start or later
pub pieces_begin : (start : ℕ) (pieces : List Piece) → PiecesFrom start pieces → All (λ piece. start ≤ piece.from) pieces
pieces_begin start [] run = All-nil (λ piece. start ≤ piece.from)
pieces_begin start (piece ∷ pieces) run =
    All-cons (λ one. start ≤ one.from) piece pieces run.0
    (All-weaker (λ one. piece.to ≤ one.from) (λ one. start ≤ one.from) (λ one later. omega (arith, run.0, run.1)) pieces
    (pieces_begin piece.to pieces run.2))

-- each of them takes time
pub pieces_forward : (start : ℕ) (pieces : List Piece) → PiecesFrom start pieces → All IsForward pieces
pieces_forward start [] run = All-nil IsForward
pieces_forward start (piece ∷ pieces) run =
    All-cons IsForward piece pieces run.1 (pieces_forward piece.to pieces run.2)

-- no two of them overlap
pieces_apart : (start : ℕ) (pieces : List Piece) → PiecesFrom start pieces → AllPairs AreApart pieces
pieces_apart start [] run = λ i j d order within. absurd (omega arith)
pieces_apart start (piece ∷ pieces) run =
    AllPairs-cons AreApart piece pieces
    (All-weaker (λ one. piece.to ≤ one.from) (AreApart piece) (λ one later. inl later) pieces
    (pieces_begin piece.to pieces run.2))
    (pieces_apart piece.to pieces run.2)

-- pieces that are apart are so in either order
pub apart_turned : (one other : Piece) → AreApart one other → AreApart other one
apart_turned one other (inl before) = inr before
apart_turned one other (inr after) = inl after

-- what members and pieces of a front are
pub record Front (jobs : List Job) (members : List ℕ) (pieces : List Piece) : Type 0 where
  pub known : All (λ number. number < length jobs) members
  pub forward : All IsForward pieces
  pub apart : AllPairs AreApart pieces
  pub confined : All (λ number. IsConfined (job_at jobs number) pieces) members

-- a front with the next level's members and pieces is a front
front_append : (jobs : List Job) (members : List ℕ) (pieces : List Piece) (more : List ℕ) (further : List Piece) →
    Front jobs members pieces → All (λ number. number < length jobs) more → PiecesFrom 0 further →
    All (λ piece. All (AreApart piece) pieces) further →
    All (λ number. IsConfined (job_at jobs number) (pieces ++ further)) more →
    Front jobs (members ++ more) (pieces ++ further)
front_append jobs members pieces more further front known run apart confined = record {
  known = All-append (λ number. number < length jobs) members more front.known known;
  forward = All-append IsForward pieces further front.forward (pieces_forward 0 further run);
  apart = AllPairs-append AreApart pieces further front.apart (pieces_apart 0 further run)
      (λ k d within. All-weaker (AreApart (get_or further k d)) (λ one. AreApart one (get_or further k d))
      (λ one is. apart_turned (get_or further k d) one is) pieces (apart k d within));
  confined = All-append (λ number. IsConfined (job_at jobs number) (pieces ++ further)) members more
      (All-weaker (λ number. IsConfined (job_at jobs number) pieces)
      (λ number. IsConfined (job_at jobs number) (pieces ++ further))
      (λ number is time released due. Any-append_left (λ piece. (piece.from ≤ time) × (time < piece.to)) pieces further
      (is time released due)) members front.confined)
      confined;
}

-- the first levels of a proper certificate are a front
pub front_at : (jobs : List Job) (levels : List Level) → AreLevels jobs levels →
    Each (length levels) (PiecesStand levels) → Each (length jobs) (IsWindowCovered jobs levels) →
    (n : ℕ) → n ≤ length levels → Front jobs (all_members (take n levels)) (all_pieces (take n levels))
front_at jobs levels are stand covered zero within = record {
  known = All-nil (λ number. number < length jobs);
  forward = All-nil IsForward;
  apart = λ i j d order inside. absurd (omega arith);
  confined = All-nil (λ number. IsConfined (job_at jobs number) []);
}
front_at jobs levels are stand covered (suc n) within =
    let level = level_at levels n in
    let known = are.known n no_level within in
    let pieces = flat_map-take (λ (one : Level). one.pieces) levels n no_level within in
    rw (flat_map-take (λ (one : Level). one.members) levels n no_level within, pieces)
    (front_append jobs (all_members (take n levels)) (all_pieces (take n levels)) level.members level.pieces
    (front_at jobs levels are stand covered n (omega arith)) known (stand n within).in_order (stand n within).apart
    (λ k d inside. rw (add-one, pieces) at (covered (get_or level.members k d) (known k d inside) n within
    (Contains-get_or level.members k d inside))))
