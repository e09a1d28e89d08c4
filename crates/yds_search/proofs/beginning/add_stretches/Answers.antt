use Rattle.yds_model.proofs.Common.{◌≡◌, ℕ, ◌+◌, ◌∙◌, List, [], ◌∷◌, ◌++◌, true, false, not, max, length, get_or, map, take, nat_cmp, refl, sym, ap, arith, Bool, cond, filter, range_with_len, ord_max, lt-ltb, le-ltb, nat_tests, map-append, append-nil, length-map, get_or_read, length-filter_both, length-range_with_len, map-range_with_len_more, filter-range_with_len_more, Piece}
use Rattle.yds_events.specs.Stretch.{no_stretch, length_of}
use Rattle.yds_search.specs.declared.own.OwnStretch.{OwnStretch}
use Rattle.yds_search.specs.Beginning.{first_stretch, greatest_end, is_reached, reached_before}
use Rattle.yds_search.proofs.Beginnings.{greatest_more}
use Rattle.yds_search.proofs.beginning.add_stretches.Goals as goal
use Rattle.yds_search.proofs.beginning.add_stretches.Goals.{then-end-stretch+in_ok-push-2, else-end-stretch}

as_max : (a b : ℕ) → ord_max nat_cmp a b ≡ max a b
as_max a b = grind (arith, nat_tests)

-- one stretch more is added where it is reached
one_more : (timeline : List Piece) (ends : List ℕ) (n : ℕ) (b : Bool) → is_reached ends n ≡ b →
    map (first_stretch timeline) (filter (is_reached ends) (range_with_len 0 n)) ++ cond b (first_stretch timeline n ∷ []) []
    ≡ map (first_stretch timeline) (filter (is_reached ends) (range_with_len 0 (n + 1)))
one_more timeline ends n true is = sym (ap (map (first_stretch timeline)) (filter-range_with_len_more (is_reached ends) n
    ∙ ap (λ b. filter (is_reached ends) (range_with_len 0 n) ++ cond b (n ∷ []) []) is) ∙ map-append (first_stretch timeline) (filter (is_reached ends) (range_with_len 0 n)) (n ∷ []))
one_more timeline ends n false is = sym (ap (map (first_stretch timeline)) (filter-range_with_len_more (is_reached ends) n
    ∙ ap (λ b. filter (is_reached ends) (range_with_len 0 n) ++ cond b (n ∷ []) []) is) ∙ map-append (first_stretch timeline) (filter (is_reached ends) (range_with_len 0 n)) [])

-- those that are added are as many as are reached
counted : (timeline : List Piece) (ends : List ℕ) (n : ℕ) (added : List OwnStretch) → added ≡ map (first_stretch timeline) (filter (is_reached ends) (range_with_len 0 n)) →
    length added ≡ reached_before ends n
counted timeline ends n added is = ap (λ (xs : List OwnStretch). length xs) is ∙ length-map (filter (is_reached ends) (range_with_len 0 n)) (first_stretch timeline)

pub loop-stretch-preserved : goal.loop-stretch-preserved
loop-stretch-preserved c =
    let timeline : List Piece = c.args.timeline.now in
    let ends : List ℕ = c.args.ends.now in
    let n : ℕ = c.loop-stretch.stretch in
    let end : c.max-end.result ≡ greatest_end (take (n + 1) ends) = c.max-end.ensures ∙ as_max c.loop-stretch.end (get_or ends n 0)
    ∙ ap (λ e. max e (get_or ends n 0)) c.loop-stretch.invariant.end ∙ sym (greatest_more ends n (omega (arith, c.loop-stretch-test.true, c.requires.ends))) in
    let added : c.if-end-stretch.stretches.items ≡ map (first_stretch timeline) (filter (is_reached ends) (range_with_len 0 (n + 1))) = elim c.if-end-stretch.branch [
      | then-end-stretch+in_ok-push-2 w ↦
          let own : length_of c.index-timeline-stretch.result ≡ length_of (get_or timeline n no_stretch) =
          ap length_of (get_or_read timeline n c.index-timeline-stretch.result c.loop-stretch-test.true c.index-timeline-stretch.is no_stretch) in
          rw (w.stretches-is, w.in_ok-push-2.ensures.items, c.loop-stretch.invariant.stretches, w.length.ensures.length, own)
          (one_more timeline ends n true (lt-ltb n (greatest_end (take (n + 1) ends)) (omega (arith, end, w.if-end-stretch.true))))
      | else-end-stretch w ↦
          rw (w.stretches-is, c.loop-stretch.invariant.stretches)
          (sym (append-nil _) ∙ one_more timeline ends n false (le-ltb n (greatest_end (take (n + 1) ends)) (omega (arith, end, w.if-end-stretch.false))))
    ] in
    let rank : c.len.result ≡ reached_before ends n =
    omega (arith, c.len.ensures, c.loop-stretch.stretches.ok, counted timeline ends n c.loop-stretch.stretches.items c.loop-stretch.invariant.stretches) in
    record {
      end = end;
      stretches = added;
      ranks = c.in_ok-push.ensures.items ∙ rw (c.loop-stretch.invariant.ranks, rank)
          (sym (map-range_with_len_more (reached_before ends) 0 n n (omega arith)));
      few = omega (
        arith,
        counted timeline ends (n + 1) c.if-end-stretch.stretches.items added,
        length-filter_both (is_reached ends) (λ k. not (is_reached ends k)) (λ k. refl) (range_with_len 0 (n + 1)),
        length-range_with_len 0 (n + 1),
      );
    }

pub returns-clause-ranks : goal.returns-clause-ranks
returns-clause-ranks c =
    let n : ℕ = c.loop-stretch.stretch in
    let all : n ≡ length c.args.timeline.now = omega (arith, c.loop-stretch.auto.stretch-end, c.loop-stretch-test.false) in
    let rank : c.len-2.result ≡ reached_before c.args.ends.now n = omega (
      arith,
      c.len-2.ensures,
      c.loop-stretch.stretches.ok,
      counted c.args.timeline.now c.args.ends.now n c.loop-stretch.stretches.items c.loop-stretch.invariant.stretches,
    ) in
    c.in_ok-push-3.ensures.items
    ∙ rw (c.loop-stretch.invariant.ranks, rank, ← all) (sym (map-range_with_len_more (reached_before c.args.ends.now) 0 n n (omega arith)))
