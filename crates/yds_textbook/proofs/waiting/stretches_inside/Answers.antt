use Rattle.yds_model.proofs.Common.{ℕ, List, [], ◌∷◌, ◌++◌, ◌∙◌, sym, ap, cond, Bool, filter, range_with_len, append-nil, get_or_read, filter-range_with_len_more}
use Rattle.yds_events.specs.Stretch.{no_stretch}
use Rattle.yds_textbook.specs.Waiting.{is_left_in, stretch_lies_in}
use Rattle.yds_textbook.proofs.waiting.stretches_inside.Goals as goal
use Rattle.yds_textbook.proofs.waiting.stretches_inside.Goals.{then-is_left_in+in_ok-push, else-is_left_in}

pub loop-number-preserved : goal.loop-number-preserved
loop-number-preserved c =
    let timeline = c.args.timeline.now in
    let removed = c.args.taken.now in
    let interval = c.args.interval.now in
    let n = c.loop-number.number in
    let p = stretch_lies_in timeline removed interval in
    let here = get_or_read timeline n c.index-timeline-number.result c.loop-number-test.true c.index-timeline-number.is no_stretch in
    let test = c.is_left_in.ensures ∙ ap (is_left_in removed interval) here in
    elim c.if-is_left_in.branch [
      | then-is_left_in+in_ok-push w ↦
          ap (λ numbers. numbers.items) w.numbers-is ∙ w.in_ok-push.ensures.items
          ∙ ap (λ (ns : List ℕ). ns ++ n ∷ []) c.loop-number.invariant
          ∙ sym (filter-range_with_len_more p n ∙ ap (λ (b : Bool). filter p (range_with_len 0 n) ++ cond b (n ∷ []) []) (sym test ∙ w.if-is_left_in.true))
      | else-is_left_in w ↦
          ap (λ numbers. numbers.items) w.numbers-is ∙ c.loop-number.invariant
          ∙ sym (filter-range_with_len_more p n ∙ ap (λ (b : Bool). filter p (range_with_len 0 n) ++ cond b (n ∷ []) []) (sym test ∙ w.if-is_left_in.false)
          ∙ append-nil (filter p (range_with_len 0 n)))
    ]
