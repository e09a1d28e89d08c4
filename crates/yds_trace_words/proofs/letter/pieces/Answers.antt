use Rattle.base.proofs.Common.{◌≡◌, List, MatchOption, true, false, subst, map, map-append}
use Rattle.std.specs.Borrow.{Bor}
use Rattle.std.specs.List.{slice_split, list_any, after_first}
use Rattle.yds_trace_words.specs.declared.letter.Letter.{Letter}
use Rattle.yds_trace_words.specs.declared.letter.Letter.TheVariants.{Text}
use Rattle.yds_trace_words.specs.declared.letter.Sign.TheVariants as signs
use Rattle.yds_trace_words.specs.Letters.{is_at}
use Rattle.yds_trace_words.proofs.Listed.{one_more, last_one}
use Rattle.yds_trace_words.proofs.letter.pieces.Goals as goal

pub loop-pieces-preserved : goal.loop-pieces-preserved
loop-pieces-preserved c =
    let found = subst (λ r. MatchOption r (list_any (is_at signs.Comma) c.loop-pieces.rest.now ≡ false) (λ (behind : Bor (List Letter)). (list_any (is_at signs.Comma)
    c.loop-pieces.rest.now ≡ true) × (behind.now ≡ after_first (is_at signs.Comma) c.loop-pieces.rest.now))) c.in-Some.is c.split_at.ensures.behind in
    rw (c.in_ok-push.ensures.items, map-append, c.split_at.ensures.before, found.1)
    (one_more (is_at signs.Comma) (map (λ (piece : Bor (List Letter)). piece.now) c.loop-pieces.pieces.items) c.loop-pieces.rest.now (Text 0) (slice_split (is_at signs.Comma) c.args.letters.now)
    c.loop-pieces.invariant found.0)

pub returns-in-None : goal.returns-in-None
returns-in-None c =
    let none = subst (λ r. MatchOption r (list_any (is_at signs.Comma) c.loop-pieces.rest.now ≡ false) (λ (behind : Bor (List Letter)). (list_any (is_at signs.Comma)
    c.loop-pieces.rest.now ≡ true) × (behind.now ≡ after_first (is_at signs.Comma) c.loop-pieces.rest.now))) c.in-None.is c.split_at.ensures.behind in
    rw (c.in_ok-push.ensures.items, map-append, c.split_at.ensures.before)
    (last_one (is_at signs.Comma) (map (λ (piece : Bor (List Letter)). piece.now) c.loop-pieces.pieces.items) c.loop-pieces.rest.now (slice_split (is_at signs.Comma) c.args.letters.now)
    c.loop-pieces.invariant none)
