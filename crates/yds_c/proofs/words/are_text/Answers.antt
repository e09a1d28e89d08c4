use Rattle.yds_model.proofs.Common.{sym, refl, Bor, List, ℕ, IsUtf8, take_all, All-more, All-same}
use Rattle.yds_c.proofs.words.are_text.Goals as goal

pub loop-word-preserved : goal.loop-word-preserved
loop-word-preserved c =
    All-more (λ (word : Bor (List ℕ)). IsUtf8 word.now) _ _ _ c.loop-word-test.true c.loop-word.invariant (c.is_text.ensures.0 c.if-not-is_text.false)

pub returns : goal.returns
returns c = (λ _. All-same (λ (word : Bor (List ℕ)). IsUtf8 word.now) _ _ (sym (take_all _ _ c.loop-word-test.false)) c.loop-word.invariant, λ _. refl)
