use Rattle.base.proofs.Common.{◌≡◌, ◌≤◌, ◌++◌, ◌∙◌, List, ℕ, inl, inr, ap, sym, map, min, take, length, arith, take_all, cases_lt}
use Rattle.yds_trace_words.specs.Texts.{shown}
use Rattle.yds_trace_words.proofs.texts.push_shown.Goals as goal

first_ones : (xs : List ℕ) (n m : ℕ) → m ≡ min (length xs) n → take m xs ≡ take n xs
first_ones xs n m is = elim (cases_lt n (length xs)) [
  | inl many ↦ let same : m ≡ n = omega (arith, is, many) in ap (λ (k : ℕ). take k xs) same
  | inr few ↦ let all : length xs ≤ m = omega (arith, is, few) in take_all m xs all ∙ sym (take_all n xs few)
]

pub returns-clause-shown : goal.returns-clause-shown
returns-clause-shown c =
    c.loop-byte.invariant
    ∙ ap (λ (text : List ℕ). c.args.line.now.bytes ++ map shown text)
    (take_all c.loop-byte.byte-index (take c.min.result c.args.word.now) c.loop-byte-test.false ∙ first_ones c.args.word.now 64 c.min.result c.min.ensures)
