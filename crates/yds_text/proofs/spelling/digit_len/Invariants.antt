use Rattle.yds_model.proofs.Common.{◌≡◌, ◌+◌, drop, prefix_len, is_digit}
use Rattle.yds_text.proofs.spelling.digit_len.Given as goal

abbrev pub invariant-loop-index : goal.invariant-loop-index
invariant-loop-index l = l.index + prefix_len is_digit (drop l.index l.text) ≡ prefix_len is_digit l.text
