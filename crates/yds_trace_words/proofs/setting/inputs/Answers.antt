use Rattle.base.proofs.Common.{◌≡◌, ℕ, List, [], ◌∷◌, false, map, length, refl, subst}
use Rattle.std.proofs.Common.{rules}
use Rattle.std.specs.Prelude.{◌==◌}
use Rattle.std.specs.Borrow.{Bor}
use Rattle.yds_trace_words.specs.Words.{files_of, or_standard_input}
use Rattle.yds_trace_words.specs.Views.{words_of}
use Rattle.yds_trace_words.proofs.setting.inputs.Goals as goal

-- Files that there are stay so.
kept : (names : List (Bor (List ℕ))) (files : List (List ℕ)) → map (λ (name : Bor (List ℕ)). name.now) names ≡ files → (length names == 0) ≡ false
    → map (λ (name : Bor (List ℕ)). name.now) names ≡ or_standard_input files
kept [] files is some = cc
kept (name ∷ names) files is some =
    subst (λ (one : List (List ℕ)). map (λ (name : Bor (List ℕ)). name.now) (name ∷ names) ≡ or_standard_input one) is refl

pub returns-then-not-is_empty : goal.returns-then-not-is_empty
returns-then-not-is_empty c =
    let some : (length c.in_ok-files.files.items == 0) ≡ false = search rules in
    kept c.in_ok-files.files.items (files_of (words_of c.args.words.now)) c.in_ok-files.ensures some
