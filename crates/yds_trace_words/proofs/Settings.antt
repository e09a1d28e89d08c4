-- The settings of words, one after another.
use Rattle.base.proofs.Common.{◌≡◌, ℕ, List, [], ◌∷◌, ◌++◌, Bool, true, false, Result, Ok, Err, refl, ap, ◌∙◌, if◌then◌else◌}
use Rattle.yds_trace_words.specs.declared.fault.Reason.TheVariants as reasons
pub use Rattle.yds_trace_words.proofs.Ahead.{ahead}
use Rattle.yds_trace_words.proofs.Ahead.{ahead_more}
use Rattle.yds_trace_words.specs.Words.{WordFault, Setting, Word, Whole, Waits, Wrong, word_of, last_setting, before, settings_from, settings_of, ends_words}

choice : (b : Bool) (one other : Result (List Setting) WordFault) → b ≡ false → (if b then one else other) ≡ other
choice true one other is = ap (λ (c : Bool). if c then one else other) is
choice false one other is = refl

chosen : (b : Bool) (one other : Result (List Setting) WordFault) → b ≡ true → (if b then one else other) ≡ one
chosen true one other is = refl
chosen false one other is = ap (λ (c : Bool). if c then one else other) is

whole_goes_on : (word : List ℕ) (words : List (List ℕ)) (setting : Setting) → word_of word ≡ Whole setting → ends_words setting.name ≡ false
    → settings_of (word ∷ words) ≡ before setting (settings_of words)
whole_goes_on word [] setting is goes_on = ap last_setting is
whole_goes_on word (next ∷ words) setting is goes_on =
    ap (λ (said : Word). settings_from said next (settings_of (next ∷ words)) (settings_of words)) is
    ∙ choice (ends_words setting.name) (Ok (setting ∷ [])) (before setting (settings_of (next ∷ words))) goes_on

whole_ends : (word : List ℕ) (words : List (List ℕ)) (setting : Setting) → word_of word ≡ Whole setting → ends_words setting.name ≡ true
    → settings_of (word ∷ words) ≡ Ok (setting ∷ [])
whole_ends word [] setting is ends = ap last_setting is
whole_ends word (next ∷ words) setting is ends =
    ap (λ (said : Word). settings_from said next (settings_of (next ∷ words)) (settings_of words)) is
    ∙ chosen (ends_words setting.name) (Ok (setting ∷ [])) (before setting (settings_of (next ∷ words))) ends

wrong_ends : (word : List ℕ) (words : List (List ℕ)) (fault : WordFault) → word_of word ≡ Wrong fault → settings_of (word ∷ words) ≡ Err fault
wrong_ends word [] fault is = ap last_setting is
wrong_ends word (next ∷ words) fault is = ap (λ (said : Word). settings_from said next (settings_of (next ∷ words)) (settings_of words)) is

-- # What the words set, from what they set up to a word

pub goes_on : (all : List (List ℕ)) (done : List Setting) (rest : List (List ℕ)) (word : List ℕ) (others : List (List ℕ)) (setting : Setting)
    → settings_of all ≡ ahead done (settings_of rest) → rest ≡ word ∷ others → word_of word ≡ Whole setting → ends_words setting.name ≡ false
    → settings_of all ≡ ahead (done ++ setting ∷ []) (settings_of others)
goes_on all done rest word others setting so_far is said not_ended =
    so_far ∙ ap (λ (words : List (List ℕ)). ahead done (settings_of words)) is ∙ ap (ahead done) (whole_goes_on word others setting said not_ended)
    ∙ ahead_more done setting (settings_of others)

pub ends_here : (all : List (List ℕ)) (done : List Setting) (rest : List (List ℕ)) (word : List ℕ) (others : List (List ℕ)) (setting : Setting)
    → settings_of all ≡ ahead done (settings_of rest) → rest ≡ word ∷ others → word_of word ≡ Whole setting → ends_words setting.name ≡ true
    → settings_of all ≡ Ok (done ++ setting ∷ [])
ends_here all done rest word others setting so_far is said ends =
    so_far ∙ ap (λ (words : List (List ℕ)). ahead done (settings_of words)) is ∙ ap (ahead done) (whole_ends word others setting said ends)

pub takes_next : (all : List (List ℕ)) (done : List Setting) (rest : List (List ℕ)) (word next : List ℕ) (others behind : List (List ℕ)) (name : List ℕ)
    → settings_of all ≡ ahead done (settings_of rest) → rest ≡ word ∷ others → others ≡ next ∷ behind → word_of word ≡ Waits name
    → settings_of all ≡ ahead (done ++ record { name = name; value = next } ∷ []) (settings_of behind)
takes_next all done rest word next others behind name so_far is more said =
    so_far ∙ ap (λ (words : List (List ℕ)). ahead done (settings_of words)) (is ∙ ap (λ (words : List (List ℕ)). word ∷ words) more)
    ∙ ap (λ (read : Word). ahead done (settings_from read next (settings_of (next ∷ behind)) (settings_of behind))) said
    ∙ ahead_more done (record { name = name; value = next }) (settings_of behind)
