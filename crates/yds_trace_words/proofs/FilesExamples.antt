-- Words that are files, and near misses.
use Rattle.base.proofs.Common.{◌≡◌, [], ◌∷◌, codes, Ok, refl}
use Rattle.yds_trace_words.specs.declared.fault.Reason.TheVariants as reasons
use Rattle.yds_trace_words.specs.Words.{files_of, inputs_of, settings_of, refuse}

-- files and what is set, in any order
in_any_order : files_of (codes "b" ∷ codes "--cpu" ∷ codes "3" ∷ codes "a" ∷ codes "--parts" ∷ codes "b" ∷ []) ≡ codes "b" ∷ codes "a" ∷ codes "b" ∷ []
in_any_order = refl

-- Files set nothing.
set_nothing : settings_of (codes "b" ∷ codes "--cpu" ∷ codes "3" ∷ codes "a" ∷ []) ≡ Ok (record { name = codes "--cpu"; value = codes "3" } ∷ [])
set_nothing = refl

-- a hyphen is standard input, and without a file that is read
standard_input : files_of (codes "a" ∷ codes "-" ∷ []) ≡ codes "a" ∷ codes "-" ∷ []
standard_input = refl

no_file : inputs_of (codes "--parts" ∷ []) ≡ codes "-" ∷ []
no_file = refl

-- behind `--` each word is a file
behind : files_of (codes "a" ∷ codes "--" ∷ codes "--cpu" ∷ codes "--" ∷ []) ≡ codes "a" ∷ codes "--cpu" ∷ codes "--" ∷ []
behind = refl

sets_nothing_behind : settings_of (codes "--" ∷ codes "--cpu" ∷ []) ≡ Ok []
sets_nothing_behind = refl

-- Near misses: a word that begins with a hyphen is no file, and a value is none, whatever it is.
hyphen : settings_of (codes "-x" ∷ []) ≡ refuse (codes "-x") reasons.Unknown
hyphen = refl

value : files_of (codes "--tasks" ∷ codes "a" ∷ codes "--from" ∷ codes "--" ∷ codes "b" ∷ []) ≡ codes "b" ∷ []
value = refl
