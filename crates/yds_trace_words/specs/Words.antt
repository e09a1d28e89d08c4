-- The words of the command line, taken apart: what each of them sets, and to which value.
use Rattle.std.specs.Prelude.{ℕ, List, [], ◌∷◌, codes, Bool, true, not, ◌==◌, ◌||◌, if◌then◌else◌, Option, Some, None, is_some, Result, Ok, Err}
use Rattle.std.specs.List.{list_any, before_first, after_first}
use Rattle.std.specs.Str.{bytes_eq}
use Rattle.yds_trace_words.specs.declared.fault.Place.{Place}
use Rattle.yds_trace_words.specs.declared.fault.Reason.{Reason}
use Rattle.yds_trace_words.specs.declared.fault.Reason.TheVariants as reasons

-- why the words can't be taken
pub record WordFault : Type 0 where
  -- the word, or the name of what is set
  pub word : List ℕ
  -- where it stands in the list that the word gives
  pub place : Option Place
  pub reason : Reason

abbrev pub refuse : {A : Type 0} → List ℕ → Reason → Result A WordFault
refuse word reason = Err (record { word = word; place = None; reason = reason })

infixl 10 ◌>>=◌
abbrev pub ◌>>=◌ : {A B : Type 0} → Result A WordFault → (A → Result B WordFault) → Result B WordFault
(Ok x) >>= next = next x
(Err fault) >>= next = Err fault

-- one before others
abbrev pub before : {A : Type 0} → A → Result (List A) WordFault → Result (List A) WordFault
before x (Ok xs) = Ok (x ∷ xs)
before x (Err fault) = Err fault

-- the same, where that one may be refused itself
abbrev pub and_behind : {A : Type 0} → Result A WordFault → Result (List A) WordFault → Result (List A) WordFault
and_behind (Ok x) more = before x more
and_behind (Err fault) more = Err fault

-- # Names

-- what is set to a value
abbrev pub takes_value : List ℕ → Bool
takes_value name =
    bytes_eq name (codes "--cpu") || bytes_eq name (codes "--tasks") || bytes_eq name (codes "--us") || bytes_eq name (codes "--khz")
    || bytes_eq name (codes "--start") || bytes_eq name (codes "--fixed") || bytes_eq name (codes "--from") || bytes_eq name (codes "--to")
    || bytes_eq name (codes "--begin") || bytes_eq name (codes "--lost") || bytes_eq name (codes "--moved") || bytes_eq name (codes "--others")

-- Nothing behind these is read.
abbrev pub ends_words : List ℕ → Bool
ends_words name = bytes_eq name (codes "--help") || bytes_eq name (codes "--version")

-- what has no value
abbrev pub is_flag : List ℕ → Bool
is_flag name = bytes_eq name (codes "--parts") || bytes_eq name (codes "--strict") || ends_words name

-- # Words

-- what is set, and to which value; a flag's is empty
pub record Setting : Type 0 where
  pub name : List ℕ
  pub value : List ℕ

-- what a word says: a setting, a name whose value is the next word, a file, that all words behind it are files, or nothing that can be taken
pub data Word : Type 0 where
  Whole : (setting : Setting) → Word
  Waits : (name : List ℕ) → Word
  File : (name : List ℕ) → Word
  Files : Word
  Wrong : (fault : WordFault) → Word

abbrev pub is_equals : ℕ → Bool
is_equals byte = byte == 61

-- `--name=VALUE`
abbrev pub with_value : List ℕ → List ℕ → Word
with_value name value =
    if takes_value name then Whole (record { name = name; value = value })
    else Wrong (record { word = name; place = None; reason = if is_flag name then reasons.Needless else reasons.Unknown })

-- `--name`, before its value or by itself
abbrev pub without_value : List ℕ → Word
without_value name =
    if takes_value name then Waits name
    else (if is_flag name then Whole (record { name = name; value = [] })
    else Wrong (record { word = name; place = None; reason = reasons.Unknown }))

abbrev pub option_of : List ℕ → Word
option_of word =
    if list_any is_equals word then with_value (before_first is_equals word) (after_first is_equals word) else without_value word

-- A file doesn't begin with a hyphen, or is just that: standard input.
abbrev pub is_file : List ℕ → Bool
is_file [] = true
is_file (byte ∷ []) = true
is_file (byte ∷ next ∷ bytes) = not (byte == 45)

abbrev pub word_of : List ℕ → Word
word_of word = if is_file word then File word else (if bytes_eq word (codes "--") then Files else option_of word)

-- the last word
abbrev pub last_setting : Word → Result (List Setting) WordFault
last_setting (Whole setting) = Ok (setting ∷ [])
last_setting (Waits name) = refuse name reasons.NoValue
last_setting (File name) = Ok []
last_setting Files = Ok []
last_setting (Wrong fault) = Err fault

-- the settings of a word that isn't the last: those from the next word on, or from the one behind it
abbrev pub settings_from : Word → List ℕ → Result (List Setting) WordFault → Result (List Setting) WordFault → Result (List Setting) WordFault
settings_from (Whole setting) next here behind = if ends_words setting.name then Ok (setting ∷ []) else before setting here
settings_from (Waits name) next here behind = before (record { name = name; value = next }) behind
settings_from (File name) next here behind = here
settings_from Files next here behind = Ok []
settings_from (Wrong fault) next here behind = Err fault

-- What the words set, in their order, or the first word that can't be taken.
abbrev pub settings_of : List (List ℕ) → Result (List Setting) WordFault
settings_of [] = Ok []
settings_of (word ∷ []) = last_setting (word_of word)
settings_of (word ∷ next ∷ words) = settings_from (word_of word) next (settings_of (next ∷ words)) (settings_of words)

-- # Files

abbrev pub last_file : Word → List (List ℕ)
last_file (File name) = name ∷ []
last_file _ = []

-- the files of a word that isn't the last, before these: those from the next word on, or from the one behind it
abbrev pub files_from : Word → List (List ℕ) → List (List ℕ) → List (List ℕ) → List (List ℕ)
files_from (Whole setting) words here behind = here
files_from (Waits name) words here behind = behind
files_from (File name) words here behind = name ∷ here
files_from Files words here behind = words
files_from (Wrong fault) words here behind = here

-- The files that the words name, in their order.
abbrev pub files_of : List (List ℕ) → List (List ℕ)
files_of [] = []
files_of (word ∷ []) = last_file (word_of word)
files_of (word ∷ next ∷ words) = files_from (word_of word) (next ∷ words) (files_of (next ∷ words)) (files_of words)

-- Standard input where there is none.
abbrev pub or_standard_input : List (List ℕ) → List (List ℕ)
or_standard_input [] = codes "-" ∷ []
or_standard_input (file ∷ files) = file ∷ files

-- what the trace is read from
abbrev pub inputs_of : List (List ℕ) → List (List ℕ)
inputs_of words = or_standard_input (files_of words)

-- # Settings

-- the value that this is set to
abbrev pub value_of : List ℕ → List Setting → Option (List ℕ)
value_of name [] = None
value_of name (setting ∷ settings) = if bytes_eq setting.name name then Some setting.value else value_of name settings

abbrev pub is_given : List ℕ → List Setting → Bool
is_given name settings = is_some (value_of name settings)

-- the first name that is set and isn't this one
abbrev pub other_than : List ℕ → List Setting → Option (List ℕ)
other_than name [] = None
other_than name (setting ∷ settings) = if bytes_eq setting.name name then other_than name settings else Some setting.name

-- the first name that is set again
abbrev pub given_twice : List Setting → Option (List ℕ)
given_twice [] = None
given_twice (setting ∷ settings) = if is_given setting.name settings then Some setting.name else given_twice settings
