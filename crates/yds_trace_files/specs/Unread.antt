-- What a read that failed was of, and the comment on it.
use Rattle.std.specs.Prelude.{ℕ, List, ◌++◌, codes, decimal}
use Rattle.yds_trace_files.specs.declared.unread.FileFault.{FileFault}
use Rattle.yds_trace_files.specs.declared.unread.FileFault.TheVariants as faults
use Rattle.yds_trace_files.specs.declared.unread.Unread.{Unread as UnreadTold}
use Rattle.yds_trace_files.specs.declared.unread.Unread.TheVariants as told
use Rattle.yds_trace_words.specs.Texts.{shown_word}

pub data Unread : Type 0 where
  -- an input without a name
  NoName : Unread
  -- the file of this number, from 1, and name
  OfFile : (number : ℕ) (name : List ℕ) (fault : FileFault) → Unread

abbrev pub unread_read : UnreadTold → Unread
unread_read told.Input = NoName
unread_read (told.File number name fault) = OfFile number name.now fault

-- # The comment

abbrev pub file_fault_text : FileFault → List ℕ
file_fault_text faults.NotOpened = codes "it can't be opened; see that it is there and may be read"
file_fault_text faults.NotRead = codes "it couldn't be read to its end; give it anew, or leave it out if it is a folder"
file_fault_text faults.NoLineFeed = codes "it ends within a line, and another file stands behind it; give whole files"

-- A file is told by its number, and by its name as a comment shows the bytes of a word.
abbrev pub unread_text : Unread → List ℕ
unread_text NoName = codes "the input couldn't be read to its end; give it anew"
unread_text (OfFile number name fault) = codes "file " ++ decimal number ++ codes " (" ++ shown_word name ++ codes "): " ++ file_fault_text fault

-- the comment, and the line that no reader of documents takes
abbrev pub read_fault_text : Unread → List ℕ
read_fault_text unread = codes "# " ++ unread_text unread ++ codes "\nfailed\n"
