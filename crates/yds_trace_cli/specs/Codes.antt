-- With which exit status the program ends.
use Rattle.std.specs.Prelude.{ℕ}
use Rattle.std.specs.declared.io.ErrorKind.{ErrorKind}
use Rattle.std.specs.declared.io.ErrorKind.TheVariants.{OutOfMemory}
use Rattle.base.specs.declared.status.Status.TheVariants.{Memory}
use Rattle.base.specs.Status.{status_code}
use Rattle.yds_trace_cli.specs.declared.TheConstants.{NO_WORDS}

-- where the words of the command line can't be taken, by the cause: that of want of memory, or `NO_WORDS`, as for a word that is no text
abbrev pub code_without_words : ErrorKind → ℕ
code_without_words OutOfMemory = status_code Memory
code_without_words _ = NO_WORDS
