-- The texts that answer words alone.
use Rattle.std.specs.Prelude.{ℕ, List, [], ◌++◌, map, take, codes, decimal, ◌==◌, ◌||◌, if◌then◌else◌, Option, Some, None}
use Rattle.base.specs.Spelling.{is_visible}
use Rattle.yds_trace_words.specs.declared.fault.Place.{Place}
use Rattle.yds_trace_words.specs.declared.fault.Place.TheVariants as places
use Rattle.yds_trace_words.specs.declared.fault.Reason.{Reason}
use Rattle.yds_trace_words.specs.declared.fault.Reason.TheVariants as reasons
use Rattle.yds_trace_words.specs.declared.texts.TheConstants.{HELP, VERSION}
use Rattle.yds_trace_words.specs.Words.{WordFault}

-- the text of `--help`, and the line of `--version`
abbrev pub help_text : List ℕ
help_text = HELP.now

abbrev pub version_line : List ℕ
version_line = VERSION.now

-- what is wrong, and what to do
abbrev pub reason_text : Reason → List ℕ
reason_text reasons.Unknown = codes "no such word; --help lists them"
reason_text reasons.Needless = codes "it has no value; leave out the equals sign and what is behind it"
reason_text reasons.NoValue = codes "its value is missing; write it behind"
reason_text reasons.Twice = codes "given twice; give it once"
reason_text reasons.Processor = codes "no number of a processor; write a whole number from 0 to 8191, or all"
reason_text reasons.Unit = codes "no unit of time; write whole microseconds from 1 to 1000000000"
reason_text reasons.Speed = codes "no speed; write whole kilohertz from 1 to 4294967295"
reason_text reasons.SpeedProcessor = codes "no number of a processor before the colon; write a whole number from 0 to 8191"
reason_text reasons.SpeedForm = codes "no colon behind the processor; write CPU:KHZ, with the speed in kilohertz, or one speed for all processors"
reason_text reasons.TooManySpeeds = codes "more than 1000 speeds; list fewer, or give one for all processors"
reason_text reasons.ProcessorTwice = codes "another speed is of the same processor; give it once"
reason_text reasons.WithStart = codes "given with --start; give one of both"
reason_text reasons.Time = codes "no time; write seconds to 9223372036.854775807, with at most nine digits behind the point; +2 counts from the first line"
reason_text reasons.FromNotBefore = codes "not before --to; give an earlier time, or a later one there"
reason_text reasons.Begin = codes "no way in which jobs begin; write run, or leave it out for jobs that begin at wake-ups"
reason_text reasons.Lost = codes "no way to go on behind lost events; write cut, or leave it out"
reason_text reasons.Moved = codes "no way to tell of jobs that moved; write parts, or leave it out"
reason_text reasons.Others = codes "nothing else is told of other threads; write spans, or leave it out"
reason_text reasons.EachProcessor = codes "it is told of one processor; give its number with --cpu"
reason_text reasons.Threads = codes "it says nothing of the list of threads; leave it out, or name the tasks"
reason_text reasons.NoTasks = codes "missing; write --tasks NAME:DEADLINE, with the deadline in milliseconds"
reason_text reasons.TooManyTasks = codes "more than 1000 tasks; ask for fewer at a time"
reason_text reasons.TaskForm = codes "no colon behind the name; write NAME:DEADLINE, with the deadline in milliseconds"
reason_text reasons.Label = codes "no name for jobs; it has 1 to 53 visible ASCII characters: for a thread of another name write PID=NAME:DEADLINE"
reason_text reasons.Pid = codes "no number of a thread before the equals sign; write a whole number from 1 to 4294967295, or a backslash before the sign"
reason_text reasons.Deadline = codes "no deadline; write milliseconds to 9223372036854.775807, with at most six digits behind the point"
reason_text reasons.ShortDeadline = codes "its deadline is less than a unit of time; write a later one, or a smaller unit by --us"
reason_text reasons.Apart = codes "no time behind the second colon; write milliseconds, with at most six digits behind the point"
reason_text reasons.Period = codes "no time above 0 behind the third colon; write milliseconds, with at most six digits behind the point"
reason_text reasons.LabelTwice = codes "another task has the same name; write PID=NAME:DEADLINE with another name"
reason_text reasons.ThreadTwice = codes "another task is the same thread; list it once"

-- a byte of a word as a comment shows it: no word ends the line
abbrev pub shown : ℕ → ℕ
shown byte = if is_visible byte || (byte == 32) then byte else 63

-- the first bytes of a word
abbrev pub shown_word : List ℕ → List ℕ
shown_word word = map shown (take 64 word)

abbrev pub place_text : Option Place → List ℕ
place_text None = []
place_text (Some (places.Task number)) = codes ", task " ++ decimal number
place_text (Some (places.Speed number)) = codes ", speed " ++ decimal number

-- the comment that tells it, and the line that no reader of documents takes
abbrev pub fault_text : WordFault → List ℕ
fault_text fault = codes "# " ++ shown_word fault.word ++ place_text fault.place ++ codes ": " ++ reason_text fault.reason ++ codes "\nfailed\n"
