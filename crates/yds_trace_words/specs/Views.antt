-- What contracts see of what the code makes of the words.
use Rattle.std.specs.Prelude.{◌≡◌, ℕ, List, map, String, string_bytes, Vec, Result, Ok, Err}
use Rattle.std.specs.Borrow.{Bor}
use Rattle.std.specs.declared.alloc.Global.{Global}
use Rattle.yds_trace.specs.declared.asked.Task.{Task as TaskKept}
use Rattle.yds_trace.specs.declared.asked.StartSpeed.{StartSpeed as StartSpeedKept}
use Rattle.yds_trace.specs.Asked.{Task, StartSpeed}
use Rattle.yds_trace.specs.Views.{which_read, task_read, speed_read, asked_read}
use Rattle.yds_trace_words.specs.declared.fault.WordFault.{WordFault as FaultTold}
use Rattle.yds_trace_words.specs.declared.fault.NoRequest.{NoRequest}
use Rattle.yds_trace_words.specs.declared.fault.NoRequest.TheVariants.{Fault, Memory}
use Rattle.yds_trace_words.specs.declared.setting.Setting.{Setting as SettingKept}
use Rattle.yds_trace_words.specs.declared.setting.Word.{Word as WordSaid}
use Rattle.yds_trace_words.specs.declared.setting.Word.TheVariants as said
use Rattle.yds_trace_words.specs.declared.request.Request.{Request as RequestMade}
use Rattle.yds_trace_words.specs.declared.request.Request.TheVariants as requests
use Rattle.yds_trace_words.specs.declared.letter.Letter.{Letter}
use Rattle.yds_trace_words.specs.declared.tasks.Called.{Called as CalledKept}
use Rattle.yds_trace_words.specs.declared.tasks.Times.{Times as TimesKept}
use Rattle.yds_trace_words.specs.Tasks.{Called, Times}
use Rattle.yds_trace_words.specs.Words.{WordFault, Setting, Word, Whole, Waits, File, Files, Wrong}
use Rattle.yds_trace_words.specs.Request.{Request, ShowHelp, ShowVersion, ReadTrace, ListThreads}

abbrev pub words_of : List (String Global) → List (List ℕ)
words_of words = map string_bytes words

abbrev pub fault_read : FaultTold → WordFault
fault_read fault = record { word = fault.word.now; place = fault.place; reason = fault.reason }

abbrev pub setting_read : SettingKept → Setting
setting_read setting = record { name = setting.name.now; value = setting.value.now }

abbrev pub request_read : RequestMade → Request
request_read requests.Help = ShowHelp
request_read requests.Version = ShowVersion
request_read (requests.Trace asked bounds strict) = ReadTrace (asked_read asked) bounds strict
request_read requests.Threads = ListThreads

-- What was read is what the definition reads, or it is refused for the same reason, or memory ran out.
abbrev pub Reads : {X Y : Type 0} → (X → Y) → Result X NoRequest → Result Y WordFault → Type 0
Reads view (Ok x) defined = defined ≡ Ok (view x)
Reads view (Err (Fault fault)) defined = defined ≡ Err (fault_read fault)
Reads view (Err Memory) defined = Unit {0}

-- the same where no memory is taken
abbrev pub Takes : {X Y : Type 0} → (X → Y) → Result X FaultTold → Result Y WordFault → Type 0
Takes view (Ok x) defined = defined ≡ Ok (view x)
Takes view (Err fault) defined = defined ≡ Err (fault_read fault)

abbrev pub settings_read : Vec SettingKept Global → List Setting
settings_read settings = map setting_read settings.items

abbrev pub names_read : Vec (Bor (List ℕ)) Global → List (List ℕ)
names_read names = map (λ (name : Bor (List ℕ)). name.now) names.items

-- the word says what the definition says of it
abbrev pub IsWord : WordSaid → Word → Type 0
IsWord (said.Whole setting) defined = defined ≡ Whole (setting_read setting)
IsWord (said.Waits name) defined = defined ≡ Waits name.now
IsWord (said.File name) defined = defined ≡ File name.now
IsWord said.Files defined = defined ≡ Files
IsWord (said.Wrong fault) defined = defined ≡ Wrong (fault_read fault)

abbrev pub bytes_read : Vec ℕ Global → List ℕ
bytes_read bytes = bytes.items

abbrev pub tasks_read : Vec TaskKept Global → List Task
tasks_read tasks = map task_read tasks.items

abbrev pub speeds_read : Vec StartSpeedKept Global → List StartSpeed
speeds_read speeds = map speed_read speeds.items

abbrev pub called_read : CalledKept → Called
called_read called = record { thread = which_read called.thread; label = called.label.items }

abbrev pub times_read : TimesKept → Times
times_read times = record { deadline = times.deadline; pace = times.pace }

abbrev pub pieces_read : Vec (Bor (List Letter)) Global → List (List Letter)
pieces_read pieces = map (λ (piece : Bor (List Letter)). piece.now) pieces.items
