-- The words of the command line, as bytes, and what they ask for.
use Rattle.std.specs.Prelude.{ℕ, ◌≤◌, List, map, String, string_bytes, Option, Some, None, true, false}
use Rattle.std.specs.declared.alloc.Global.{Global}
use Rattle.base.specs.declared.limits.TheConstants.{MAX_GRID, MAX_TRIAL_JOBS, MAX_TOP}
use Rattle.yds_model.specs.Request.{Question as ModelQuestion, AskPlan, AskRound, AskAverageRate, AskOptimalAvailable, AskCheck, AskAudit, AskAuditOnPoints, AskReport, AskReportAsJson, AskAdmit, AskCurve, AskCompare, Request, OfDocument, OfTasks, OfTrial, request_of}
use Rattle.yds_words.specs.declared.command.Question.{Question}
use Rattle.yds_words.specs.declared.command.Question.TheVariants as questions
use Rattle.yds_words.specs.declared.command.Command.{Command}
use Rattle.yds_words.specs.declared.command.Command.TheVariants as commands

abbrev pub words_of : List (String Global) → List (List ℕ)
words_of words = map string_bytes words

abbrev pub asked : List (List ℕ) → Option Request
asked words = request_of words

-- a trial is asked for
abbrev pub IsTrial : Option Request → Type 0
IsTrial (Some (OfTrial seed jobs)) = Unit {0}
IsTrial _ = ⊥

-- something is asked for that is answered from the input: all but a trial
abbrev pub ReadsInput : Option Request → Type 0
ReadsInput None = ⊥
ReadsInput (Some (OfTrial seed jobs)) = ⊥
ReadsInput (Some _) = Unit {0}

-- what a question asks
abbrev pub question_view : Question → ModelQuestion
question_view questions.Plan = AskPlan
question_view questions.Round = AskRound
question_view (questions.AverageRate grid) = AskAverageRate grid
question_view (questions.OptimalAvailable grid) = AskOptimalAvailable grid
question_view questions.Check = AskCheck
question_view (questions.Audit false) = AskAudit
question_view (questions.Audit true) = AskAuditOnPoints
question_view (questions.Report false) = AskReport
question_view (questions.Report true) = AskReportAsJson
question_view (questions.Admit top) = AskAdmit top
question_view questions.Curve = AskCurve
question_view (questions.Compare grid) = AskCompare grid

-- what a command answers
abbrev pub request_view : Command → Request
request_view (commands.Document question) = OfDocument (question_view question)
request_view commands.Expand = OfTasks
request_view (commands.Trial seed jobs) = OfTrial seed jobs

-- the numbers of a question are within their limits
abbrev pub IsAskable : Question → Type 0
IsAskable (questions.AverageRate grid) = (1 ≤ grid) × (grid ≤ MAX_GRID)
IsAskable (questions.OptimalAvailable grid) = (1 ≤ grid) × (grid ≤ MAX_GRID)
IsAskable (questions.Compare grid) = (1 ≤ grid) × (grid ≤ MAX_GRID)
IsAskable (questions.Admit top) = (1 ≤ top) × (top ≤ MAX_TOP)
IsAskable _ = Unit {0}

-- and those of a command: a trial has as many jobs as it may have
abbrev pub IsWithinLimits : Command → Type 0
IsWithinLimits (commands.Document question) = IsAskable question
IsWithinLimits commands.Expand = Unit {0}
IsWithinLimits (commands.Trial seed jobs) = jobs ≤ MAX_TRIAL_JOBS
