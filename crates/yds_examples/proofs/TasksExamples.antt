-- The definitions of periodic tasks, tried on the worked rows of `expand` and on lines that are refused.
use Rattle.yds_model.proofs.Common.{◌≡◌, ℕ, ◌++◌, List, [], ◌∷◌, refl, codes, replicate, Option, Result, Ok, Err, Some, None, digits, Fault, TaskSet, Task, count_of_jobs, task_reading, expansion_text, Answers}
use Rattle.yds_model.specs.declared.task_reason.TaskReason.{TaskReason}
use Rattle.yds_model.specs.declared.task_reason.TaskReason.TheVariants.{UnknownKind, Misplaced, FieldCount, BadName, DuplicateName, BadNumber, OutOfRange, TooManyJobs}
use Rattle.yds_model.specs.Tasks.{one_level}
use Rattle.base.specs.declared.status.Status.TheVariants.{Done, Refused}

abbrev task : List ℕ → ℕ → ℕ → ℕ → ℕ → Task
task name offset period deadline work = record { name = name; offset = offset; period = period; deadline = deadline; work = work }

-- a each 4 time units and b each 6, until 12
abbrev pub two : TaskSet
two = record { horizon = Some 12; tasks = task (codes "a") 0 4 4 2 ∷ task (codes "b") 0 6 6 3 ∷ [] }

-- These lines are read as the two tasks.
two_read : task_reading (codes "horizon 12\ntask a 0 4 4 2\ntask b 0 6 6 3\n") ≡ Ok two
two_read = refl

-- Their jobs follow one another until the horizon, so each plan of them has one level: 12 units of work in 12 of time.
two_level : one_level two ≡ Some (12, 12)
two_level = refl

-- Three jobs of a are written, two of b, and the level.
two_text : expansion_text two ≡ codes "job a.0 0 4 2\njob a.1 4 8 2\njob a.2 8 12 2\njob b.0 0 6 3\njob b.1 6 12 3\n# one level 12 12\n"
unfolding digits
two_text = refl

-- s from 1 on each 5 time units, done 2 later
abbrev offset : TaskSet
offset = record { horizon = Some 10; tasks = task (codes "s") 1 5 2 1 ∷ [] }

-- A comment, blanks and a missing line end don't matter here either.
offset_read : task_reading (codes "# sampled\nhorizon\t10\n\n task s 1  5 2 1") ≡ Ok offset
offset_read = refl

-- Its jobs leave gaps, so no level is told.
offset_text : expansion_text offset ≡ codes "job s.0 1 3 1\njob s.1 6 8 1\n"
unfolding digits
offset_text = refl

-- no line, no task
nothing_read : task_reading [] ≡ Ok (record { horizon = None; tasks = [] })
nothing_read = refl

-- and nothing is written for it
nothing_text : expansion_text (record { horizon = None; tasks = [] }) ≡ []
nothing_text = refl

-- A job counts where its deadline is the horizon,
last_counts : count_of_jobs 8 (task (codes "s") 1 5 2 1) ≡ 2
last_counts = refl

-- and not where it comes one later.
later_doesnt : count_of_jobs 7 (task (codes "s") 1 5 2 1) ≡ 1
later_doesnt = refl

-- a task whose first job ends after the horizon has none
none_counts : count_of_jobs 2 (task (codes "s") 1 5 2 1) ≡ 0
none_counts = refl

-- No level is told where one of the two tasks is another: with an offset of 1,
abbrev level_beside : Task → Option (ℕ × ℕ)
level_beside other = one_level (record { horizon = Some 12; tasks = task (codes "a") 0 4 4 2 ∷ other ∷ [] })

-- the gap is at the start,
late : level_beside (task (codes "b") 1 6 6 3) ≡ None
late = refl

-- with a period that doesn't divide the horizon at its end,
uneven : level_beside (task (codes "b") 0 5 5 3) ≡ None
uneven = refl

-- with a deadline before the period between its jobs.
early : level_beside (task (codes "b") 0 6 5 3) ≡ None
early = refl

-- Without work there is no level at all,
without_work : one_level (record { horizon = Some 12; tasks = task (codes "a") 0 4 4 0 ∷ [] }) ≡ None
without_work = refl

-- but a task of no work beside one with work changes nothing.
beside_work : level_beside (task (codes "b") 0 6 6 0) ≡ Some (6, 12)
beside_work = refl

-- what follows a horizon of 12, on the second line, is refused at this column for this reason
abbrev refused : ℕ → TaskReason → Result TaskSet (Fault TaskReason)
refused column reason = Err (record { line = 2; column = column; reason = reason })

-- a job line among tasks
job_line : task_reading (codes "horizon 12\njob a 0 4 8\n") ≡ refused 1 UnknownKind
job_line = refl

-- a second horizon
second_horizon : task_reading (codes "horizon 12\nhorizon 12\n") ≡ refused 1 Misplaced
second_horizon = refl

-- a task before the horizon
before_horizon : task_reading (codes "task a 0 4 4 2\n") ≡ Err (record { line = 1; column = 1; reason = Misplaced })
before_horizon = refl

-- a horizon without its number: one past the last byte of the last field
number_missing : task_reading (codes "horizon") ≡ Err (record { line = 1; column = 8; reason = FieldCount })
number_missing = refl

-- a task without its work
field_missing : task_reading (codes "horizon 12\ntask a 0 4 4") ≡ refused 13 FieldCount
field_missing = refl

-- a field too many: the first of them
field_too_many : task_reading (codes "horizon 12\ntask a 0 4 4 2 9 9") ≡ refused 16 FieldCount
field_too_many = refl

-- a name of 60 bytes, which leaves no room for a dot and a number
long_name : task_reading (codes "horizon 12\ntask " ++ replicate 60 97 ++ codes " 0 4 4 2") ≡ refused 6 BadName
long_name = refl

-- one of 59 is read
name_of_59 : task_reading (codes "horizon 12\ntask " ++ replicate 59 97 ++ codes " 0 4 4 2") ≡ Ok (record { horizon = Some 12; tasks = task (replicate 59 97) 0 4 4 2 ∷ [] })
name_of_59 = refl

-- a name that a task has already
same_name : task_reading (codes "horizon 12\ntask a 0 4 4 2\ntask a 0 6 6 3\n") ≡ Err (record { line = 3; column = 6; reason = DuplicateName })
same_name = refl

-- a number with a zero in front
leading_zero : task_reading (codes "horizon 12\ntask a 0 04 4 2\n") ≡ refused 10 BadNumber
leading_zero = refl

-- a period of 0, though a number after it isn't one
period_of_zero : task_reading (codes "horizon 12\ntask a 0 0 x 2\n") ≡ refused 10 OutOfRange
period_of_zero = refl

-- a deadline of 0
deadline_of_zero : task_reading (codes "horizon 12\ntask a 0 4 0 2\n") ≡ refused 12 OutOfRange
deadline_of_zero = refl

-- a horizon of 0
horizon_of_zero : task_reading (codes "horizon 0\n") ≡ Err (record { line = 1; column = 9; reason = OutOfRange })
horizon_of_zero = refl

-- a job each time unit until the greatest horizon: the period is named
too_many : task_reading (codes "horizon 1000000000\ntask a 0 1 1 1\n") ≡ refused 10 TooManyJobs
too_many = refl

-- 4,000 jobs are not too many,
just_enough : task_reading (codes "horizon 4000\ntask a 0 1 1 1\n") ≡ Ok (record { horizon = Some 4000; tasks = task (codes "a") 0 1 1 1 ∷ [] })
just_enough = refl

-- and one more, of another task, is.
one_more : task_reading (codes "horizon 4000\ntask a 0 1 1 1\ntask b 0 4000 4000 0\n") ≡ Err (record { line = 3; column = 10; reason = TooManyJobs })
one_more = refl

-- So this is the answer of `expand` to the two tasks,
pub expanded : Answers (codes "expand" ∷ []) (codes "horizon 12\ntask a 0 4 4 2\ntask b 0 6 6 3\n")
    (codes "job a.0 0 4 2\njob a.1 4 8 2\njob a.2 8 12 2\njob b.0 0 6 3\njob b.1 6 12 3\n# one level 12 12\n") Done
unfolding digits
expanded = record { said = refl; ended = refl }

-- this to the task with an offset,
expanded_later : Answers (codes "expand" ∷ []) (codes "horizon 10\ntask s 1 5 2 1\n") (codes "job s.0 1 3 1\njob s.1 6 8 1\n") Done
unfolding digits
expanded_later = record { said = refl; ended = refl }

-- this to a task before the horizon,
refused_early : Answers (codes "expand" ∷ []) (codes "task a 0 4 4 2\n") (codes "refused 1 1 Misplaced\n") Refused
unfolding digits
refused_early = record { said = refl; ended = refl }

-- and this to a job each time unit until the greatest horizon.
refused_many : Answers (codes "expand" ∷ []) (codes "horizon 1000000000\ntask a 0 1 1 1\n") (codes "refused 2 10 TooManyJobs\n") Refused
unfolding digits
refused_many = record { said = refl; ended = refl }

-- A refusal doesn't end as an answer does,
not_done : Answers (codes "expand" ∷ []) (codes "task a 0 4 4 2\n") (codes "refused 1 1 Misplaced\n") Done → ⊥
not_done answer = absurd (cc answer.ended)

-- and tasks are no document of jobs.
planned : Answers (codes "plan" ∷ []) (codes "horizon 10\ntask s 1 5 2 1\n") (codes "refused 1 1 UnknownKind\n") Refused
unfolding digits
planned = record { said = refl; ended = refl }
