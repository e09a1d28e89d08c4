-- Which tasks a thread is, by its number and by its name.
use Rattle.std.specs.Prelude.{List, None, position}
use Rattle.yds_kernel.specs.Parts.{or_else}
use Rattle.yds_kernel.specs.Event.{Thread, Happening, Switch, WakeUp}
use Rattle.yds_trace.specs.declared.find.Found.{Found}
use Rattle.yds_trace.specs.declared.step.Whose.{Whose}
use Rattle.yds_trace.specs.Asked.{Task, is_numbered, is_named}

abbrev pub found : List Task → Thread → Found
found tasks thread = record {
  numbered = position (λ task. is_numbered thread.pid task.thread) tasks;
  named = position (λ task. is_named thread.name task.thread) tasks;
  pid = thread.pid;
}

abbrev pub none_found : Found
none_found = record { numbered = None; named = None; pid = 0 }

-- who leaves, or is woken
abbrev pub first_found : List Task → Happening → Found
first_found tasks (Switch previous state next) = found tasks previous
first_found tasks (WakeUp thread starts) = found tasks thread
first_found tasks _ = none_found

-- who comes
abbrev pub second_found : List Task → Happening → Found
second_found tasks (Switch previous state next) = found tasks next
second_found tasks _ = none_found

abbrev pub whose_found : Found → Whose
whose_found found = record { number = or_else found.numbered found.named; pid = found.pid }
