use Rattle.base.proofs.Common.{◌≡◌, ◌∙◌, ◌∷◌, List, Option, None, map, refl, sym, ap, ap₂}
use Rattle.yds_kernel.specs.Event.{Stamped}
use Rattle.yds_kernel.specs.Parts.{or_else}
use Rattle.yds_kernel.specs.Views.{event_read, happening_read}
use Rattle.yds_trace.specs.declared.asked.Task.{Task}
use Rattle.yds_trace.specs.declared.fault.Cause.{Cause}
use Rattle.yds_trace.specs.Faults.{place_fault, behind_fault, length_fault}
use Rattle.yds_trace.specs.Passing.{fault_in}
use Rattle.yds_trace.specs.Finding.{first_found, second_found, whose_found}
use Rattle.yds_trace.specs.Views.{asked_read, task_read}
use Rattle.yds_trace.proofs.Finding.{first_is, second_is}
use Rattle.yds_trace.proofs.pass.Pass.take_event.Goals as goal

pub returns-clause-stands : goal.returns-clause-stands
returns-clause-stands c = λ past at.
    let first = c.find_first-first.ensures
    ∙ ap (λ (tasks : List Task). first_found (map task_read tasks) (happening_read c.args.event.now.happening)) c.deref.ensures.value in
    let second = c.find_second-second.ensures
    ∙ ap (λ (tasks : List Task). second_found (map task_read tasks) (happening_read c.args.event.now.happening)) c.deref-2.ensures.value in
    record {
      same_asked = refl;
      lines = c.in_ok-take.ensures past at.lines
          (c.whose-first.ensures ∙ ap whose_found first ∙ first_is _ (happening_read c.args.event.now.happening))
          (c.whose-second.ensures ∙ ap whose_found second ∙ second_is _ (happening_read c.args.event.now.happening))
          (c.missing_at-missing.ensures past at.counted first second);
      counted = c.in_ok-count.ensures.stands past at.lines at.counted;
    }

pub returns-clause-taken : goal.returns-clause-taken
returns-clause-taken c = λ past at.
    let asked = asked_read c.args.self.now.asked in
    let event = event_read c.args.event.now in
    let first = c.find_first-first.ensures
    ∙ ap (λ (tasks : List Task). first_found (map task_read tasks) (happening_read c.args.event.now.happening)) c.deref.ensures.value in
    let second = c.find_second-second.ensures
    ∙ ap (λ (tasks : List Task). second_found (map task_read tasks) (happening_read c.args.event.now.happening)) c.deref-2.ensures.value in
    let placed : place_fault event ≡ None = sym c.check_place.ensures ∙ ap fault_in c.in_ok-check_place.was in
    let behind : behind_fault asked past event ≡ None =
    sym (c.check_event.ensures past at.lines at.counted first second (c.missing_at-missing.ensures past at.counted first second))
    ∙ ap fault_in c.in_ok-check_event.was in
    ap₂ (λ (place rest : Option Cause). or_else (or_else place rest) (length_fault asked (Stamped event ∷ past))) placed behind
    ∙ c.in_ok-count.ensures.few past at.lines at.counted
