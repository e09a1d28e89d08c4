-- What a line changes of the parts that are written.
use Rattle.base.proofs.Common.{◌≡◌, List, Bool, true, false, not, ◌&&◌, ◌||◌, if◌then◌else◌, None, refl, ap}
use Rattle.yds_kernel.specs.declared.loss.Since.TheVariants as since
use Rattle.yds_kernel.specs.declared.state.State.{State}
use Rattle.yds_kernel.specs.Event.{Thread, Happening, Switch, Event, Said, Stamped}
use Rattle.yds_trace.specs.declared.cut.Cut.{Cut}
use Rattle.yds_trace.specs.Asked.{Asked}
use Rattle.yds_trace.specs.Faults.{missing_at}
use Rattle.yds_trace.specs.Past.{is_loss, lost_since}
use Rattle.yds_trace.specs.Parts.{reaches_back, reaches_back_so, was_there_before, came_back, changes_parts}

pub or_none : (b : Bool) → b ≡ (b || false)
or_none true = refl
or_none false = refl

pub both_on : (a h w : Bool) → (not h && w) ≡ true → a ≡ (a && not h && w)
both_on true true w is = absurd cc
both_on true false true is = refl
both_on true false false is = absurd cc
both_on false true w is = absurd cc
both_on false false w is = refl

pub both_off : (a h w : Bool) → (not h && w) ≡ false → false ≡ (a && not h && w)
both_off true true w is = refl
both_off true false true is = absurd cc
both_off true false false is = refl
both_off false h w is = refl

-- A line that isn't a switch misses none before it.
pub none_missing : (cut : Cut) (counts : Bool) → reaches_back_so cut (if counts then None else None) ≡ false
none_missing cut true = refl
none_missing cut false = refl

-- A switch changes parts by those that are missing before it, or by its threads.
pub switch_changes : (asked : Asked) (past : List Said) (cut : Cut) (event : Event) (previous : Thread) (state : State) (next : Thread) →
    event.happening ≡ Switch previous state next →
    changes_parts asked past cut (Stamped event)
    ≡ (reaches_back_so cut (missing_at asked past event)
    || (was_there_before asked past cut event (Switch previous state next) || came_back asked past cut event (Switch previous state next)))
switch_changes asked past cut event previous state next is =
    ap (λ (happening : Happening). (is_loss happening && reaches_back cut (lost_since event.processor since.ItsLastLine past))
    || (reaches_back_so cut (missing_at asked past event) || (was_there_before asked past cut event happening || came_back asked past cut event happening))) is
