use Rattle.base.proofs.Common.{◌∙◌, map, map-append, ap, sym}
use Rattle.std.specs.String.{string_bytes}
use Rattle.yds_trace_words.specs.Words.{word_of}
use Rattle.yds_trace_words.specs.Views.{words_of, setting_read}
use Rattle.yds_trace_words.proofs.Settings.{goes_on, takes_next}
use Rattle.yds_trace_words.proofs.setting.settings.Goals as goal

pub loop-first-preserved-in-Whole : goal.loop-first-preserved-in-Whole
loop-first-preserved-in-Whole c =
    rw (c.in_ok-push-in-Whole.ensures.items, map-append)
    (goes_on (words_of c.args.words.now) (map setting_read c.loop-first.settings.items) (words_of c.loop-first.rest.now) (string_bytes c.in-Some.first.now) (words_of c.in-Some.others.now)
    (setting_read c.in-Whole.setting) c.loop-first.invariant (ap words_of c.in-Some.ensures.cases.0) (ap word_of (sym c.as_bytes.ensures.value) ∙ c.in-Whole.ensures)
    (sym c.ends_words.ensures ∙ c.if-ends_words.false))

pub loop-first-preserved-in-Waits : goal.loop-first-preserved-in-Waits
loop-first-preserved-in-Waits c =
    rw (c.in_ok-push-in-Waits.ensures.items, map-append, c.as_bytes-in-Waits.ensures.value)
    (takes_next (words_of c.args.words.now) (map setting_read c.loop-first.settings.items) (words_of c.loop-first.rest.now) (string_bytes c.in-Some.first.now)
    (string_bytes c.in-Some-split_first.value.now) (words_of c.in-Some.others.now) (words_of c.in-Some-split_first.behind.now) c.in-Waits.name.now c.loop-first.invariant
    (ap words_of c.in-Some.ensures.cases.0) (ap words_of c.in-Some-split_first.ensures.cases.0) (ap word_of (sym c.as_bytes.ensures.value) ∙ c.in-Waits.ensures))
