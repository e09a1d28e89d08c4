use Rattle.base.proofs.Common.{◌≡◌, ◌∙◌, ◌-◌, ℕ, List, map, take, length, sym, ap, ap₂, map-map}
use Rattle.yds_trace_threads.specs.declared.limits.TheConstants.{MOST_THREADS}
use Rattle.yds_trace_threads.specs.Acts.{acts}
use Rattle.yds_trace_threads.specs.Threads.{threads_of}
use Rattle.yds_trace_threads.specs.Table.{Row, row_of, still, text_of, rows_in_order, others_of}
use Rattle.yds_trace_threads.specs.Kept.{Facts, facts_read, facts_of, row_read}
use Rattle.yds_trace_threads.proofs.tally.Tally.table.Goals as goal

row_from : Facts → Row
row_from facts = record { pid = facts.pid; name = facts.name; ran = facts.ran; wake_ups = facts.wake_ups; switches = facts.switches }

pub returns-clause-told : goal.returns-clause-told
unfolding row_from
returns-clause-told c = λ past is.
    let closed = c.close.ensures past is.threads is.processors in
    let rows : map row_read c.close.new.threads.kept.items ≡ map (row_of past) (take MOST_THREADS (threads_of (acts past))) =
    sym (map-map row_from facts_read c.close.new.threads.kept.items) ∙ ap (map row_from) closed.rows
    ∙ map-map row_from (facts_of (acts past) (λ pid. still pid past)) (take MOST_THREADS (threads_of (acts past))) in
    let others : length c.close.new.threads.pids.keys - MOST_THREADS ≡ others_of past = ap (λ (pids : List ℕ). length pids - MOST_THREADS) closed.numbers in
    c.in_ok-text.ensures ∙ ap₂ (λ (all : List Row) (more : ℕ). text_of (rows_in_order all) more) rows others
