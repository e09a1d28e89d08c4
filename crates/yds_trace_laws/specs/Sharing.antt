-- A processor runs one thread at a time.
use Rattle.std.specs.Prelude.{◌≡◌, ◌≢◌, ℕ, ◌≤◌, ◌⊎◌, List, true}
use Rattle.std.specs.List.{All}
use Rattle.yds_kernel.specs.Event.{Said}
use Rattle.yds_trace.specs.declared.job.Stretch.{Stretch}
use Rattle.yds_trace.specs.Asked.{Asked}
use Rattle.yds_trace.specs.Jobs.{Job}
use Rattle.yds_trace.specs.WrittenTime.{Units, Run}
use Rattle.yds_trace.specs.Document.{Judged, stands, jobs_of, written_runs}

-- of two stretches on one processor, one ends by when the other begins
abbrev pub AreApart : Stretch → Stretch → Type 0
AreApart stretch other = stretch.processor ≡ other.processor → (stretch.to ≤ other.from) ⊎ (other.to ≤ stretch.from)

-- each stretch of each of these jobs has P
abbrev pub EachStretch : (Stretch → Type 0) → List Job → Type 0
EachStretch P jobs = All (λ job. All P job.stretches) jobs

-- those of one task are apart from those of another
abbrev pub HaveOwnTime : Asked → List Said → ℕ → ℕ → Type 0
HaveOwnTime asked past number other = EachStretch (λ stretch. EachStretch (AreApart stretch) (jobs_of asked past other)) (jobs_of asked past number)

-- of two runs, one ends by when the other begins
abbrev pub RunsAreApart : Run → Run → Type 0
RunsAreApart run other = (run.to ≤ other.from) ⊎ (other.to ≤ run.from)

-- Jobs of two tasks that stand as they are: no unit of time is in runs of both.
abbrev pub HaveOwnUnits : Units → Judged → Judged → Type 0
HaveOwnUnits units one other =
    stands one ≡ true → stands other ≡ true → one.task ≢ other.task →
    All (λ run. All (RunsAreApart run) (written_runs units other.job)) (written_runs units one.job)
