-- What is kept last one first.
use Rattle.base.proofs.Common.{◌≡◌, List, [], ◌∷◌, ◌++◌, map-append, reverse-append}
use Rattle.yds_trace_document.specs.declared.run.Run.{Run as RunKept}
use Rattle.yds_trace_document.specs.Views.{run_read, runs_listed}

pub runs_listed_push : (runs : List RunKept) (run : RunKept) → runs_listed (runs ++ run ∷ []) ≡ run_read run ∷ runs_listed runs
runs_listed_push runs run = rw (map-append, reverse-append)
