-- How the groups that wait are kept, one after another, and how one is parted.
use Rattle.std.specs.Prelude.{◌≡◌, ℕ, ◌-◌, ◌==◌, ◌++◌, Bool, not, if◌then◌else◌, List, [], ◌∷◌, length, map, slice_index}
use Rattle.std.specs.List.{filter}
use Rattle.yds_search.specs.declared.own.OwnJob.{OwnJob}
use Rattle.yds_search.specs.declared.own.OwnStretch.{OwnStretch}
use Rattle.yds_search.specs.declared.stack.Size.{Size}
use Rattle.yds_search.specs.declared.stack.Stack.{Stack}
use Rattle.yds_search.specs.Own.{Part}

abbrev pub size_of : Part → Size
size_of part = record { jobs = length part.jobs; stretches = length part.stretches }

-- the parts' jobs, stretches and sizes, the last part's first
abbrev pub jobs_of : List Part → List OwnJob
jobs_of [] = []
jobs_of (part ∷ parts) = jobs_of parts ++ part.jobs

abbrev pub own_stretches_of : List Part → List OwnStretch
own_stretches_of [] = []
own_stretches_of (part ∷ parts) = own_stretches_of parts ++ part.stretches

abbrev pub sizes_of : List Part → List Size
sizes_of [] = []
sizes_of (part ∷ parts) = sizes_of parts ++ size_of part ∷ []

-- the stack has these parts, the first one on top
pub record AreLaid (parts : List Part) (stack : Stack) : Type 0 where
  pub sizes : stack.sizes.items ≡ sizes_of parts
  pub jobs : stack.jobs.items ≡ jobs_of parts
  pub stretches : stack.stretches.items ≡ own_stretches_of parts

-- and one more on top of them, whose size is taken off
pub record AreLast (parts : List Part) (part : Part) (size : Size) (stack : Stack) : Type 0 where
  pub sizes : stack.sizes.items ≡ sizes_of parts
  pub size_is : size ≡ size_of part
  pub jobs : stack.jobs.items ≡ jobs_of (part ∷ parts)
  pub stretches : stack.stretches.items ≡ own_stretches_of (part ∷ parts)

-- whether all stretches of the job's window are closed upon
abbrev pub moves : List ℕ → OwnJob → Bool
moves ranks own = (slice_index ranks own.end - slice_index ranks own.first) == (own.end - own.first)

-- the job with its places among the stretches that are closed upon, and among the others
abbrev pub moved : List ℕ → OwnJob → OwnJob
moved ranks own = record { job = own.job; work = own.work; first = slice_index ranks own.first; end = slice_index ranks own.end }

abbrev pub stayed : List ℕ → OwnJob → OwnJob
stayed ranks own = record { job = own.job; work = own.work; first = own.first - slice_index ranks own.first; end = own.end - slice_index ranks own.end }

-- the jobs that move to the faster part of a group, and those that stay
abbrev pub moving_jobs : List ℕ → List OwnJob → List OwnJob
moving_jobs ranks jobs = map (moved ranks) (filter (moves ranks) jobs)

abbrev pub staying_jobs : List ℕ → List OwnJob → List OwnJob
staying_jobs ranks jobs = map (stayed ranks) (filter (λ own. not (moves ranks own)) jobs)

-- the stretches that have this mark
abbrev pub marked_with : ℕ → List ℕ → List OwnStretch → List OwnStretch
marked_with mark [] stretches = []
marked_with mark (one ∷ marks) [] = []
marked_with mark (one ∷ marks) (own ∷ stretches) = if one == mark then own ∷ marked_with mark marks stretches else marked_with mark marks stretches

-- the faster part of a group, and the rest
abbrev pub moving_part : List ℕ → List ℕ → Part → Part
moving_part marks ranks part = record { jobs = moving_jobs ranks part.jobs; stretches = marked_with 1 marks part.stretches }

abbrev pub staying_part : List ℕ → List ℕ → Part → Part
staying_part marks ranks part = record { jobs = staying_jobs ranks part.jobs; stretches = marked_with 0 marks part.stretches }
