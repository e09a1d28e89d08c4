-- How the parts are laid on the stack, and how near the search's end is.
use Rattle.yds_model.proofs.Common.{◌≡◌, ℕ, ◌+◌, ◌-◌, ◌*◌, ◌<◌, ◌≤◌, List, [], ◌∷◌, ◌++◌, length, refl, sym, ap, arith, All, length_push, length-append, same_from_push, Job}
use Rattle.yds_events.specs.declared.window.Window.{Window}
use Rattle.yds_search.specs.declared.stack.Size.{Size}
use Rattle.yds_search.specs.declared.stack.Stack.{Stack}
use Rattle.yds_search.specs.Found.{Found}
use Rattle.yds_search.specs.Own.{Part}
use Rattle.yds_search.specs.Stack.{AreLaid, AreLast, size_of, sizes_of, own_stretches_of, staying_jobs, marked_with, staying_part, moving_part}
use Rattle.yds_search.specs.Waiting.{AreWaiting}
use Rattle.yds_search.proofs.Marked.{jobs_parted, stretches_parted}

-- a part's size
pub size_is : (jobs stretches : ℕ) (part : Part) → jobs ≡ length part.jobs → stretches ≡ length part.stretches →
    (let one : Size = record { jobs = jobs; stretches = stretches } in one) ≡ size_of part
size_is jobs stretches part same same' = cc

-- the sizes of a split part's two parts
pub sizes_split : (parts : List Part) (part : Part) (marks ranks : List ℕ) (size : Size) (m n : ℕ) (sizes sizes' sizes'' : List Size) → All (λ mark. mark ≤ 1) marks →
    length marks ≡ length part.stretches → size ≡ size_of part → sizes ≡ sizes_of parts → m ≡ length (staying_jobs ranks part.jobs) → n ≡ length (marked_with 0 marks part.stretches) →
    sizes' ≡ sizes ++ record { jobs = m; stretches = n } ∷ [] → sizes'' ≡ sizes' ++ record { jobs = size.jobs - m; stretches = size.stretches - n } ∷ [] →
    sizes'' ≡ sizes_of (moving_part marks ranks part ∷ staying_part marks ranks part ∷ parts)
sizes_split parts part marks ranks size m n sizes sizes' sizes'' small all is are jobs stretches more more' = grind (arith, jobs_parted, size_is, stretches_parted)

-- the part on top, by its size
pub last_part : (parts : List Part) (sizes : List Size) (size : Size) → sizes_of parts ≡ sizes ++ size ∷ [] →
    (rest : List Part) × (part : Part) × (parts ≡ part ∷ rest) × (sizes ≡ sizes_of rest) × (size ≡ size_of part)
last_part [] sizes size is = absurd (omega (arith, ap (λ (xs : List Size). length xs) is, length_push sizes size))
last_part (part ∷ parts) sizes size is = let same = same_from_push (sizes_of parts) sizes (size_of part) size is in (parts, part, refl, sym same.0, sym same.1)

-- no size, no part
pub no_parts : (parts : List Part) → length (sizes_of parts) ≡ 0 → parts ≡ []
no_parts [] none = refl
no_parts (part ∷ parts) none = absurd (omega (arith, none, length_push (sizes_of parts) (size_of part)))

-- a part has a stretch, so there are no more parts than stretches
pub parts_few : (jobs : List Job) (windows : List Window) (found : Found) (parts : List Part) → AreWaiting jobs windows found parts → length (sizes_of parts) ≤ length (own_stretches_of parts)
parts_few jobs windows found [] waiting = omega arith
parts_few jobs windows found (part ∷ parts) waiting = omega (
  arith,
  waiting.0.some,
  length_push (sizes_of parts) (size_of part),
  length-append (own_stretches_of parts) part.stretches,
  parts_few jobs windows found parts waiting.3,
)

-- there are fewer stretches after a group is finished
pub finish_nearer : (parts : List Part) (part : Part) (size : Size) (old new : Stack) → AreLast parts part size old → AreLaid parts new → 1 ≤ length part.stretches →
    2 * length new.stretches.items + length old.sizes.items + 1 < 2 * length old.stretches.items + length new.sizes.items
finish_nearer parts part size old new last laid some = grind (arith, length-append)

-- and more groups after one is split
pub split_nearer : (parts : List Part) (part : Part) (size : Size) (old new : Stack) (marks ranks : List ℕ) → AreLast parts part size old →
    AreLaid (moving_part marks ranks part ∷ staying_part marks ranks part ∷ parts) new → All (λ mark. mark ≤ 1) marks → length marks ≡ length part.stretches →
    2 * length new.stretches.items + length old.sizes.items + 1 < 2 * length old.stretches.items + length new.sizes.items
split_nearer parts part size old new marks ranks last laid small all = grind (arith, length-append, length_push, stretches_parted)
