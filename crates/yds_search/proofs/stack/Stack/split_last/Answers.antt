use Rattle.yds_model.proofs.Common.{◌≡◌, ℕ, ◌-◌, ◌++◌, List, length, ap, arith, length-append}
use Rattle.yds_search.specs.declared.stack.Size.{Size}
use Rattle.yds_search.specs.Stack.{jobs_of, own_stretches_of}
use Rattle.yds_search.proofs.Marked.{jobs_parted, stretches_parted}
use Rattle.yds_search.proofs.Laid.{sizes_split}
use Rattle.yds_search.proofs.stack.Stack.split_last.Goals as goal

-- where the last ones of a list begin
begins_at : {X : Type 0} (items front own : List X) (n size : ℕ) → items ≡ front ++ own → n ≡ length items → size ≡ length own → n - size ≡ length front
begins_at {X} items front own n size are count last = omega (arith, ap (λ (xs : List X). length xs) are, length-append front own)

pub overflow_sub-size : goal.overflow_sub-size
overflow_sub-size c =
    let last = c.requires.last.2 in
    let size = ap (λ (size : Size). size.jobs) last.size_is in
    let start = begins_at c.args.self.now.jobs.items (jobs_of c.requires.last.0) c.requires.last.1.jobs c.len.result c.args.size.jobs last.jobs (omega (arith, c.len.ensures)) size in
    omega (arith, size, c.in_ok-jobs.ensures.staying (jobs_of c.requires.last.0) c.requires.last.1.jobs last.jobs start, jobs_parted c.deref.result.now c.requires.last.1.jobs)

pub overflow_sub-size-2 : goal.overflow_sub-size-2
overflow_sub-size-2 c =
    let last = c.requires.last.2 in
    let size = ap (λ (size : Size). size.stretches) last.size_is in
    let start = begins_at c.args.self.now.stretches.items (own_stretches_of c.requires.last.0) c.requires.last.1.stretches c.len-2.result c.args.size.stretches last.stretches
    (omega (arith, c.len-2.ensures)) size in
    let staying = rw c.deref-2.ensures.value at (c.in_ok-stretches.ensures.staying (own_stretches_of c.requires.last.0) c.requires.last.1.stretches last.stretches start) in
    omega (arith, size, staying c.requires.last.3, stretches_parted c.args.closing.now.marks.items c.requires.last.1.stretches c.requires.marks c.requires.last.3)

pub returns : goal.returns
returns c parts part last all =
    let start = begins_at c.args.self.now.jobs.items (jobs_of parts) part.jobs c.len.result c.args.size.jobs last.jobs (omega (arith, c.len.ensures)) (ap (λ (size : Size). size.jobs) last.size_is) in
    let start' = begins_at c.args.self.now.stretches.items (own_stretches_of parts) part.stretches c.len-2.result c.args.size.stretches last.stretches (omega (arith, c.len-2.ensures))
    (ap (λ (size : Size). size.stretches) last.size_is) in
    let jobs = rw c.deref.ensures.value at (c.in_ok-jobs.ensures.parted (jobs_of parts) part.jobs last.jobs start) in
    let staying = rw c.deref.ensures.value at (c.in_ok-jobs.ensures.staying (jobs_of parts) part.jobs last.jobs start) in
    let stretches = rw c.deref-2.ensures.value at (c.in_ok-stretches.ensures.parted (own_stretches_of parts) part.stretches last.stretches start') in
    let staying' = rw c.deref-2.ensures.value at (c.in_ok-stretches.ensures.staying (own_stretches_of parts) part.stretches last.stretches start') in
    let marks = c.args.closing.now.marks.items in
    let ranks = c.args.closing.now.ranks.items in
    record {
      sizes = sizes_split parts part marks ranks c.args.size c.in_ok-jobs.jobs c.in_ok-stretches.stretches c.args.self.now.sizes.items c.push.new.self.items c.push-2.new.self.items
          c.requires.marks all last.size_is last.sizes staying (staying' all) c.in_ok-push.ensures.items c.in_ok-push-2.ensures.items;
      jobs = jobs;
      stretches = stretches all;
    }
