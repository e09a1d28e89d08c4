use Rattle.yds_model.proofs.Common.{◌≡◌, ◌<◌, ◌++◌, length, get_or, take, take_all, arith, Contains-get_or}
use Rattle.yds_checker.proofs.Homes.{homes_more}
use Rattle.yds_checker.proofs.home.settle.Goals as goal

pub loop-job-preserved : goal.loop-job-preserved
loop-job-preserved c = λ levels before known same are.
    let members = c.args.members.now in
    let i = c.loop-job.job-index in
    let job = get_or members i 0 in
    let stand = c.loop-job.invariant levels before known same are in
    let inside : job < length c.loop-job.homes = omega (arith, c.requires.known i 0 c.loop-job-test.true) in
    homes_more levels before members i c.loop-job.homes c.with.result c.loop-job-test.true stand
    (c.with.ensures levels (before ++ take i members) job known (rw same (Contains-get_or members i 0 c.loop-job-test.true)) (stand job inside))

pub returns : goal.returns
returns c = λ levels before known same are.
    let all : take c.loop-job.job-index c.args.members.now ≡ c.args.members.now = take_all c.loop-job.job-index c.args.members.now c.loop-job-test.false in
    rw all at (c.loop-job.invariant levels before known same are)
