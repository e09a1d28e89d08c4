mod Costs
mod TwoJobs
mod NearMisses
mod SquareExamples
mod RateExamples
