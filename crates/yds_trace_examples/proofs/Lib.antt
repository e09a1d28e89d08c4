pub mod Lines
mod JobExamples
mod LateExamples
mod DocumentExamples
mod MovedExamples
mod OthersExamples
mod LimitExamples
mod FaultExamples
mod PartExamples
mod ToldExamples
mod TallyExamples
mod ProcessorExamples
