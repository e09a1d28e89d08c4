pub mod Told
pub mod Going
pub mod Lines
pub mod Missing
pub mod First
pub mod Holding
pub mod Same
pub mod Parting
pub mod Later
pub mod Ranked
pub mod Together
pub mod Spans
pub mod Worth
pub mod Shared
pub mod Everywhere
pub mod Several
mod Traces
mod Examples
mod LateExamples
mod SpanExamples
mod ProcessorExamples
