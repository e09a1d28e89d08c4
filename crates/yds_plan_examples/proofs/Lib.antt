pub mod LeastExamples
mod SizesExamples
mod InstantExamples
mod PendingExamples
mod OneExamples
mod RoundedExamples
