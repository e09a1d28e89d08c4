pub mod Tests
pub mod TestedSchedules
pub mod TestedPlans
pub mod TestedRounding
mod ReadingExamples
pub mod ThreeJobs
mod ThreeJobsChanged
mod EqualSpeedsExamples
mod EarliestFirstExamples
mod HullExamples
mod RoundNestedExamples
mod RoundLawExamples
mod RoundSwitchExamples
pub mod Policies
mod RunTextExamples
mod RowsExamples
pub mod PlanRowExamples
mod JudgedExamples
mod EnergyExamples
mod WordsExamples
mod TasksExamples
mod JsonExamples
pub mod CurveExamples
pub mod AdmissionExamples
pub mod ComparisonExamples
mod WorthExamples
mod ComparedExamples
mod UnevenExamples
mod TimelineExamples
mod TimetableExamples
