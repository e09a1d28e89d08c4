pub mod Laws
pub mod CurveLaws
pub mod AnswerLaws
pub mod AdmissionLaws
pub mod RunLaws
