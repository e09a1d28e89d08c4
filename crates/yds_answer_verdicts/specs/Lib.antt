pub mod VerdictLine
pub mod Check
pub mod Trial
