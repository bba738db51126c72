pub mod HelperLemmas
pub mod OrderLemmas
pub mod ProbingLaws
pub mod RunLaws
pub mod SampleLemmas
pub mod TimerLemmas
pub mod VerdictLaws
pub mod Waiting
