pub mod RouteLemmas
pub mod DecidedLaws
pub mod ScheduleLaws
