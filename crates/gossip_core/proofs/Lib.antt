pub mod IssueLaws
pub mod PendingLaws
pub mod PendingLemmas
pub mod RunLaws
