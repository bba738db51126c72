pub mod Answered
pub mod Heard
pub mod LineTexts
pub mod Parts
