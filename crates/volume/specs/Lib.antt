pub mod Answers
pub mod Parts
pub mod Meanings
pub mod Layouts
pub mod Fits
