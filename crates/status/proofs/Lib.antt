pub mod Parts
pub mod EightBytes
pub mod Names
pub mod Padding
pub mod Lengths
pub mod Selector
