mod Asked
mod Changes
mod Locks
mod Entries
mod Standing
mod PipeLaw
mod BlockLaw
pub mod Whole
pub mod Finding
