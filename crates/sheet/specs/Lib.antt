pub mod Faults
pub mod Records
pub mod Rows
pub mod Readers
pub mod Steps
