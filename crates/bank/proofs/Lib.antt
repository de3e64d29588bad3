pub mod Settled
pub mod Written
