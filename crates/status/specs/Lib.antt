pub mod Written
pub mod Asked
