pub mod Answers
pub mod Worlds
pub mod Parts
pub mod Serves
pub mod Calls
pub mod Holds
pub mod Ends
pub mod Pipes
