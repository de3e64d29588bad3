pub mod Closed
pub mod Firsts
pub mod Locks
pub mod Numbers
pub mod Walks
