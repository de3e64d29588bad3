mod Writes
mod Served
mod Told
