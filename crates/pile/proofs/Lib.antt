mod Rising
mod Sought
mod Spelling
