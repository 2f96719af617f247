pub mod History
pub mod Calls
pub mod Kept
pub mod Book
pub mod Held
