-- What one has to believe, in reading order; last what only proofs need.
pub mod Limits
pub mod Events
pub mod Messages
pub mod Chains
pub mod LogState
pub mod Calls
pub mod Pages
pub mod Payloads
pub mod Moves
pub mod Contents
pub mod Reading
pub mod Runs
pub mod MemLog
pub mod Inside
