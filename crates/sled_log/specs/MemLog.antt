-- The log in memory: what its public calls say beside the contract of a log.
pub mod Kept
pub mod Items
pub mod Packed
pub mod Stored
pub mod State
