-- Lemmas on a list of recent use and its shards.
pub mod Rounding
pub mod Keeping
pub mod Walking
pub mod Dropping
pub mod Sharding
