-- Which pages lie in memory: what brings one in, and what leaves behind a call.
pub mod ChainReads
pub mod FoundMessages
pub mod Pulls
pub mod PageIn
pub mod ReadCounts
pub mod ResidentPages
pub mod Accesses
pub mod PageOut
pub mod Eviction
pub mod SettledCaches
pub mod SettledAppends
pub mod SettledAllocations
