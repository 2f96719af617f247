-- The table of pages, beside the chains of the log and the state of the machine.
pub mod ByIds
pub mod PageChunks
pub mod PageTables
pub mod FreeIds
pub mod Stamps
pub mod PageChains
pub mod SwappedChains
pub mod NewPages
pub mod StateChains
pub mod StatePages
pub mod Lookups
pub mod TableNodes
pub mod ChangedTables
pub mod PageKinds
