-- The calls of the cache as steps of the machine.
pub mod CacheSteps
pub mod CallForms
pub mod CallOutcomes
pub mod KeptStamps
pub mod Refusals
pub mod FirstTests
pub mod TokenCheck
pub mod Gets
pub mod Puts
pub mod Replacements
pub mod Allocations
pub mod Flushes
pub mod Batches
pub mod Snapshots
pub mod TreeOpenings
