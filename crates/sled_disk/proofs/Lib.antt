pub mod Chains
pub mod Readers
pub mod Frames
pub mod Disks
pub mod StagedDisks
pub mod LogCalls
pub mod Moves
