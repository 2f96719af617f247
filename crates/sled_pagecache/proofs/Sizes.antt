-- How much the pages of a cache take.
pub mod ChainSizes
pub mod LiveSizes
pub mod Measurements
