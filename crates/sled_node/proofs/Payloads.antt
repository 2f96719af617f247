-- Reading and writing payloads.
pub mod ShortStrings
pub mod Links
pub mod PairReads
pub mod WriteAll
pub mod Data
pub mod Sizes
pub mod Nodes
pub mod OpenLeaves
pub mod Roots
