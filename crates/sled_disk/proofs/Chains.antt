-- Chains of heads: what holds of each head, and the pages that they are.
pub mod ChainHeads
pub mod EachHead
pub mod PageStates
pub mod HeadBytes
pub mod ChainSizes
pub mod MessageLookup
pub mod PageCounts
pub mod LogHeads
