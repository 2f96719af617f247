-- How links, nodes and root maps are encoded as bytes.
pub mod ShortStrings
pub mod ShortStringLaws
pub mod Links
pub mod LinkLaws
pub mod Sequences
pub mod SequenceLaws
pub mod Pairs
pub mod PairLaws
pub mod Data
pub mod DataLaws
pub mod Nodes
pub mod NodeLaws
pub mod Roots
pub mod RootLaws
