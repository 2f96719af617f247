pub mod Ascending
pub mod Places
pub mod Edits
pub mod Pages
pub mod WholeKeys
pub mod WholePlaces
pub mod StoredPairs
pub mod Nearest
pub mod NodeEdits
pub mod Merging
pub mod FromParts
pub mod LeafNodes
pub mod NodeEquality
pub mod Payloads
pub mod Roots
pub mod RootEntries
pub mod ChangedRoots
pub mod Sizes
pub mod Inserts
pub mod Children
pub mod Prefixes
pub mod Separators
pub mod Restoring
pub mod Receiving
pub mod SplitPairs
pub mod SplitStored
mod LeafStrings
mod LeafPayloads
