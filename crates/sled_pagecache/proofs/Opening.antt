-- The opening of a cache, and caches that are opened one after another.
pub mod RecoveredPages
pub mod OwnPages
pub mod OpenedPages
pub mod OpenedCaches
pub mod Endings
pub mod ShownPrefixes
