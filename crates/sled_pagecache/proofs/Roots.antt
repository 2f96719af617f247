-- The named roots, and their page.
pub mod RootPage
pub mod RootWrites
pub mod RootSwaps
