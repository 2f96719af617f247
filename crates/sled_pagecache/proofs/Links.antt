-- The links of a page.
pub mod LinkedChains
pub mod LinkAppends
pub mod LinkTables
pub mod LinkTests
pub mod PulledLinks
pub mod SettledLinks
pub mod LinkSteps
