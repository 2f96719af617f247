-- In reading order.
pub mod Numbers
pub mod Statuses
pub mod Pairs
pub mod Found
pub mod Values
pub mod Steps
pub mod PageSizes
pub mod MapCalls
pub mod Handles
pub mod Unseen
pub mod Openings
pub mod Files
pub mod FileOpenings
pub mod Rewriting
