-- What calls of the log make of it, and of the pages that it holds.
pub mod StickyLogs
pub mod LogCalls
pub mod ToldContents
pub mod LeftPages
pub mod StableMessages
pub mod Writes
pub mod ProperPages
pub mod ProperMessages
pub mod ServedCaches
