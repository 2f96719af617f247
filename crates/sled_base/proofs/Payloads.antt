-- Reading and writing payloads.
pub mod Refusals
pub mod LowBytes
pub mod PlainNumber
pub mod ByteStrings
pub mod NumberSizes
