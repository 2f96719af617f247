-- A reader of a file, from record to record.
pub mod ReadParts
pub mod UnreadBytes
pub mod BatchChanges
pub mod RecordEffects
pub mod ReaderSteps
pub mod TargetHeap
