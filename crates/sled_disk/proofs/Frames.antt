-- The frame that is written next, and what its write makes of a file.
pub mod FrameWrite
pub mod PendingBuffer
pub mod RecordAppend
pub mod WrittenFrame
pub mod EmptyFile
