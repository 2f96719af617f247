-- The calls of a log, from the bytes of its disk to its events.
pub mod EmptyLog
pub mod LogOfBytes
pub mod CallOutcomes
pub mod UnchangedMeaning
pub mod LaterReads
pub mod OneMore
