-- Disks in memory and of the system: the journal of their calls, and writes that end early.
pub mod JournalCalls
pub mod JournalMoments
pub mod ShortWrites
pub mod TornBytes
pub mod UnchangedCrashStates
