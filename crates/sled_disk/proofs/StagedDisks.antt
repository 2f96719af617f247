-- A disk whose caller reads and writes: its tasks, its reads and its moments.
pub mod StagedTasks
pub mod StagedReads
pub mod RepeatedWrites
pub mod TaskReports
pub mod StagedMoments
pub mod TaskRuns
