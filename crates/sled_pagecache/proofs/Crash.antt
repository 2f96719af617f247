-- What is opened over what a crash left.
pub mod ReopenedCaches
pub mod FlushedCaches
pub mod AtomicBatches
