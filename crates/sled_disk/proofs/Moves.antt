-- The messages that a log has still to name, and how far it has looked for the next.
pub mod CountedMessages
pub mod RecordPlaces
pub mod SearchProgress
pub mod SearchSteps
pub mod MovesAfterCalls
