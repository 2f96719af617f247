-- The moves of pages.
pub mod PageMoves
pub mod MovedPages
pub mod MoveAttempts
pub mod AddedMoves
