-- Lemmas on the cells of a doubly linked list.
pub mod Standing
pub mod Linking
pub mod Keeping
pub mod Unlinking
pub mod Adding
