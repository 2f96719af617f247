pub mod Numbers
pub mod Cut
pub mod Hex
pub mod Joined
pub mod Encoded
pub mod Written
pub mod Gathered
pub mod Pieces
pub mod LinesOf
mod Taken
