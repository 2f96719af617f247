pub mod Settings
pub mod Words
pub mod Cut
pub mod Lines
pub mod Parts
pub mod Output
pub mod Errors
