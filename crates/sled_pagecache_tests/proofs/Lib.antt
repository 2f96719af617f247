pub mod TwoOpenings
