-- The definitions of paper 01, in the order in which they are read; the coding's own stand in the crate `coding`.
pub mod Level
pub mod Raster
pub mod Sides
pub mod Square
pub mod Order
pub mod Standing
pub mod Tree
pub mod File
pub mod Reading
pub mod Window
pub mod Key
pub mod Summary
pub mod Change
pub mod Answers
pub mod Calls
