-- Laws about the definitions, which the proofs of functions and of other crates cite.
pub mod Table
pub mod Sides
pub mod Order
pub mod Form
pub mod Squares
pub mod Reading
pub mod Locality
pub mod Presence
pub mod Key
pub mod Cells
pub mod Accepting
pub mod Lengths
pub mod Levels
pub mod Calls
pub mod Answers
