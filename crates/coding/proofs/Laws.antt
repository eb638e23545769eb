-- Laws about the definitions of the coding, which the proofs of its functions and of other crates cite.
pub mod Packing
pub mod Bits
pub mod Seen
pub mod Places
pub mod Lists
pub mod Sections
pub mod Padding
pub mod Lanes
pub mod Views
pub mod Items
pub mod Lay
pub mod Written
pub mod Calls
pub mod Answers
