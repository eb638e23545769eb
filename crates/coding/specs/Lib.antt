-- The definitions of the coding, in the order in which they are read.
pub mod Bytes
pub mod Bits
pub mod Lists
pub mod Sections
pub mod Answers
pub mod Calls
pub mod Places
pub mod Seen
pub mod Numbers
pub mod Lanes
