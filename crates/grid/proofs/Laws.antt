pub mod Claims
pub mod Sound
pub mod Places
pub mod Sized
pub mod Pairs
pub mod Looked
