pub mod Laws
pub mod Soundings
