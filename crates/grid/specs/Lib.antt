-- The definitions that the contracts on stored grids cite, in the order in which they are read.
pub mod Claims
pub mod Test
