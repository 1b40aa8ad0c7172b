pub mod Mating
pub mod Bare
pub mod Naming
pub mod Rows
pub mod Copies
pub mod Lineages
pub mod Owning
pub mod Walked
