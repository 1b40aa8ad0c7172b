pub mod NameLemmas
pub mod Contexts
pub mod Moves
pub mod Reading
pub mod Parsing
pub mod LevelLemmas
pub mod Seen
pub mod Taken
pub mod Walk
pub mod Found
mod Powers
