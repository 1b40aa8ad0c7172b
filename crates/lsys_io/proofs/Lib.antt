pub mod Known
pub mod Feeds
pub mod Absorbed
pub mod SoFar
pub mod Taken
pub mod Puts
