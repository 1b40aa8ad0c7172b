pub mod Told
pub mod Refusals
pub mod Pieces
pub mod Trees
pub mod Keepers
pub mod Going
pub mod Surveys
pub mod LastLevels
