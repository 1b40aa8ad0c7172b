pub mod Coming
pub mod Refusals
pub mod Parts
pub mod Calls
pub mod Looks
pub mod Ways
pub mod CallsInTurn
