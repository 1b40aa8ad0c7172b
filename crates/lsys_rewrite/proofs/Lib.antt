pub mod After
pub mod Successors
pub mod CutPlaces
