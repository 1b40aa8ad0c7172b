pub mod Kept
pub mod Fronts
pub mod Longest
pub mod Reading
pub mod Shapes
pub mod Taken
pub mod LineTokens
pub mod Pushed
