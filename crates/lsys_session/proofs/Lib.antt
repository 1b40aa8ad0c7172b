pub mod Requests
pub mod Whole
pub mod Levels
pub mod Answering
pub mod Editing
pub mod PutLevels
pub mod Querying
