pub mod ReadLines
pub mod Requests
pub mod Sessions
pub mod Answers
pub mod Given
pub mod Calls
