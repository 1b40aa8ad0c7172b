pub mod Spots
pub mod Tags
pub mod Views
pub mod Places
pub mod ViewAnswers
