pub mod Packed
pub mod Texts
pub mod InsideName
pub mod InsideWord
pub mod InsideShort
pub mod Tokens
pub mod Scans
pub mod Longest
