pub mod Drawings
pub mod Nesting
pub mod Boxes
pub mod Shown
pub mod Lines
pub mod LastPictures
