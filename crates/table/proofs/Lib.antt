pub mod Stored
pub mod Parts
pub mod Titled
pub mod Stores
