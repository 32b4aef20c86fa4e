-- The names of numbers that the rules of every crate use.
pub mod Limits
pub mod Numbers
