-- Laws that every crate cites: of conditions, whole tables, stores, and pieces written one after another.
pub mod Booleans
pub mod Tables
pub mod Stores
pub mod Copied
pub mod Blocks
pub mod Adding
pub mod Refusals
