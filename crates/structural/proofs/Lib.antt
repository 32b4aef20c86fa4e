-- The demands, the lemmas about printing and the pair that they need, and the ways through the calls from C and Rust.
pub mod Demands
pub mod Called
pub mod PrintedTables
pub mod Pairs
pub mod Calls
