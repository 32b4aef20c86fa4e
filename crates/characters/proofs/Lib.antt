-- Laws that other crates cite: what the code's class of a byte tells, and symbols byte by byte.
pub mod Classes
pub mod Symbols
