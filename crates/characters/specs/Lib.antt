-- What the functions of this crate promise; the classes and the characters themselves are those of `syntax` and `elements`.
-- Codes: the classes of bytes as numbers, which the contract of `byte_class` cites.
pub mod Codes
