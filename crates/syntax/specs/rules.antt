-- What a reader of the proofs has to believe: byte classes, concrete syntax, expressions with their places, and faults 3 to 6. Document 01.
-- No scan is in it.
pub mod Byte
pub mod Syntax
pub mod Expression
pub mod Fault
pub mod Atoms
