-- Lemmas of src/put.rt: the pieces of a spelling, and bytes that stand for themselves.
pub mod Appending
pub mod Pieces
pub mod RawBytes
pub mod RawLast
