-- Lemmas of src/stores.rt: the bytes of a piece stored one by one, and strings without escapes.
pub mod PieceStores
pub mod Unescaped
