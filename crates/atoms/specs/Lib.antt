-- Symbols and strings at a place of a text (Atom), and definitions that serve private contracts (internal).
pub mod Atom
pub mod internal
