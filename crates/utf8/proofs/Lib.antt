-- Theorems over the definitions of `specs`, and the lemmas under them and under the contracts of the functions. The theorems are those that docs/STATEMENTS.md names.

-- Theorems: the two definitions of UTF-8 agree; plain tables, computed.
pub mod Agree
pub mod Plain
-- Lemmas.
pub mod Rows
pub mod Walk
pub mod Ascii
pub mod Column
pub mod Decode
pub mod PositionBounds
