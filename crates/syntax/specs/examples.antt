-- Texts with what the scan finds in them, which is computed, and byte classes and escapes once more as plain tables. They judge the definitions.
pub mod Scanned
pub mod Plain
