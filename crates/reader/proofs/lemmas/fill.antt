-- Lemmas for fill.rt: stores one after the other, rows written from the tape, and that what is written is the document's node table, places and pool.
pub mod DocumentRows
pub mod ElementValues
pub mod EntryValues
pub mod Rows
pub mod RunWrites
pub mod SingleValues
pub mod Stores
pub mod WholeDocument
