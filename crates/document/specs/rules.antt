-- What a reader of the proofs has to believe: documents, their spellings, tables and faults, and what reading, the check and printing answer. Document 01.
-- No reader, scan or search is in it.
pub mod Value
pub mod Document
pub mod Spelling
pub mod Lead
pub mod Takes
pub mod Record
pub mod Table
pub mod Visits
pub mod Placed
pub mod WellFormed
pub mod Faults
pub mod Canonical
pub mod Account
pub mod CheckAccount
pub mod Pair
pub mod PrintAccount
pub mod Memory
pub mod Command
pub mod Draft
pub mod Readable
