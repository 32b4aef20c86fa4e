-- Definitions that serve the contracts of private functions. No contract of another crate cites them.
-- TableWords: what the words of a table say of its nodes, whatever words they are (faults.rt, index.rt).
pub mod TableWords
-- IdIndex: the index of the ids of blocks (index.rt).
pub mod IdIndex
-- EnteredIds: the ids that an index knows (index.rt, faults.rt).
pub mod EnteredIds
-- DocumentTable: words and bytes that begin with the table and the pool of a document (faults.rt), and those that are lent (lent.rt).
pub mod DocumentTable
-- DraftWalk: the walk that decides whether words and pool are the table of a draft (draft.rt, record.rt, values.rt).
pub mod DraftWalk
-- CheckNumbers: the answer of the check of a table (faults.rt).
pub mod CheckNumbers
