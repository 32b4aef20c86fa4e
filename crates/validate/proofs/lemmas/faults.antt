-- Lemmas for the functions of faults.rt, the search for faults 15 to 18.
-- The children of a node, found by their end words, and the cells that a table's head demands of rows below it.
pub mod Children
-- The search for a row with another number of cells.
pub mod BadRows
-- The entries and the bad row of a document, as its table and its pool say them.
pub mod TableEntries
-- The four searches, in order, give the check's answer.
pub mod FirstFault
