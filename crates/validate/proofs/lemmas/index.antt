-- Lemmas for the functions of index.rt, the index of the ids of blocks.
-- The ids of blocks as the words of a table name them.
pub mod BlockIds
-- The id of a node from its record.
pub mod RowIds
-- The nodes of one slot of the index, and what keeps the index right.
pub mod SlotChains
