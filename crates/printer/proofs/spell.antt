-- Lemmas of src/spell.rt: the nodes that stand in a table, and the parts of their spellings.
pub mod StoredNodes
pub mod Valueless
pub mod ElementParts
pub mod Siblings
pub mod NodeSpelled
