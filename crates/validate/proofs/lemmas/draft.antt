-- Lemmas for the functions of draft.rt, the walk over the nodes of a table.
-- What the trees inside an element say, wherever its values stand among its children's trees.
pub mod ValuePlaces
-- When the node of a record is lawful: a text, and an element.
pub mod LawfulNodes
-- The walk over an element's children: the end, one child, and the values.
pub mod ChildWalk
-- A table is that of a draft where a lawful document node stands in it, and nothing else.
pub mod DraftRoot
