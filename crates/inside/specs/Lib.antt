-- What the functions of this crate promise; the names, kinds and rules themselves are those of `elements`.
-- Machine: the states of an element as numbers, which the contracts of `step` and `may_end` cite.
pub mod Machine
-- What serves the contracts of private functions alone.
pub mod internal
