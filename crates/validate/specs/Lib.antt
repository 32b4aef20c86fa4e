-- What the functions of this crate promise, in terms of the definitions of `document`.
-- Checks: what `check` promises; the contracts of reader and printer rest on it.
pub mod Checks
-- What serves the contracts of private functions alone.
pub mod internal
