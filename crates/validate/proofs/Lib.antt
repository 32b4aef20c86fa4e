-- The lemmas that serve the contracts. No other crate cites them.
pub mod lemmas
