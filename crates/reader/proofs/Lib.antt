-- What other crates cite (`Pools`: the pool is at most as long as the text), and the lemmas that serve the contracts.
pub mod Pools
pub mod lemmas
