-- Lemmas for walk.rt: what `look` tells of the text, one turn of the walk, its loops, and its counts.
pub mod Counts
pub mod FirstToken
pub mod ListItems
pub mod LoopInvariant
pub mod OneTurn
pub mod QuotedStrings
pub mod Refusals
pub mod SeenExpressions
