-- What the contracts of private functions are said with; no other crate needs it.
pub mod BlockWalk
pub mod Counts
pub mod Filling
pub mod FirstExpressions
pub mod FirstGroups
pub mod JudgedText
pub mod ParameterValue
pub mod RunStands
pub mod Tape
pub mod TapeWord
pub mod Walk
pub mod WalkAnswer
pub mod Walks
