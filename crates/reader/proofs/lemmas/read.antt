-- Lemmas for lib.rt: the groups of an answer, the bounds of what it tells, and that a read's parts together keep what the read promises.
pub mod AnswerBounds
pub mod AnswerGroups
pub mod ExpressionPlaces
pub mod FaultPlaces
pub mod Located
pub mod Promises
