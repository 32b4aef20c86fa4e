-- Lemmas for nested.rt: the expressions at the top of a nested text.
pub mod TopExpressions
