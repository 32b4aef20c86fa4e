-- Theorems over the definitions of `specs`, and the lemmas under them. The theorems are those that docs/STATEMENTS.md names.

-- Theorems: names and significance.
pub mod Names
pub mod Significance
-- Theorems that are computed: examples and plain tables.
pub mod Rows
pub mod PlainNames
pub mod PlainCharacters
pub mod PlainInside
-- Lemmas.
pub mod Same
pub mod EachRow
pub mod Alternatives
pub mod Characters
