-- Theorems over the definitions of `specs`, and the lemmas under them. The theorems are those that docs/STATEMENTS.md names.

-- Theorems: the scan and the rules agree, both ways; symbols and strings are code points; where expressions stand.
pub mod SyntaxAccepted
pub mod SyntaxOrFault
pub mod FaultsRefused
pub mod Atoms
pub mod ExpressionsInBytes
-- Theorems that are computed: examples and plain tables.
pub mod Examples
pub mod Plain
-- Lemmas.
pub mod Strings
pub mod Items
pub mod Runs
pub mod Levels
pub mod Ascii
pub mod Escapes
pub mod BeforeFault
pub mod LeavesAndBrackets
pub mod LocatedDepth
pub mod ByteClasses
