-- Theorems over the definitions of `specs`, and the lemmas under them. The theorems are those that docs/STATEMENTS.md names.

-- Theorems: what reading and printing answer.
pub mod Account
pub mod Unaltered
pub mod ReadExactly
pub mod SameDocument
pub mod CheckAccount
pub mod PrintAccount
pub mod PrintingDecided
pub mod RoundTrip
-- Theorems: spellings and their meaning, faults 8 to 12, places.
pub mod NestedMeaning
pub mod RulesTest
pub mod ImperativeRuns
pub mod BlockContents
pub mod Regroup
pub mod Flatten
pub mod NestedForms
pub mod Faults
pub mod PlaceList
pub mod RegroupedDepth
-- Theorems: the table of a document, faults 15 to 18.
pub mod FirstFaults
pub mod IdsAndReferences
pub mod TableDetermines
pub mod Records
pub mod Rebuild
-- Theorems: the canonical spelling.
pub mod CanonicalLayout
pub mod CanonicalLevels
pub mod CanonicalSpells
-- Theorems that are computed: examples and plain tables.
pub mod Judged
pub mod Plain
pub mod EqualRowsExample
-- Opens the definitions for what is computed.
pub mod Compute
-- Lemmas: elements, blocks and values.
pub mod LeadingNames
pub mod RuleClasses
pub mod ElementSteps
pub mod WrittenValues
pub mod ValueOrder
pub mod BlockRules
pub mod BlockParts
pub mod BlockExpressions
-- Lemmas: what is scanned, regrouped and read.
pub mod AtomsAreTexts
pub mod RegroupedAll
pub mod RegroupedTexts
pub mod ReadingDecided
pub mod RefusalNumbers
pub mod PlaceCounts
-- Lemmas: nodes by number, and searches through them.
pub mod NodeOrder
pub mod VisitedNodes
pub mod NumberedLists
pub mod NumberedSearch
pub mod TableRows
pub mod BadRow
pub mod CheckedNode
-- Lemmas: the canonical spelling.
pub mod CanonicalStrings
pub mod CanonicalSymbols
