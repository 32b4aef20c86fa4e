-- The ways through printing (Answers), laws of spellings that several passes cite (Appended, SpellingLength), and the lemmas of each source file.
pub mod Answers
pub mod Appended
pub mod SpellingLength
