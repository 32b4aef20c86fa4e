-- Examples for every row of the table "Elements", which are computed, and the names, characters and rows once more as plain tables. They judge the definitions.
pub mod Rows
pub mod PlainNames
pub mod PlainCharacters
pub mod PlainInside
