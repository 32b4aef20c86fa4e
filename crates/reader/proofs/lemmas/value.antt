-- Lemmas for value.rt: the values of ids, targets and types, the numbers of a size, and decimal digits.
pub mod Decimals
pub mod SizeValues
pub mod TextValues
