-- Laws of what is put and printed: numerals (Decimals), lines (Lines, Lengths), bytes put one after another (Puts), whole outputs (Printed, Judged).
pub mod Puts
pub mod Decimals
pub mod Lines
pub mod Lengths
pub mod Printed
pub mod Judged
pub mod Faults
