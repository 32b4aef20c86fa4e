-- What everything else stands on: the limits and the numbers answered, by name (rules), the refusals of the code, and bytes written one after another (Adds).
pub mod rules
pub mod Refusals
pub mod Adds
