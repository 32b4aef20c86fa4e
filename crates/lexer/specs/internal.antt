-- Definitions that serve the contracts of private functions: names told by their first bytes, and the steps of the scan.
pub mod Name
pub mod Step
