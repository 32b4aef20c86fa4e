-- Lemmas for the functions of values.rt, the values of an element.
-- Which values are taken before the trees inside an element, and the state after them.
pub mod ValueSteps
pub mod AllBytes
