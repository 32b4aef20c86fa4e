-- Definitions that serve the contracts of private functions: escapes by number (Escape), pieces (PieceSeen), runs of plain bytes (Run) and the steps through a string (StringStep).
pub mod Escape
pub mod PieceSeen
pub mod Run
pub mod StringStep
