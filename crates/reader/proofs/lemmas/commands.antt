-- Lemmas for commands.rt: the classes that count in a command and in a block's content, the loops over blocks and their turns, and a whole imperative text.
pub mod BlockLoops
pub mod BlockTurns
pub mod CommandClasses
pub mod WholeText
