-- The limits of the language, each named once. Document 01, "Characters and brackets", "Numbers answered".
use Rattle.std.specs.Prelude.{ℕ}

-- "text over 65,536 bytes"; a pool, which is no longer than its text, has the same.
abbrev pub most_bytes : ℕ
most_bytes = 65536

-- "more nodes than 4,096"
abbrev pub most_nodes : ℕ
most_nodes = 4096

-- "64 levels"
abbrev pub nested_levels : ℕ
nested_levels = 64

-- "Its brackets nest at most 59 deep."
abbrev pub imperative_levels : ℕ
imperative_levels = 59

-- "4,294,967,295": the parent of the root, a missing width or height, and what a call returns that has no room for its answer.
abbrev pub missing : ℕ
missing = 4294967295
