-- The limits of docs/format/REFUSALS.md, section 2, each named once.
use Rattle.std.specs.Prelude.{ℕ}

-- the least length of a BinaryJson and of a Fractured JSON document, and the greatest of both, in bytes
abbrev pub least_binary : ℕ
least_binary = 12

abbrev pub least_fractured : ℕ
least_fractured = 4

abbrev pub longest : ℕ
longest = 16_777_216

-- how deep containers may be nested; the root container is 1
abbrev pub deepest : ℕ
deepest = 64

-- the most keys that a key table has room for
abbrev pub most_keys : ℕ
most_keys = 4_096

-- the bench: the most characters in a line, the marks that it lends (one for each word that the tree of a frame can
-- have), and the keys that its table has room for
abbrev pub longest_line : ℕ
longest_line = 32_768

abbrev pub bench_marks : ℕ
bench_marks = 4_094

abbrev pub bench_keys : ℕ
bench_keys = 4_096
