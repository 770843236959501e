-- The first line of a block.
use Rattle.std.specs.Prelude.{ℕ, ◌+◌, Bool, List, ◌==◌, drop}
use Rattle.std.specs.List.{position_or_len}

abbrev pub is_line_end : ℕ → Bool
is_line_end c = c == 10

-- what stands after the first LF: nothing, if there is none
abbrev pub after_line : List ℕ → List ℕ
after_line block = drop (position_or_len is_line_end block + 1) block
