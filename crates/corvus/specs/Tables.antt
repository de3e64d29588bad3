-- How long the reading of a table goes on.
use Rattle.std.specs.Prelude.{ℕ, ◌+◌, length, Option, Some, None}
use Rattle.sheet.specs.Readers.{text_left}
use Rattle.sheet.specs.declared.reader.Reader.{Reader}

-- each line but the last has a byte, and the last is the end or a fault
abbrev pub most_lines : Option Reader → ℕ
most_lines None = 0
most_lines (Some reader) = length (text_left reader) + 1
