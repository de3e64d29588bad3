-- A part of a list of bytes, and bytes with a part overwritten.
use Rattle.std.specs.Prelude.{ℕ, ◌+◌, List, ◌++◌, length, take, drop}

-- k bytes, from the given one on
abbrev pub part : List ℕ → ℕ → ℕ → List ℕ
part bytes from k = take k (drop from bytes)

-- the bytes with new ones in place of as many, from the given one on
abbrev pub with_part : List ℕ → ℕ → List ℕ → List ℕ
with_part bytes from new = take from bytes ++ (new ++ drop (from + length new) bytes)
