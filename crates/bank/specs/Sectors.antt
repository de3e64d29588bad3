-- Plain bytes with a held sector, and what the whole of them means.
use Rattle.std.specs.Prelude.{ℕ, ◌+◌, ◌*◌, ◌/◌, min, Bool, true, false, cond, List, length, drop, Some, None, Option, ◌==◌, nat_lt}
use Rattle.volume.specs.Parts.{part, with_part}
use Rattle.volume.specs.Meanings.{Meaning, Block, sound, lost}
use Rattle.bank.specs.declared.held.Held.{Held}

-- The held sector

-- where the held sector, if any, ends
abbrev pub held_end : Option Held → ℕ
held_end None = 0
held_end (Some held) = 1024 * held.sector + 1024

abbrev pub is_held : Option Held → ℕ → Bool
is_held None sector = false
is_held (Some held) sector = held.sector == sector

-- the bytes with the held sector, if any, put back
abbrev pub settled : List ℕ → Option Held → List ℕ
settled bytes None = bytes
settled bytes (Some held) = with_part bytes (1024 * held.sector) held.bytes

-- Blocks

-- two to a whole sector, at most 1,048,576
abbrev pub block_count : ℕ → ℕ
block_count n = min (2 * (n / 1024)) 1048576

abbrev pub block_bytes : List ℕ → ℕ → List ℕ
block_bytes bytes n = part bytes (512 * n) 512

-- the bytes with other bytes as block n
abbrev pub overwritten : List ℕ → ℕ → List ℕ → List ℕ
overwritten bytes n block = with_part bytes (512 * n) block

-- the bytes after a write of block n
abbrev pub bank_with : List ℕ → ℕ → List ℕ → List ℕ
bank_with bytes n block = cond (nat_lt n (block_count (length bytes))) (overwritten bytes n block) bytes

-- the first byte of block n
abbrev pub bank_byte : List ℕ → ℕ → Option ℕ
bank_byte bytes n = cond (nat_lt n (block_count (length bytes))) (Some (512 * n)) None

-- what lies past the last block: no block holds it
abbrev pub beyond : List ℕ → List ℕ
beyond bytes = drop (512 * block_count (length bytes)) bytes

-- none below the count is lost
abbrev pub bottom_of : List ℕ → ℕ → Block
bottom_of bytes k = cond (nat_lt k (block_count (length bytes))) (sound (block_bytes bytes k)) lost

-- what plain bytes mean
abbrev pub bank_meaning : List ℕ → Meaning
bank_meaning bytes = record {
  count = block_count (length bytes);
  writable = true;
  place = λ n. n;
  bottom = bottom_of bytes;
}
