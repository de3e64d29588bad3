-- What a volume means, and what a read and a write of block n answer and leave.
use Rattle.std.specs.Prelude.{◌≡◌, ℕ, ◌<◌, ◌≤◌, Bool, cond, List, length, Ok, Err, Result, ◌==◌, nat_lt}
use Rattle.volume.specs.declared.answers.ReadRefusal.{ReadRefusal}
use Rattle.volume.specs.declared.answers.ReadRefusal.TheVariants as reads
use Rattle.volume.specs.declared.answers.WriteRefusal.{WriteRefusal}
use Rattle.volume.specs.declared.answers.WriteRefusal.TheVariants as writes

-- a block is its bytes, or lost
pub data Block : Type 0 where
  sound : List ℕ → Block
  lost : Block

-- Block n, below the count, is the bottom block at n's place. The bottom is the volume under all piles.
pub record Meaning : Type 0 where
  pub count : ℕ
  pub writable : Bool
  pub place : ℕ → ℕ
  pub bottom : ℕ → Block

-- What every volume's meaning keeps.
pub record Sound (m : Meaning) : Type 0 where
  -- at most 1,048,576 blocks
  pub few : m.count ≤ 1048576
  -- different blocks lie at different places
  pub apart : (i j : ℕ) → i < m.count → j < m.count → m.place i ≡ m.place j → i ≡ j
  -- a sound block has 512 bytes
  pub whole : (p : ℕ) (bytes : List ℕ) → m.bottom p ≡ sound bytes → length bytes ≡ 512

abbrev pub block_of : Meaning → ℕ → Block
block_of m n = m.bottom (m.place n)

-- Reading

abbrev pub answer_of : Block → Result (Unit {0}) ReadRefusal
answer_of (sound bytes) = Ok tt
answer_of lost = Err reads.Lost

abbrev pub bytes_or : List ℕ → Block → List ℕ
bytes_or before (sound bytes) = bytes
bytes_or before lost = before

abbrev pub read_answer : Meaning → ℕ → Result (Unit {0}) ReadRefusal
read_answer m n = cond (nat_lt n m.count) (answer_of (block_of m n)) (Err reads.Beyond)

-- the buffer after a read, which held `before`
abbrev pub read_buffer : Meaning → ℕ → List ℕ → List ℕ
read_buffer m n before = cond (nat_lt n m.count) (bytes_or before (block_of m n)) before

-- Writing

abbrev pub write_answer : Meaning → ℕ → Result (Unit {0}) WriteRefusal
write_answer m n = cond (nat_lt n m.count) (cond m.writable (Ok tt) (Err writes.Protected)) (Err writes.Beyond)

-- a bottom with these bytes at place p, and every other place as it was
abbrev pub with_block : (ℕ → Block) → ℕ → List ℕ → ℕ → Block
with_block bottom p bytes k = cond (k == p) (sound bytes) (bottom k)

abbrev pub with_bottom : Meaning → (ℕ → Block) → Meaning
with_bottom m bottom = record { count = m.count; writable = m.writable; place = m.place; bottom = bottom }

-- the volume after a write, accepted or refused
abbrev pub written : Meaning → ℕ → List ℕ → Meaning
written m n bytes =
    cond (nat_lt n m.count) (cond m.writable (with_bottom m (with_block m.bottom (m.place n) bytes)) m) m
