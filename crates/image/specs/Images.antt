-- A house image: four numbers of 4 bytes (block count, map offset, block offset, image length), a map byte for each block, and the blocks.
use Rattle.std.specs.Prelude.{ℕ, ◌+◌, ◌*◌, ◌<◌, ◌≤◌, Bool, cond, ◌&&◌, ◌||◌, ◌⊎◌, List, length, Some, None, Ok, Err, Option, Result, ◌==◌, nat_le, nat_lt, slice_index, slice_set}
use Rattle.volume.specs.Parts.{part, with_part}
use Rattle.volume.specs.Meanings.{Block, sound, lost, Meaning}
use Rattle.image.specs.declared.header.Header.{Header}
use Rattle.image.specs.declared.fault.Fault.{Fault}
use Rattle.image.specs.declared.fault.Fault.TheVariants.{Short, Length, Count, Map, Blocks, Overlap}

-- four bytes from i on, most significant first
abbrev pub word : List ℕ → ℕ → ℕ
word bs i = slice_index bs i * 16777216 + slice_index bs (i + 1) * 65536 + slice_index bs (i + 2) * 256 + slice_index bs (i + 3)

abbrev pub head_of : List ℕ → Header
head_of bs = record { count = word bs 0; map = word bs 4; blocks = word bs 8 }

-- The check

-- do n bytes from i on lie behind the header and within an image of that length?
abbrev pub inside : ℕ → ℕ → ℕ → Bool
inside i n len = nat_le 16 i && nat_le (i + n) len

abbrev pub disjoint : ℕ → ℕ → ℕ → ℕ → Bool
disjoint i n j m = nat_le (i + n) j || nat_le (j + m) i

abbrev pub checked_head : Header → ℕ → Result Header Fault
checked_head h len =
    cond (nat_le 1 h.count && nat_le h.count 1048576)
    (cond (inside h.map h.count len)
    (cond (inside h.blocks (512 * h.count) len)
    (cond (disjoint h.map h.count h.blocks (512 * h.count)) (Ok h) (Err Overlap))
    (Err Blocks))
    (Err Map))
    (Err Count)

abbrev pub checked : List ℕ → Result Header Fault
checked bs = cond (nat_le 16 (length bs)) (cond (word bs 12 == length bs) (checked_head (head_of bs) (length bs)) (Err Length)) (Err Short)

-- What an image means

-- no block at all, where the check fails
abbrev pub sound_head : Result Header Fault → Header
sound_head (Ok h) = h
sound_head (Err e) = record { count = 0; map = 0; blocks = 0 }

unfoldable pub header_of : List ℕ → Header
header_of bs = sound_head (checked bs)

abbrev pub block_at : Header → List ℕ → ℕ → Block
block_at h bs k =
    cond (nat_lt k h.count) (cond (slice_index bs (h.map + k) == 0) (sound (part bs (h.blocks + 512 * k) 512)) lost) lost

-- Whether it takes writes is told by its kind: the work image does, the shelf image does not.
abbrev pub image_meaning : Bool → List ℕ → Meaning
image_meaning writable bs = record {
  count = (header_of bs).count;
  writable = writable;
  place = λ n. n;
  bottom = block_at (header_of bs) bs;
}

-- Where a block's bytes stand

abbrev pub map_byte_of : Header → ℕ → Option ℕ
map_byte_of h n = cond (nat_lt n h.count) (Some (h.map + n)) None

abbrev pub block_byte_of : Header → ℕ → Option ℕ
block_byte_of h n = cond (nat_lt n h.count) (Some (h.blocks + 512 * n)) None

-- the image with these bytes as its block n, which is lost no more: every other byte is as it was
abbrev pub stored : Header → List ℕ → ℕ → List ℕ → List ℕ
stored h bs n block = with_part (slice_set bs (h.map + n) 0) (h.blocks + 512 * n) block

-- the bytes of an image after a write of block n
abbrev pub image_with : List ℕ → ℕ → List ℕ → List ℕ
image_with bs n block = cond (nat_lt n (header_of bs).count) (stored (header_of bs) bs n block) bs

-- what the check says of a header, over an image of that length
pub record Fits (h : Header) (len : ℕ) : Type 0 where
  pub few : h.count ≤ 1048576
  pub map_within : h.map + h.count ≤ len
  pub blocks_within : h.blocks + 512 * h.count ≤ len
  pub map_past : 0 < h.count → 16 ≤ h.map
  pub blocks_past : 0 < h.count → 16 ≤ h.blocks
  pub apart : (h.map + h.count ≤ h.blocks) ⊎ (h.blocks + 512 * h.count ≤ h.map)
