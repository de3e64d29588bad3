-- What a store means, which bytes it has, and where a block stands in them.
use Rattle.std.specs.Prelude.{◌≡◌, ℕ, Bool, true, false, cond, nat_lt, refl, ◌*◌, List, Some, None, vec_items, Option, slice_set}
use Rattle.volume.specs.Meanings.{Meaning, Sound}
use Rattle.volume.specs.Parts.{with_part}
use Rattle.image.specs.Images.{header_of, block_byte_of, map_byte_of}
use Rattle.image.specs.Owned.{work_meaning, shelf_meaning}
use Rattle.image.specs.Wholes.{image_sound}
use Rattle.bank.specs.Sectors.{bank_byte, bank_with}
use Rattle.bank.specs.Banks.{all_bytes, meaning_of}
use Rattle.bank.specs.Soundness.{bank_sound}
use Rattle.bank.specs.declared.Bank as banks
use Rattle.store.specs.declared.Store.{Store}
use Rattle.store.specs.declared.Store.TheVariants.{Work, Shelf, Bank}

abbrev pub store_meaning : Store → Meaning
store_meaning (Work image) = work_meaning image
store_meaning (Shelf image) = shelf_meaning image
store_meaning (Bank bank) = meaning_of bank

pub store_sound : (s : Store) → Sound (store_meaning s)
store_sound (Work image) = image_sound true (vec_items image.image.bytes)
store_sound (Shelf image) = image_sound false (vec_items image.image.bytes)
store_sound (Bank bank) = bank_sound (all_bytes bank)

abbrev pub store_bytes : Store → List ℕ
store_bytes (Work image) = vec_items image.image.bytes
store_bytes (Shelf image) = vec_items image.image.bytes
store_bytes (Bank bank) = all_bytes bank

-- where a write of block n puts the block; None where it is refused
abbrev pub block_byte_in : Store → ℕ → Option ℕ
block_byte_in (Work image) n = block_byte_of (header_of (vec_items image.image.bytes)) n
block_byte_in (Shelf image) n = None
block_byte_in (Bank bank) n = bank_byte (all_bytes bank) n

-- the map byte that a write of block n sets to 0, if there is one
abbrev pub map_byte_in : Store → ℕ → Option ℕ
map_byte_in (Work image) n = map_byte_of (header_of (vec_items image.image.bytes)) n
map_byte_in (Shelf image) n = None
map_byte_in (Bank bank) n = None

-- A write in place

-- the bytes with the map byte, if there is one, set to 0
abbrev pub marked : Option ℕ → List ℕ → List ℕ
marked (Some map) bytes = slice_set bytes map 0
marked None bytes = bytes

-- the bytes with the block at its offset, and its map byte set; without an offset, as they were
abbrev pub in_place : Option ℕ → Option ℕ → List ℕ → List ℕ → List ℕ
in_place (Some at) map block bytes = with_part (marked map bytes) at block
in_place None map block bytes = bytes

-- the bytes of a store after a write of block n
abbrev pub store_with : Store → ℕ → List ℕ → List ℕ
store_with s n block = in_place (block_byte_in s n) (map_byte_in s n) block (store_bytes s)

-- every block is written at the same offsets in both
pub record SameOffsets (s t : Store) : Type 0 where
  pub block : (n : ℕ) → block_byte_in t n ≡ block_byte_in s n
  pub map : (n : ℕ) → map_byte_in t n ≡ map_byte_in s n

pub bank_with_lem : (bank : banks.Bank) (n : ℕ) (block : List ℕ) → bank_with (all_bytes bank) n block ≡ store_with (Bank bank) n block
bank_with_lem bank n block = at (nat_lt n (meaning_of bank).count) where
  at : (t : Bool) → cond t (with_part (all_bytes bank) (512 * n) block) (all_bytes bank) ≡ in_place (cond t (Some (512 * n)) None) None block (all_bytes bank)
  at true = refl
  at false = refl
