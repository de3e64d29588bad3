-- Sector reads and writes: the questions in turn, and what is read and written.
use Rattle.std.specs.Prelude.{ℕ, ◌+◌, Bool, true, false, not, ◌&&◌, ◌||◌, List, [], ◌∷◌, Some, None, Option, ◌==◌, nat_le, nat_lt}
use Rattle.volume.specs.Meanings.{Block, sound, lost, Meaning, block_of, with_bottom, with_block}
use Rattle.volume.specs.Parts.{part, with_part}
use Rattle.packet.specs.declared.command.Size.{Size}
use Rattle.packet.specs.Commands.{size_bytes, first_byte}
use Rattle.packet.specs.Commands as sectors
use Rattle.model.specs.declared.pipe.Area.{Area}
use Rattle.model.specs.Answers.{Answer, bare, sector}
use Rattle.model.specs.Worlds.{World, with_volume}

-- one past the last block of the area
abbrev pub area_end : Area → ℕ
area_end a = a.first + a.blocks

abbrev pub within : ℕ → Option Area → Bool
within n None = false
within n (Some a) = nat_le a.first n && nat_lt n (area_end a)

abbrev pub is_sound : Block → Bool
is_sound (sound bytes) = true
is_sound lost = false

-- Reading: is the drive 1? is the block below the count? is it sound?

abbrev pub read_questions : World → ℕ → ℕ → List (Bool × Answer)
read_questions w drive n =
    ((drive == 1), bare 0x87) ∷
    (nat_lt n w.volume.count, bare 0x8E) ∷
    []

abbrev pub sector_answer : ℕ → ℕ → Block → Answer
sector_answer first size (sound bytes) = sector (part bytes first size)
sector_answer first size lost = bare 0x8B

abbrev pub read_done : World → Size → ℕ → Answer × World
read_done w z s = (sector_answer (first_byte z s) (size_bytes z) (block_of w.volume (sectors.block_of z s)), w)

-- Writing: the same; does the volume take writes? is the block outside the pipe area? is it sound, or written whole?

abbrev pub write_questions : World → Size → ℕ → ℕ → List (Bool × Answer)
write_questions w z drive n =
    ((drive == 1), bare 0x87) ∷
    (nat_lt n w.volume.count, bare 0x8E) ∷
    (w.volume.writable, bare 0x8D) ∷
    (not (within n w.area), bare 0x8D) ∷
    (nat_le 512 (size_bytes z) || is_sound (block_of w.volume n), bare 0x8B) ∷
    []

-- data over a block's part, from its first byte on, the rest kept; a lost block has no rest, and is written whole
abbrev pub overwritten : ℕ → List ℕ → Block → List ℕ
overwritten first new (sound bytes) = with_part bytes first new
overwritten first new lost = new

-- the volume with these bytes as block n
abbrev pub stored : Meaning → ℕ → List ℕ → Meaning
stored m n bytes = with_bottom m (with_block m.bottom (m.place n) bytes)

abbrev pub write_done : World → ℕ → ℕ → List ℕ → Answer × World
write_done w n first new = (bare 0x00, with_volume w (stored w.volume n (overwritten first new (block_of w.volume n))))
