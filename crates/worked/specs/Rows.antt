-- The worked numbers, and what each row says: of the example drive, or of a packet.
use Rattle.std.specs.Prelude.{◌≡◌, ℕ, List, [], ◌∷◌, Some, None, Ok, Err, Result}
use Rattle.volume.specs.Layouts.{Layout, place_of, BlockAt}
use Rattle.placement.specs.Tracks.{track_layout}
use Rattle.placement.specs.declared.shape.Shape.{Shape}
use Rattle.packet.specs.declared.fault.PacketFault.{PacketFault}
use Rattle.packet.specs.Commands.{Command, read, write, lock, unlock, initialize_semaphores, status, initialize_area, open_write, open_read, pipe_read, pipe_write, close, block_of, first_byte}
use Rattle.packet.specs.Packets.{drive_of, sector_of, decoded}
use Rattle.worked.specs.declared.Row.{Row}
use Rattle.worked.specs.declared.Row.TheVariants.{Place, Block, Address, Read}

abbrev pub drive : Shape
drive = record { tracks = 120; sectors = 20; firmware = 4; spares = 16 }

abbrev pub spares : List ℕ
spares = 34 ∷ 67 ∷ []

abbrev pub example : Layout
example = track_layout drive spares

-- a read on drive 1 of the block, from that byte on
abbrev pub Reads : Result Command PacketFault → ℕ → ℕ → Type 0
Reads (Ok (read z d s)) block first = (d ≡ 1) × (block_of z s ≡ block) × (first_byte z s ≡ first)
Reads (Ok (write z d s b)) block first = ⊥
Reads (Ok (lock n)) block first = ⊥
Reads (Ok (unlock n)) block first = ⊥
Reads (Ok initialize_semaphores) block first = ⊥
Reads (Ok (status k)) block first = ⊥
Reads (Ok (initialize_area f n)) block first = ⊥
Reads (Ok (open_write n)) block first = ⊥
Reads (Ok (open_read n)) block first = ⊥
Reads (Ok (pipe_read n w)) block first = ⊥
Reads (Ok (pipe_write n w b)) block first = ⊥
Reads (Ok (close n)) block first = ⊥
Reads (Err e) block first = ⊥

abbrev pub Holds : Row → Type 0
Holds (Place block place) = place_of example block ≡ place
Holds (Block place block) = BlockAt example place block
Holds (Address high low middle drive sector) = (drive_of (0 ∷ high ∷ low ∷ middle ∷ []) ≡ drive) × (sector_of (0 ∷ high ∷ low ∷ middle ∷ []) ≡ sector)
Holds (Read code high low middle block first) = Reads (decoded (code ∷ high ∷ low ∷ middle ∷ [])) block first

abbrev pub rows : List Row
rows =
    Place 1308 (Some 1428) ∷
    Place 599 (Some 679) ∷
    Place 600 (Some 700) ∷
    Place 1240 (Some 1360) ∷
    Place 1999 (Some 2119) ∷
    Place 2000 None ∷
    Block 79 None ∷
    Block 1340 None ∷
    Block 1000 (Some 900) ∷
    Address 0xF1 0xFF 0xFF 1 1048575 ∷
    Address 0x21 0x48 0xD3 1 185160 ∷
    Read 0x12 0x01 0x07 0x00 1 384 ∷
    Read 0x02 0x01 0x10 0x00 8 0 ∷
    Read 0x12 0x01 0x20 0x00 8 0 ∷
    Read 0x22 0x01 0x10 0x00 8 0 ∷
    Read 0x32 0x01 0x08 0x00 8 0 ∷
    []
