-- The commands, and which part of which block a sector is.
use Rattle.std.specs.Prelude.{ℕ, ◌*◌, ◌/◌, ◌%◌, List}
use Rattle.packet.specs.declared.command.Size.{Size}
use Rattle.packet.specs.declared.command.Size.TheVariants.{Bytes128, Bytes256, Bytes256Again, Bytes512}

-- a size, a drive, a sector; a name; a pipe's number and a length; the data
pub data Command : Type 0 where
  read : Size → ℕ → ℕ → Command
  write : Size → ℕ → ℕ → List ℕ → Command
  lock : ℕ → Command
  unlock : ℕ → Command
  initialize_semaphores : Command
  status : ℕ → Command
  initialize_area : ℕ → ℕ → Command
  open_write : ℕ → Command
  open_read : ℕ → Command
  pipe_read : ℕ → ℕ → Command
  pipe_write : ℕ → ℕ → List ℕ → Command
  close : ℕ → Command

abbrev pub size_bytes : Size → ℕ
size_bytes Bytes128 = 128
size_bytes Bytes256 = 256
size_bytes Bytes256Again = 256
size_bytes Bytes512 = 512

-- With k sectors of that size a block, sector s is part s mod k of block s div k.
abbrev pub per_block : Size → ℕ
per_block z = 512 / size_bytes z

abbrev pub block_of : Size → ℕ → ℕ
block_of z sector = sector / per_block z

abbrev pub first_byte : Size → ℕ → ℕ
first_byte z sector = sector % per_block z * size_bytes z
