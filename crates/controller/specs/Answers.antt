-- The number of each answer to a call, and the answer that it stands for.
use Rattle.std.specs.Prelude.{ℕ, Bool, true, false, cond, List, Ok, Err, Result}
use Rattle.volume.specs.declared.answers.ReadRefusal.{ReadRefusal}
use Rattle.volume.specs.declared.answers.ReadRefusal.TheVariants as reads
use Rattle.volume.specs.declared.answers.WriteRefusal.{WriteRefusal}
use Rattle.volume.specs.declared.answers.WriteRefusal.TheVariants as writes
use Rattle.tables.specs.declared.answers.LockRefusal.{LockRefusal}
use Rattle.tables.specs.declared.answers.LockRefusal.TheVariants as locks
use Rattle.tables.specs.declared.answers.UnlockRefusal.{UnlockRefusal}
use Rattle.tables.specs.declared.answers.UnlockRefusal.TheVariants as unlocks
use Rattle.tables.specs.Locks.{lock_byte, unlock_byte}
use Rattle.model.specs.Answers.{Answer, refused, bare, sector, semaphore, pipe, opened, block, no_block}
use Rattle.controller.specs.declared.answers.SectorRefusal.{SectorRefusal}
use Rattle.controller.specs.declared.answers.SectorRefusal.TheVariants as sectors
use Rattle.controller.specs.declared.answers.PipeRefusal.{PipeRefusal}
use Rattle.controller.specs.declared.answers.PipeRefusal.TheVariants.{Empty, NotOpen, NoRoom, AlreadyOpen, NoPipe, NoSpace, Illegal, NoArea, Lost, Protected, Beyond}
use Rattle.controller.specs.declared.pipes.OpenedPipe.{OpenedPipe}

-- Semaphores: a name of blanks is answered by a lone byte

abbrev pub lock_answer : Result (Unit {0}) LockRefusal → Answer
lock_answer (Ok u) = semaphore (lock_byte (Ok tt))
lock_answer (Err locks.Present) = semaphore (lock_byte (Err locks.Present))
lock_answer (Err locks.Full) = semaphore (lock_byte (Err locks.Full))
lock_answer (Err locks.Blank) = bare (lock_byte (Err locks.Blank))

abbrev pub unlock_answer : Result (Unit {0}) UnlockRefusal → Answer
unlock_answer (Ok u) = semaphore (unlock_byte (Ok tt))
unlock_answer (Err unlocks.Absent) = semaphore (unlock_byte (Err unlocks.Absent))
unlock_answer (Err unlocks.Blank) = bare (unlock_byte (Err unlocks.Blank))

-- Sectors

abbrev pub sector_number : Result (Unit {0}) SectorRefusal → ℕ
sector_number (Ok u) = 0x00
sector_number (Err sectors.Field) = 6
sector_number (Err sectors.NoDrive) = 0x87
sector_number (Err sectors.Lost) = 0x8B
sector_number (Err sectors.Protected) = 0x8D
sector_number (Err sectors.Beyond) = 0x8E

-- a field out of range is refused, and has no reply
abbrev pub sector_write_answer : Result (Unit {0}) SectorRefusal → Answer
sector_write_answer (Ok u) = bare (sector_number (Ok tt))
sector_write_answer (Err sectors.Field) = refused (sector_number (Err sectors.Field))
sector_write_answer (Err sectors.NoDrive) = bare (sector_number (Err sectors.NoDrive))
sector_write_answer (Err sectors.Lost) = bare (sector_number (Err sectors.Lost))
sector_write_answer (Err sectors.Protected) = bare (sector_number (Err sectors.Protected))
sector_write_answer (Err sectors.Beyond) = bare (sector_number (Err sectors.Beyond))

-- of a read: the sector's bytes, or why there are none
abbrev pub read_answer : Result (Unit {0}) SectorRefusal → List ℕ → Answer
read_answer (Ok u) bytes = sector bytes
read_answer (Err r) bytes = sector_write_answer (Err r)

-- a volume's refusal, told of a sector
abbrev pub sector_unread : ReadRefusal → SectorRefusal
sector_unread reads.Beyond = sectors.Beyond
sector_unread reads.Lost = sectors.Lost

abbrev pub sector_unwritten : WriteRefusal → SectorRefusal
sector_unwritten writes.Beyond = sectors.Beyond
sector_unwritten writes.Protected = sectors.Protected

-- Pipes

abbrev pub pipe_number : Result (Unit {0}) PipeRefusal → ℕ
pipe_number (Ok u) = 0x00
pipe_number (Err Empty) = 0x08
pipe_number (Err NotOpen) = 0x09
pipe_number (Err NoRoom) = 0x0A
pipe_number (Err AlreadyOpen) = 0x0B
pipe_number (Err NoPipe) = 0x0C
pipe_number (Err NoSpace) = 0x0D
pipe_number (Err Illegal) = 0x0E
pipe_number (Err NoArea) = 0x0F
pipe_number (Err Lost) = 0x8B
pipe_number (Err Protected) = 0x8D
pipe_number (Err Beyond) = 0x8E

-- did the volume refuse? then the reply is that byte alone
abbrev pub by_volume : PipeRefusal → Bool
by_volume Empty = false
by_volume NotOpen = false
by_volume NoRoom = false
by_volume AlreadyOpen = false
by_volume NoPipe = false
by_volume NoSpace = false
by_volume Illegal = false
by_volume NoArea = false
by_volume Lost = true
by_volume Protected = true
by_volume Beyond = true

abbrev pub pipe_answer : Result (Unit {0}) PipeRefusal → Answer
pipe_answer (Ok u) = pipe (pipe_number (Ok tt))
pipe_answer (Err r) = cond (by_volume r) (bare (pipe_number (Err r))) (pipe (pipe_number (Err r)))

abbrev pub open_answer : Result OpenedPipe PipeRefusal → Answer
open_answer (Ok o) = opened o.number o.state
open_answer (Err r) = pipe_answer (Err r)

-- of a Pipe Read: the block, or why there is none
abbrev pub pipe_read_answer : Result (Unit {0}) PipeRefusal → List ℕ → Answer
pipe_read_answer (Ok u) bytes = block bytes
pipe_read_answer (Err r) bytes = cond (by_volume r) (bare (pipe_number (Err r))) (no_block (pipe_number (Err r)))

-- a volume's refusal, told of a pipe
abbrev pub pipe_unread : ReadRefusal → PipeRefusal
pipe_unread reads.Beyond = Beyond
pipe_unread reads.Lost = Lost

abbrev pub pipe_unwritten : WriteRefusal → PipeRefusal
pipe_unwritten writes.Beyond = Beyond
pipe_unwritten writes.Protected = Protected
