-- What the controller does with each command, and with each packet and each call.
use Rattle.std.specs.Prelude.{ℕ, cond, List, Ok, Err, Result, nat_le}
use Rattle.packet.specs.declared.fault.PacketFault.{PacketFault}
use Rattle.packet.specs.declared.fault.PacketFault.TheVariants.{Empty, NoModifier, Length, Illegal}
use Rattle.packet.specs.Faults.{fault_number}
use Rattle.packet.specs.Commands.{Command, read, write, lock, unlock, initialize_semaphores, status, initialize_area, open_write, open_read, pipe_read, pipe_write, close, block_of, first_byte}
use Rattle.packet.specs.Packets.{decoded, in_range}
use Rattle.model.specs.Answers.{Answer, refused, bare, tables, pipe, no_block}
use Rattle.model.specs.Worlds.{World, ask, given}
use Rattle.model.specs.Semaphores.{lock_questions, lock_done, unlock_questions, unlock_done, initialize_done}
use Rattle.model.specs.Sectors.{read_questions, read_done, write_questions, write_done}
use Rattle.model.specs.Pipes.{find}
use Rattle.model.specs.PipeCommands.{area_questions, area_done, open_write_in, open_read_in, pipe_read_of, pipe_write_of, close_of}
use Rattle.model.specs.Tables.{tables_asked}

abbrev pub obey : World → Command → Answer × World
obey w (read z d s) = ask w (read_questions w d (block_of z s)) (read_done w z s)
obey w (write z d s b) = ask w (write_questions w z d (block_of z s)) (write_done w (block_of z s) (first_byte z s) b)
obey w (lock n) = ask w (lock_questions w n) (lock_done w n)
obey w (unlock n) = ask w (unlock_questions w n) (unlock_done w n)
obey w initialize_semaphores = initialize_done w
obey w (status k) = (tables (tables_asked w.semaphores w.area w.pipes k), w)
obey w (initialize_area f l) = ask w (area_questions w f l) (area_done w f l)
obey w (open_write n) = given w w.area (pipe 0x0F) (open_write_in w n)
obey w (open_read n) = given w w.area (pipe 0x0F) (open_read_in w n)
obey w (pipe_read k l) = given w w.area (no_block 0x0F) (λ a. given w (find k w.pipes) (no_block 0x0C) (pipe_read_of w l))
obey w (pipe_write k l b) = given w w.area (pipe 0x0F) (λ a. given w (find k w.pipes) (pipe 0x0C) (pipe_write_of w a l b))
obey w (close k) = given w w.area (pipe 0x0F) (λ a. given w (find k w.pipes) (pipe 0x0C) (close_of w))

-- What a machine sends, or a tool on the box asks: a packet, with the length of the buffer for its reply, or a command by call.
pub data Request : Type 0 where
  packet : ℕ → List ℕ → Request
  call : Command → Request

-- of a packet that says no command
abbrev pub fault_answer : PacketFault → Answer
fault_answer Empty = refused (fault_number Empty)
fault_answer NoModifier = refused (fault_number NoModifier)
fault_answer Length = refused (fault_number Length)
fault_answer Illegal = bare (fault_number Illegal)

abbrev pub obey_said : World → Result Command PacketFault → Answer × World
obey_said w (Ok c) = obey w c
obey_said w (Err fault) = (fault_answer fault, w)

-- has the reply buffer 1,025 bytes? does the packet say a command? of a call: is every field one that a packet can be built with?
abbrev pub step : World → Request → Answer × World
step w (packet room bytes) = cond (nat_le 1025 room) (obey_said w (decoded bytes)) (refused 1, w)
step w (call c) = cond (in_range c) (obey w c) (refused 6, w)
