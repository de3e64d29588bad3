-- What each accepted request did, told by its command and its answer alone.
use Rattle.std.specs.Prelude.{ℕ, cond, List, [], ◌∷◌, drop, Ok, Err, Result, slice_index}
use Rattle.packet.specs.declared.fault.PacketFault.{PacketFault}
use Rattle.packet.specs.Commands.{Command, read, write, lock, unlock, initialize_semaphores, status, initialize_area, open_write, open_read, pipe_read, pipe_write, close, block_of, first_byte}
use Rattle.packet.specs.Packets.{decoded}
use Rattle.model.specs.Answers.{Answer, answers, reply_of}
use Rattle.model.specs.Steps.{Request, packet, call}
use Rattle.model.specs.Runs.{History}

pub data SemaphoreEffect : Type 0 where
  -- a Lock of the name answered 00h, an Unlock of it answered 80h, an Initialize answered 00h
  locked : ℕ → SemaphoreEffect
  unlocked : ℕ → SemaphoreEffect
  cleared : SemaphoreEffect

pub data BlockEffect : Type 0 where
  -- data laid on a block from one of its bytes on
  written : ℕ → ℕ → List ℕ → BlockEffect
  -- a pipe area over so many blocks from the first on
  covered : ℕ → ℕ → BlockEffect

pub data PipeEffect : Type 0 where
  -- by its number: opened for write, and a block handed out or brought
  begun : ℕ → PipeEffect
  handed_out : ℕ → List ℕ → PipeEffect
  brought : ℕ → List ℕ → PipeEffect

pub data Effect : Type 0 where
  on_semaphores : SemaphoreEffect → Effect
  on_blocks : BlockEffect → Effect
  on_pipes : PipeEffect → Effect
  nothing : Effect

abbrev pub if_answered : ℕ → Answer → Effect → Effect
if_answered result a e = cond (answers result a) e nothing

-- an open's reply has the number at byte 2, and a Pipe Read's the block from byte 4 on
abbrev pub effect : Command → Answer → Effect
effect (read z d s) a = nothing
effect (write z d s b) a = if_answered 0x00 a (on_blocks (written (block_of z s) (first_byte z s) b))
effect (lock n) a = if_answered 0x00 a (on_semaphores (locked n))
effect (unlock n) a = if_answered 0x80 a (on_semaphores (unlocked n))
effect initialize_semaphores a = if_answered 0x00 a (on_semaphores cleared)
effect (status k) a = nothing
effect (initialize_area f l) a = if_answered 0x00 a (on_blocks (covered f l))
effect (open_write n) a = if_answered 0x00 a (on_pipes (begun (slice_index (reply_of a) 2)))
effect (open_read n) a = nothing
effect (pipe_read k l) a = if_answered 0x00 a (on_pipes (handed_out k (drop 4 (reply_of a))))
effect (pipe_write k l b) a = if_answered 0x00 a (on_pipes (brought k b))
effect (close k) a = nothing

abbrev pub effect_said : Result Command PacketFault → Answer → Effect
effect_said (Ok c) a = effect c a
effect_said (Err fault) a = nothing

abbrev pub effect_of : Request → Answer → Effect
effect_of (packet room bytes) a = effect_said (decoded bytes) a
effect_of (call c) a = effect c a

-- the newest first
abbrev pub effects : History → List Effect
effects [] = []
effects (e ∷ h) = effect_of e.request e.answer ∷ effects h
