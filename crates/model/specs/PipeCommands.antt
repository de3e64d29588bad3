-- The pipe commands: the questions in turn, and what each does.
use Rattle.std.specs.Prelude.{ℕ, ◌+◌, Bool, not, ◌&&◌, List, [], ◌∷◌, Some, ◌==◌, nat_le, nat_lt}
use Rattle.volume.specs.Meanings.{Block, sound, lost, block_of}
use Rattle.model.specs.declared.pipe.Access.TheVariants.{Reading}
use Rattle.model.specs.declared.pipe.Pipe.{Pipe}
use Rattle.model.specs.declared.pipe.Area.{Area}
use Rattle.model.specs.Answers.{Answer, bare, pipe, opened, block, no_block}
use Rattle.model.specs.Worlds.{World, with_pipes, ask, given}
use Rattle.model.specs.Sectors.{area_end, stored}
use Rattle.model.specs.Pipes.{state_of, is_writing, is_reading, is_open, may_name, any, named, named_writing, closed_named, lowest_unused, next_start, exchanged, inserted, new_pipe, spanning, accessed, closed}
use Rattle.model.specs.Gaps.{best_gap}

-- Area Initialize: does the volume take writes? is the length at least 1 and the sum below 32,768? is the sum at most the count?

abbrev pub area_questions : World → ℕ → ℕ → List (Bool × Answer)
area_questions w first blocks =
    (w.volume.writable, bare 0x8D) ∷
    (nat_le 1 blocks && nat_lt (first + blocks) 32768, pipe 0x0E) ∷
    (nat_le (first + blocks) w.volume.count, bare 0x8E) ∷
    []

-- every pipe is removed
abbrev pub area_done : World → ℕ → ℕ → Answer × World
area_done w first blocks = (
  pipe 0x00,
  record { semaphores = w.semaphores; area = Some (record { first = first; blocks = blocks }); pipes = []; volume = w.volume },
)

-- Open Write: may a pipe have the name? is none of the name open for write? does a gap give a block? is a number unused?

abbrev pub open_write_questions : World → Area → ℕ → List (Bool × Answer)
open_write_questions w a n =
    (may_name n, pipe 0x0E) ∷
    (not (any (named_writing n) w.pipes), pipe 0x0B) ∷
    (nat_lt 0 (best_gap a w.pipes).gives, pipe 0x0D) ∷
    []

-- the reply has the state that the pipe now has, here and in Open Read
abbrev pub open_write_done : World → Area → ℕ → ℕ → Answer × World
open_write_done w a n k = (
  opened k (state_of (new_pipe k n (best_gap a w.pipes).from)),
  with_pipes w (inserted (best_gap a w.pipes).below (new_pipe k n (best_gap a w.pipes).from) w.pipes),
)

abbrev pub open_write_in : World → ℕ → Area → Answer × World
open_write_in w n a = ask w (open_write_questions w a n) (given w (lowest_unused w.pipes) (pipe 0x0D) (open_write_done w a n))

-- Open Read: may a pipe have the name? has one the name? is one of these not open?

abbrev pub open_read_questions : World → ℕ → List (Bool × Answer)
open_read_questions w n =
    (may_name n, pipe 0x0E) ∷
    (any (named n) w.pipes, pipe 0x0C) ∷
    []

abbrev pub open_read_done : World → Pipe → Answer × World
open_read_done w p = (opened p.number (state_of (accessed p Reading)), with_pipes w (exchanged p.number (accessed p Reading ∷ []) w.pipes))

abbrev pub open_read_in : World → ℕ → Area → Answer × World
open_read_in w n a = ask w (open_read_questions w n) (given w (closed_named n w.pipes) (pipe 0x0B) (open_read_done w))

-- Pipe Read: is a pipe of the number in the table? is it open for read? is the length 512? is a block left? Then what a
-- sector read would answer where the volume refuses.

abbrev pub pipe_read_questions : World → ℕ → Pipe → List (Bool × Answer)
pipe_read_questions w length p =
    (is_reading p.access, no_block 0x09) ∷
    ((length == 512), no_block 0x0E) ∷
    (nat_lt p.start p.end, no_block 0x08) ∷
    (nat_lt p.start w.volume.count, bare 0x8E) ∷
    []

-- the block at its start is handed out, and the start raised
abbrev pub pipe_read_done : World → Pipe → Block → Answer × World
pipe_read_done w p (sound bytes) = (block bytes, with_pipes w (exchanged p.number (spanning p (p.start + 1) p.end ∷ []) w.pipes))
pipe_read_done w p lost = (bare 0x8B, w)

abbrev pub pipe_read_of : World → ℕ → Pipe → Answer × World
pipe_read_of w length p = ask w (pipe_read_questions w length p) (pipe_read_done w p (block_of w.volume p.start))

-- Pipe Write: is a pipe of the number in the table? is it open for write? is the length 512? is its end below the next start?
-- Then what a sector write would answer where the volume refuses.

abbrev pub pipe_write_questions : World → Area → ℕ → Pipe → List (Bool × Answer)
pipe_write_questions w a length p =
    (is_writing p.access, pipe 0x09) ∷
    ((length == 512), pipe 0x0E) ∷
    (nat_lt p.end (next_start p.number w.pipes (area_end a)), pipe 0x0A) ∷
    (nat_lt p.end w.volume.count, bare 0x8E) ∷
    (w.volume.writable, bare 0x8D) ∷
    []

-- the block is put at its end, and the end raised
abbrev pub pipe_write_done : World → List ℕ → Pipe → Answer × World
pipe_write_done w bytes p = (
  pipe 0x00,
  record {
    semaphores = w.semaphores;
    area = w.area;
    pipes = exchanged p.number (spanning p p.start (p.end + 1) ∷ []) w.pipes;
    volume = stored w.volume p.end bytes;
  },
)

abbrev pub pipe_write_of : World → Area → ℕ → List ℕ → Pipe → Answer × World
pipe_write_of w a length bytes p = ask w (pipe_write_questions w a length p) (pipe_write_done w bytes p)

-- Close: is a pipe of the number in the table? is it open?

abbrev pub close_questions : Pipe → List (Bool × Answer)
close_questions p = (is_open p.access, pipe 0x09) ∷ []

abbrev pub close_done : World → Pipe → Answer × World
close_done w p = (pipe 0x00, with_pipes w (exchanged p.number (closed p) w.pipes))

abbrev pub close_of : World → Pipe → Answer × World
close_of w p = ask w (close_questions p) (close_done w p)
