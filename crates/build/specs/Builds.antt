-- What building a packet answers, and what it leaves in the buffer.
use Rattle.std.specs.Prelude.{ℕ, ◌^◌, ◌<◌, cond, List, ◌++◌, length, drop, Ok, Err, Result, nat_le}
use Rattle.packet.specs.Commands.{Command, read, write, lock, unlock, initialize_semaphores, status, initialize_area, open_write, open_read, pipe_read, pipe_write, close}
use Rattle.packet.specs.Packets.{packet_of, in_range}
use Rattle.build.specs.declared.refusal.BuildRefusal.{BuildRefusal}
use Rattle.build.specs.declared.refusal.BuildRefusal.TheVariants.{Room, Field}

-- a buffer with bytes over its front
abbrev pub front : List ℕ → List ℕ → List ℕ
front xs buffer = xs ++ drop (length xs) buffer

abbrev pub put_answer : List ℕ → List ℕ → Result ℕ BuildRefusal
put_answer xs buffer = cond (nat_le (length xs) (length buffer)) (Ok (length xs)) (Err Room)

abbrev pub after_put : List ℕ → List ℕ → List ℕ
after_put xs buffer = cond (nat_le (length xs) (length buffer)) (front xs buffer) buffer

abbrev pub build_answer : Command → List ℕ → Result ℕ BuildRefusal
build_answer c buffer = cond (in_range c) (put_answer (packet_of c) buffer) (Err Field)

abbrev pub after_build : Command → List ℕ → List ℕ
after_build c buffer = cond (in_range c) (after_put (packet_of c) buffer) buffer

-- what the fields' types say: a name has 64 bits, a length or a block 16
abbrev pub Typed : Command → Type 0
Typed (read z d s) = Unit {0}
Typed (write z d s b) = Unit {0}
Typed (lock n) = n < 2 ^ 64
Typed (unlock n) = n < 2 ^ 64
Typed initialize_semaphores = Unit {0}
Typed (status k) = Unit {0}
Typed (initialize_area f n) = (f < 2 ^ 16) × (n < 2 ^ 16)
Typed (open_write n) = n < 2 ^ 64
Typed (open_read n) = n < 2 ^ 64
Typed (pipe_read n w) = w < 2 ^ 16
Typed (pipe_write n w b) = w < 2 ^ 16
Typed (close n) = Unit {0}
