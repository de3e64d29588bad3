-- The example sessions: the requests of each, and what each request is answered and leaves.
use Rattle.std.specs.Prelude.{ℕ, zero, suc, ◌*◌, true, cond, List, [], ◌∷◌, ◌++◌, map, replicate, None, ◌==◌}
use Rattle.volume.specs.Meanings.{sound, lost}
use Rattle.volume.specs.Parts.{part}
use Rattle.packet.specs.declared.command.Size.TheVariants.{Bytes128, Bytes512}
use Rattle.packet.specs.Commands.{Command, read, write, lock, unlock, initialize_area, open_write, open_read, pipe_read, pipe_write, close}
use Rattle.packet.specs.Packets.{packet_of}
use Rattle.model.specs.Answers.{Answer, refused}
use Rattle.model.specs.Worlds.{World}
use Rattle.model.specs.Semaphores.{blank, no_names}
use Rattle.model.specs.Tables.{pointer_table, counting}
use Rattle.model.specs.Steps.{Request, packet, call, step}
use Rattle.worked.specs.declared.session.Session.{Session}
use Rattle.worked.specs.declared.session.Session.TheVariants.{Area10, Area9, TwoOfAName, Locks, FullTable, Blocks}

abbrev pub made : World
made = record {
  semaphores = no_names;
  area = None;
  pipes = [];
  volume = record { count = 400; writable = true; place = λ n. n; bottom = λ q. cond (q == 7) lost (sound (replicate 512 0)) };
}

-- "A", "B" and "C", each with seven blanks behind it

abbrev A : ℕ
A = 0x4120202020202020

abbrev B : ℕ
B = 0x4220202020202020

abbrev C : ℕ
C = 0x4320202020202020

abbrev put : ℕ → ℕ → Request
put k b = call (pipe_write k 512 (replicate 512 b))

-- by packet, with a reply buffer of 1,025 bytes
abbrev sent : Command → Request
sent c = packet 1025 (packet_of c)

-- A and B share the gap; A's sixth block finds no room until B is closed, empty; C then takes B's number; A is read back
abbrev area10 : List Request
area10 =
    sent (initialize_area 100 10) ∷ sent (open_write A) ∷ sent (open_write B) ∷
    put 1 1 ∷ put 1 2 ∷ put 1 3 ∷ put 1 4 ∷ put 1 5 ∷ put 1 6 ∷
    sent (close 2) ∷ put 1 6 ∷
    sent (open_write C) ∷ sent (close 1) ∷ sent (open_read A) ∷ sent (pipe_read 1 512) ∷
    []

-- A keeps the larger half; then both gaps give two blocks, and the lower is taken
abbrev area9 : List Request
area9 = call (initialize_area 300 9) ∷ call (open_write A) ∷ call (open_write B) ∷ call (open_write C) ∷ []

-- two closed pipes of one name: the lower number is opened; an area that ends beyond the volume
abbrev two_of_a_name : List Request
two_of_a_name =
    call (initialize_area 100 10) ∷ call (open_write A) ∷ put 1 1 ∷ call (close 1) ∷ call (open_write A) ∷ put 2 2 ∷ call (close 2) ∷
    call (open_read A) ∷ call (initialize_area 395 10) ∷
    []

abbrev locks : List Request
locks = sent (lock A) ∷ sent (lock B) ∷ sent (unlock A) ∷ sent (lock B) ∷ sent (lock A) ∷ sent (lock blank) ∷ []

-- names 0 to 31, then 31 again, then 32
abbrev full_table : List Request
full_table = map (λ n. call (lock n)) (counting 32 0) ++ (call (lock 31) ∷ call (lock 32) ∷ [])

abbrev whole : ℕ → ℕ → Request
whole drive sector = call (write Bytes512 drive sector (replicate 512 1))

-- block 7 is lost: no part of it is written until it is written whole; a part keeps the rest
abbrev blocks : List Request
blocks =
    call (write Bytes128 1 28 (replicate 128 1)) ∷
    whole 1 7 ∷
    call (write Bytes128 1 28 (replicate 128 2)) ∷
    call (initialize_area 100 10) ∷
    whole 1 105 ∷
    whole 2 105 ∷
    whole 1 400 ∷
    call (read Bytes512 1 7) ∷
    []

abbrev pub requests : Session → List Request
requests Area10 = area10
requests Area9 = area9
requests TwoOfAName = two_of_a_name
requests Locks = locks
requests FullTable = full_table
requests Blocks = blocks

-- the answer to request i
abbrev answer : World → List Request → ℕ → Answer
answer w [] i = refused 0
answer w (r ∷ rs) zero = (step w r).0
answer w (r ∷ rs) (suc i) = answer (step w r).1 rs i

-- the world after n of them
abbrev after : World → List Request → ℕ → World
after w [] n = w
after w (r ∷ rs) zero = w
after w (r ∷ rs) (suc n) = after (step w r).1 rs n

abbrev pub answer_to : Session → ℕ → Answer
answer_to s i = answer made (requests s) i

abbrev pointer : World → ℕ → List ℕ
pointer w entry = part (pointer_table w.area w.pipes) (8 * entry) 8

abbrev pub pointer_after : Session → ℕ → ℕ → List ℕ
pointer_after s n entry = pointer (after made (requests s) n) entry
