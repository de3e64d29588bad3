-- What the controller answers, and the bytes of each reply.
use Rattle.std.specs.Prelude.{ℕ, Bool, false, List, [], ◌∷◌, replicate, ◌==◌}

pub data Answer : Type 0 where
  -- no reply: 1 to 4 for a packet, 6 for a call
  refused : ℕ → Answer
  -- a reply of this one byte
  bare : ℕ → Answer
  -- the bytes of the sector that was read
  sector : List ℕ → Answer
  -- the semaphore result
  semaphore : ℕ → Answer
  -- the bytes of the tables that were asked for
  tables : List ℕ → Answer
  -- the pipe result
  pipe : ℕ → Answer
  -- of an accepted open: the pipe's number and state
  opened : ℕ → ℕ → Answer
  -- of an accepted Pipe Read: the block
  block : List ℕ → Answer
  -- of a Pipe Read without a block: the pipe result
  no_block : ℕ → Answer

-- The bytes of the reply: 1; 129, 257 or 513; 12; 257, 513 or 1,025; 12; 12; 516; 516. The block's length, 512, goes least
-- significant byte first.
abbrev pub reply_of : Answer → List ℕ
reply_of (refused n) = []
reply_of (bare b) = b ∷ []
reply_of (sector bytes) = 0x00 ∷ bytes
reply_of (semaphore r) = 0x00 ∷ r ∷ replicate 10 0x00
reply_of (tables bytes) = 0x00 ∷ bytes
reply_of (pipe r) = 0x00 ∷ r ∷ replicate 10 0x00
reply_of (opened number state) = 0x00 ∷ 0x00 ∷ number ∷ state ∷ replicate 8 0x00
reply_of (block bytes) = 0x00 ∷ 0x00 ∷ 0x00 ∷ 0x02 ∷ bytes
reply_of (no_block r) = 0x00 ∷ r ∷ replicate 514 0x00

-- The result is r: the semaphore result or the pipe result where the reply has one, else the first byte of the reply.
abbrev pub answers : ℕ → Answer → Bool
answers r (refused n) = false
answers r (bare b) = b == r
answers r (sector bytes) = 0x00 == r
answers r (semaphore s) = s == r
answers r (tables bytes) = 0x00 == r
answers r (pipe p) = p == r
answers r (opened number state) = 0x00 == r
answers r (block bytes) = 0x00 == r
answers r (no_block p) = p == r
