-- The tables as Status tells them: the semaphore names, the pipe names by number, the pipe pointers in the table's order.
use Rattle.std.specs.Prelude.{ℕ, zero, suc, ◌-◌, ◌*◌, ◌/◌, ◌%◌, cond, List, [], ◌∷◌, ◌++◌, length, replicate, Some, None, Option, ◌==◌}
use Rattle.packet.specs.Packets.{name_bytes}
use Rattle.model.specs.declared.pipe.Pipe.{Pipe}
use Rattle.model.specs.declared.pipe.Area.{Area}
use Rattle.model.specs.Semaphores.{blank}
use Rattle.model.specs.Sectors.{area_end}
use Rattle.model.specs.Pipes.{low_name, high_name, find, state_of}

-- the bytes of each, one behind the other
abbrev pub bytes_of : {X : Type 0} → (X → List ℕ) → List X → List ℕ
bytes_of f [] = []
bytes_of f (x ∷ xs) = f x ++ bytes_of f xs

abbrev pub semaphore_table : List ℕ → List ℕ
semaphore_table names = bytes_of name_bytes names

-- Names: 64 of them, by number. An unused number, and every number without an area, has blanks.

abbrev pub pipe_name : Option Pipe → ℕ
pipe_name None = blank
pipe_name (Some p) = p.name

abbrev pub entry_name : List Pipe → ℕ → ℕ
entry_name ps k = cond (k == 0) low_name (cond (k == 63) high_name (pipe_name (find k ps)))

-- n numbers from k on
abbrev pub counting : ℕ → ℕ → List ℕ
counting zero k = []
counting (suc n) k = k ∷ counting n (suc k)

abbrev pub name_table : Option Area → List Pipe → List ℕ
name_table None ps = bytes_of name_bytes (replicate 64 blank)
name_table (Some a) ps = bytes_of (λ k. name_bytes (entry_name ps k)) (counting 64 0)

-- Pointers: number, start and end as bytes from the volume's first, each of three bytes with the most significant first, and
-- the state. Zeros follow entry 63, and stand everywhere without an area.

abbrev pub byte_address : ℕ → List ℕ
byte_address n = (n * 512 / 65536 % 256) ∷ (n * 512 / 256 % 256) ∷ (n * 512 % 256) ∷ []

abbrev pub pointer : ℕ → ℕ → ℕ → ℕ → List ℕ
pointer number start end state = number ∷ (byte_address start ++ (byte_address end ++ (state ∷ [])))

abbrev pub pipe_pointer : Pipe → List ℕ
pipe_pointer p = pointer p.number p.start p.end (state_of p)

-- an end of the area: nothing stands there, and its state is 80h all the same
abbrev pub end_pointer : ℕ → ℕ → List ℕ
end_pointer number at = pointer number at at 0x80

abbrev pub padded : ℕ → List ℕ → List ℕ
padded n bytes = bytes ++ replicate (n - length bytes) 0x00

abbrev pub pointer_table : Option Area → List Pipe → List ℕ
pointer_table None ps = replicate 512 0x00
pointer_table (Some a) ps = padded 512 (end_pointer 0 a.first ++ (bytes_of pipe_pointer ps ++ end_pointer 63 (area_end a)))

-- 0: names, then pointers; 1: names; 2: pointers; 3: semaphores
abbrev pub tables_asked : List ℕ → Option Area → List Pipe → ℕ → List ℕ
tables_asked names a ps selector =
    cond (selector == 0) (name_table a ps ++ pointer_table a ps) (
    cond (selector == 1) (name_table a ps) (
    cond (selector == 2) (pointer_table a ps)
    (semaphore_table names)))
