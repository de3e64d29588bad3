-- The tables in a buffer.
use Rattle.std.specs.Prelude.{ℕ, Bool, cond, List, ◌++◌, map, replicate, Some, None, Option, Ok, Err, Result, nat_le}
use Rattle.build.specs.Builds.{front}
use Rattle.model.specs.declared.pipe.Area.{Area}
use Rattle.model.specs.declared.pipe.Pipe.{Pipe}
use Rattle.status.specs.declared.refusal.TableRefusal.{TableRefusal}
use Rattle.status.specs.declared.refusal.TableRefusal.TheVariants.{NoRoom, TooManyPipes}
use Rattle.model.specs.Semaphores.{blank}
use Rattle.model.specs.Sectors.{area_end}
use Rattle.model.specs.Tables.{bytes_of, entry_name, counting, pipe_pointer, end_pointer}

-- what a buffer holds after a table was put at its front, or refused
abbrev pub after_table : Bool → List ℕ → List ℕ → List ℕ
after_table done table buffer = cond done (front table buffer) buffer

-- by a table's bytes and the buffer's: has it room?
abbrev pub put_answer : ℕ → ℕ → Result (Unit {0}) TableRefusal
put_answer long room = cond (nat_le long room) (Ok tt) (Err NoRoom)

-- by how many pipes there are and the buffer's bytes: has the table room, and the table for these pipes?
abbrev pub pointers_answer : ℕ → ℕ → Result (Unit {0}) TableRefusal
pointers_answer pipes room = cond (nat_le 512 room) (cond (nat_le pipes 62) (Ok tt) (Err TooManyPipes)) (Err NoRoom)

-- the names of the 64 entries
abbrev pub entry_names : Option Area → List Pipe → List ℕ
entry_names None ps = replicate 64 blank
entry_names (Some a) ps = map (entry_name ps) (counting 64 0)

-- the pointers of the pipes, between those of the area's two ends
abbrev pub pointer_entries : Area → List Pipe → List ℕ
pointer_entries a ps = end_pointer 0 a.first ++ (bytes_of pipe_pointer ps ++ end_pointer 63 (area_end a))
